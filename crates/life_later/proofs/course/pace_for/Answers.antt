use Rattle.std.proofs.Common.{◌^◌, ◌≤◌, arith}
use Rattle.std.proofs.Math.Pow.{pow_mono}
use Rattle.life_later.proofs.course.pace_for.Goals as goal

pub returns-clause-margin : goal.returns-clause-margin
returns-clause-margin c =
    let f = c.pace_within.ensures.fits in
    let m : 2 ^ c.slowest.result ≤ 2 ^ c.pace_within.result = pow_mono {i = c.slowest.result} {j = c.pace_within.result} c.slowest.ensures in
    omega (arith, f, m)

pub returns-clause-fits : goal.returns-clause-fits
returns-clause-fits c =
    let f = c.pace_within.ensures.fits in
    let m : 2 ^ c.slowest.result ≤ 2 ^ c.pace_within.result = pow_mono {i = c.slowest.result} {j = c.pace_within.result} c.slowest.ensures in
    omega (arith, f, m)
