use Rattle.std.proofs.Common.{◌≡◌, suc, ◌+◌, ◌^◌, ap, arith}
use Rattle.std.proofs.Math.Pow.{pow_mono}
use Rattle.life_base.proofs.Basics.{twice}
use Rattle.life_strip.proofs.PictureLemmas.{power-at_most}
use Rattle.life_strip.proofs.pile.row_level.Goals as goal

pub returns-clause-low : goal.returns-clause-low
returns-clause-low c =
    let b = c.ilog2.ensures.bound in
    let one = power-at_most 1 c.max.result c.ilog2.result (omega (arith, c.max.ensures)) c.ilog2.ensures.next_power_gt in omega (arith, one, b)

pub returns-clause-high : goal.returns-clause-high
returns-clause-high c =
    let most = power-at_most c.ilog2.result c.max.result 60 c.ilog2.ensures.power_le (omega (arith, c.max.ensures, c.requires)) in omega (arith, most)

pub returns-clause-enough : goal.returns-clause-enough
returns-clause-enough c =
    let t = twice c.ilog2.result in
    let next : suc c.ilog2.result ≡ c.ilog2.result + 1 = omega arith in
    let e = ap (λ n. 2 ^ n) next in
    let n = c.ilog2.ensures.next_power_gt in
    omega (arith, t, e, n, c.max.ensures)

pub returns-clause-least : goal.returns-clause-least
returns-clause-least c m two lt within =
    let p = pow_mono {i = m} {j = c.ilog2.result} (omega (arith, lt)) in
    let q = pow_mono {i = 2} {j = m} two in
    let l = c.ilog2.ensures.power_le in
    omega (arith, p, q, l, c.max.ensures, within)
