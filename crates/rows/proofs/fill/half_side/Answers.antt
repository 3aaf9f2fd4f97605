use Rattle.std.proofs.Common.{◌-◌, arith}
use Rattle.std.proofs.Math.Pow.{pow_mono}
use Rattle.rows.proofs.fill.half_side.Goals as goal

pub returns-clause-small : goal.returns-clause-small
returns-clause-small c = let small = pow_mono {i = c.args.level - 1} {j = 61} (omega arith) in omega (arith, small)
