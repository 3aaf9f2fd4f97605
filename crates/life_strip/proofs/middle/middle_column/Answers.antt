use Rattle.std.proofs.Common.{◌-◌, arith}
use Rattle.std.proofs.Math.Pow.{pow_mono}
use Rattle.life_base.specs.declared.cell.TheConstants.{MAX_LEVEL}
use Rattle.life_strip.proofs.middle.middle_column.Goals as goal

pub returns : goal.returns
returns c = let p = pow_mono {i = MAX_LEVEL - 1 - c.args.level} {j = MAX_LEVEL - 1} (omega arith) in omega (arith, p)
