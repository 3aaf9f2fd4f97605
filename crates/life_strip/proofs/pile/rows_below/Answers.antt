use Rattle.std.proofs.Common.{◌-◌, arith}
use Rattle.std.proofs.Math.Pow.{pow_mono}
use Rattle.life_base.specs.declared.cell.TheConstants.{MAX_LEVEL}
use Rattle.life_strip.proofs.pile.rows_below.Goals as goal

pub returns : goal.returns
returns c = let p = pow_mono {i = c.args.level} {j = MAX_LEVEL - 1} (omega arith) in let e = c.requires.enough in omega (arith, p, e)
