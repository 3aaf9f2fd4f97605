use Rattle.std.proofs.Common.{arith}
use Rattle.life_base.specs.declared.cell.TheConstants.{MAX_LEVEL}
use Rattle.life_mc.proofs.Outside as law
use Rattle.life_mc.proofs.laws.blank_outside.Goals as goal

pub returns : goal.returns
returns c = law.blank_outside MAX_LEVEL (omega arith)
