use Rattle.life_base.specs.declared.cell.TheConstants.{MAX_LEVEL}
use Rattle.life_mc.proofs.Accepted as law
use Rattle.life_mc.proofs.laws.lines_are_valid.Goals as goal

pub returns : goal.returns
returns c = law.lines_are_valid MAX_LEVEL
