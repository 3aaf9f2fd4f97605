use Rattle.life_base.specs.declared.cell.TheConstants.{MAX_LEVEL}
use Rattle.life_mc.proofs.Accepted as law
use Rattle.life_mc.proofs.laws.files_are_valid.Goals as goal

pub returns : goal.returns
returns c = law.files_are_valid MAX_LEVEL
