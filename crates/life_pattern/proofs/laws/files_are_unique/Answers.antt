use Rattle.life_base.specs.declared.cell.TheConstants.{MAX_LEVEL}
use Rattle.life_pattern.proofs.Formats as law
use Rattle.life_pattern.proofs.laws.files_are_unique.Goals as goal

pub returns : goal.returns
returns c = law.files_say_one MAX_LEVEL
