use Rattle.life_base.specs.declared.cell.TheConstants.{MAX_LEVEL}
use Rattle.life_mc.proofs.FormatLaws as law
use Rattle.life_mc.proofs.laws.files_are_unique.Goals as goal

pub returns : goal.returns
returns c = law.files_are_unique MAX_LEVEL
