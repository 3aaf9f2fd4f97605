use Rattle.life_base.specs.declared.cell.TheConstants.{MAX_LEVEL}
use Rattle.life_mc.proofs.FormatLaws as law
use Rattle.life_mc.proofs.laws.prefixes_are_files.Goals as goal

pub returns : goal.returns
returns c = law.prefixes_are_files MAX_LEVEL
