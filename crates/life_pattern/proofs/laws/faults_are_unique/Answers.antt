use Rattle.life_base.specs.declared.cell.TheConstants.{MAX_LEVEL}
use Rattle.life_pattern.proofs.FileLaws as law
use Rattle.life_pattern.proofs.laws.faults_are_unique.Goals as goal

pub returns : goal.returns
returns c = law.faults_are_unique MAX_LEVEL
