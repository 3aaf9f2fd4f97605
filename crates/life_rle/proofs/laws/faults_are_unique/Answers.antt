use Rattle.life_rle.proofs.FormatLaws.{faults_are_unique}
use Rattle.life_rle.proofs.laws.faults_are_unique.Goals as goal

pub returns : goal.returns
returns c = faults_are_unique
