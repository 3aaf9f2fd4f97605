use Rattle.life_rle.proofs.PlainFaults.{faults_are_plain}
use Rattle.life_rle.proofs.laws.faults_are_plain.Goals as goal

pub returns : goal.returns
returns c = faults_are_plain
