use Rattle.life_reader.proofs.RefusedPrefixes as law
use Rattle.life_reader.proofs.laws.faults_stay.Goals as goal

pub returns : goal.returns
returns c = law.faults_stay
