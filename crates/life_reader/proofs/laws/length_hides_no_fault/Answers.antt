use Rattle.life_reader.proofs.RefusedPrefixes as law
use Rattle.life_reader.proofs.laws.length_hides_no_fault.Goals as goal

pub returns : goal.returns
returns c = law.length_hides_no_fault
