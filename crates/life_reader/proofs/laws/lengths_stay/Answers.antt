use Rattle.life_reader.proofs.RunFacts as law
use Rattle.life_reader.proofs.laws.lengths_stay.Goals as goal

pub returns : goal.returns
returns c = law.lengths_stay
