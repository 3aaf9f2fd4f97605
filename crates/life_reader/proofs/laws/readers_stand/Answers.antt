use Rattle.life_reader.proofs.Standing as law
use Rattle.life_reader.proofs.laws.readers_stand.Goals as goal

pub returns : goal.returns
returns c = law.readers_stand
