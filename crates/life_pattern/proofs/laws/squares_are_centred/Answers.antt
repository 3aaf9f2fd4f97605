use Rattle.life_pattern.proofs.CentredFacts.{squares-are-centred}
use Rattle.life_pattern.proofs.laws.squares_are_centred.Goals as goal

pub returns : goal.returns
returns c = squares-are-centred
