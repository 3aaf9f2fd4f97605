use Rattle.life_quad.proofs.LawLemmas.{known_squares_are_full}
use Rattle.life_quad.proofs.laws.known_squares_are_full.Goals as goal

pub returns : goal.returns
returns c = known_squares_are_full
