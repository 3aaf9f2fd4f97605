use Rattle.life_quad.proofs.LawLemmas.{equal_squares_have_one_id}
use Rattle.life_quad.proofs.laws.equal_squares_have_one_id.Goals as goal

pub returns : goal.returns
returns c = equal_squares_have_one_id
