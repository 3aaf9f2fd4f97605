use Rattle.life_quad.proofs.LawLemmas.{cells_lie_inside}
use Rattle.life_quad.proofs.laws.cells_lie_inside.Goals as goal

pub returns : goal.returns
returns c = cells_lie_inside
