use Rattle.life_quad.proofs.LawLemmas.{equal_by_cells}
use Rattle.life_quad.proofs.laws.equal_by_cells.Goals as goal

pub returns : goal.returns
returns c = equal_by_cells
