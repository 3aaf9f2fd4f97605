use Rattle.life_quad.proofs.LawLemmas.{growing_keeps_cells}
use Rattle.life_quad.proofs.laws.growing_keeps_cells.Goals as goal

pub returns : goal.returns
returns c = growing_keeps_cells
