use Rattle.life_quad.proofs.LawLemmas.{blank_by_cells}
use Rattle.life_quad.proofs.laws.blank_by_cells.Goals as goal

pub returns : goal.returns
returns c = blank_by_cells
