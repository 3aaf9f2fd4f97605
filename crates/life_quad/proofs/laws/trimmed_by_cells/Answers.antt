use Rattle.life_quad.proofs.LawLemmas.{trimmed_by_cells}
use Rattle.life_quad.proofs.laws.trimmed_by_cells.Goals as goal

pub returns : goal.returns
returns c = trimmed_by_cells
