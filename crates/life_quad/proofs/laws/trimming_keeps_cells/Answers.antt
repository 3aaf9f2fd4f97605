use Rattle.life_quad.proofs.LawLemmas.{trimming_keeps_cells}
use Rattle.life_quad.proofs.laws.trimming_keeps_cells.Goals as goal

pub returns : goal.returns
returns c = trimming_keeps_cells
