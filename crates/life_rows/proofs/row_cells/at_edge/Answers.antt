use Rattle.life_rows.proofs.RowWordLemmas.{at-start}
use Rattle.life_rows.proofs.row_cells.at_edge.Goals as goal

pub returns : goal.returns
returns c words inner = at-start words inner
