use Rattle.std.proofs.Common.{arith}
use Rattle.life_rows.proofs.NextRowLemmas.{columns-are}
use Rattle.life_rows.proofs.row_cells.columns_around.Goals as goal

pub returns : goal.returns
returns c words place at next = columns-are words place c.args.at c.args.next at next (omega arith) (omega arith)
