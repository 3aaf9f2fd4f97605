use Rattle.std.proofs.Common.{arith}
use Rattle.life_rows.proofs.NextRowLemmas.{cells-none, none-cells}
use Rattle.life_rows.proofs.next_row.has_cells.Goals as goal

pub returns-clause-none : goal.returns-clause-none
returns-clause-none c e = cells-none c.args.at (grind (arith, e))

pub returns-clause-some : goal.returns-clause-some
returns-clause-some c e none = let zero = none-cells c.args.at none in grind (arith, e, zero)
