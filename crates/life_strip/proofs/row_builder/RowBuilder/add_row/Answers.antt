use Rattle.std.proofs.Common.{rules}
use Rattle.life_strip.proofs.row_builder.RowBuilder.add_row.Goals as goal

pub returns-clause-cells : goal.returns-clause-cells
returns-clause-cells g c = search rules
