use Rattle.std.proofs.Common.{arith}
use Rattle.life_mc.proofs.WholeRows.{columns_kept}
use Rattle.life_mc.proofs.leaf.first_columns.Goals as goal

pub returns : goal.returns
returns c = columns_kept c.args.column c.args.row c.requires (omega (arith, c.ranges.row.fits))
