use Rattle.std.proofs.Common.{rules}
use Rattle.life_rle.proofs.cursor.cursor_after.Goals as goal

pub returns-in-RowEnds : goal.returns-in-RowEnds
returns-in-RowEnds c = search rules
