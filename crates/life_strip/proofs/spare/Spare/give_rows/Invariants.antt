use Rattle.std.proofs.Common.{length}
use Rattle.life_strip.proofs.spare.Spare.give_rows.Given as goal

abbrev pub decreases-loop-row : goal.decreases-loop-row
decreases-loop-row l = length l.rows.items
