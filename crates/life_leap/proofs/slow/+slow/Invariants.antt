use Rattle.std.proofs.Common.{◌+◌, ◌*◌}
use Rattle.life_leap.proofs.slow.+slow.Given as goal

abbrev pub decreases-middle_above : goal.decreases-middle_above
decreases-middle_above g l = 3 * l.level + 1

abbrev pub decreases-middle_at_pace : goal.decreases-middle_at_pace
decreases-middle_at_pace g l = 3 * l.level + 2

abbrev pub decreases-middle_of_nine_at_pace : goal.decreases-middle_of_nine_at_pace
decreases-middle_of_nine_at_pace g l = 3 * l.level + 6
