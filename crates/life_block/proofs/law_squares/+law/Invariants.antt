use Rattle.std.proofs.Common.{◌*◌, ◌+◌}
use Rattle.life_block.proofs.law_squares.+law.Given as goal

abbrev pub decreases-next_of : goal.decreases-next_of
decreases-next_of g l = 2 * l.level

abbrev pub decreases-next_of_middle : goal.decreases-next_of_middle
decreases-next_of_middle g l = 2 * l.level + 1
