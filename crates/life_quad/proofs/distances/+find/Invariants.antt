use Rattle.std.proofs.Common.{◌+◌, ◌*◌}
use Rattle.life_quad.proofs.distances.+find.Given as goal

-- the level, where two squares come before either of them
abbrev pub decreases-find : goal.decreases-find
decreases-find g l = 2 * l.level

abbrev pub decreases-find_in_two : goal.decreases-find_in_two
decreases-find_in_two g l = 2 * l.level + 1
