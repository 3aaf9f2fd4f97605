use Rattle.std.proofs.Common.{◌-◌}
use Rattle.life_slide.proofs.moved.+level_of_side.Given as goal

abbrev pub decreases-level_of_side : goal.decreases-level_of_side
decreases-level_of_side l = 62 - l.level
