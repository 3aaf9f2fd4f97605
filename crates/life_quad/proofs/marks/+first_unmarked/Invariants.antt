use Rattle.std.proofs.Common.{◌-◌}
use Rattle.life_quad.proofs.marks.+first_unmarked.Given as goal

abbrev pub decreases-first_unmarked : goal.decreases-first_unmarked
decreases-first_unmarked l = 528 - l.number
