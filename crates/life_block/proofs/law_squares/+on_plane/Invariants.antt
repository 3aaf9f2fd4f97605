use Rattle.std.proofs.Common.{◌-◌}
use Rattle.life_base.specs.declared.cell.TheConstants.{MAX_LEVEL}
use Rattle.life_block.proofs.law_squares.+on_plane.Given as goal

abbrev pub decreases-on_plane : goal.decreases-on_plane
decreases-on_plane g l = MAX_LEVEL - l.level
