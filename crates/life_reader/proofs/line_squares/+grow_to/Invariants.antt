use Rattle.std.proofs.Common.{◌-◌}
use Rattle.life_base.specs.declared.cell.TheConstants.{MAX_LEVEL}
use Rattle.life_base.specs.Tree.{depth}
use Rattle.life_reader.proofs.line_squares.+grow_to.Given as goal

-- how many levels are above the square
abbrev pub decreases-grow_to : goal.decreases-grow_to
decreases-grow_to g l = MAX_LEVEL - depth (g.S.Squares.content l.squares.now l.id)
