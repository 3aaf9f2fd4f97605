use Rattle.std.proofs.Common.{◌+◌, ◌*◌}
use Rattle.life_base.specs.Tree.{depth}
use Rattle.life_writer.proofs.node_walk.+walk.Given as goal

-- how deep the square is, where a square that may have a number comes before one that has none
abbrev pub decreases-walk_square : goal.decreases-walk_square
decreases-walk_square g l = 2 * depth (g.O.Orientation.seen l.orientation.now (g.S.Squares.content l.squares.now l.id)) + 1

abbrev pub decreases-walk_new_square : goal.decreases-walk_new_square
decreases-walk_new_square g l = 2 * depth (g.O.Orientation.seen l.orientation.now (g.S.Squares.content l.squares.now l.id))
