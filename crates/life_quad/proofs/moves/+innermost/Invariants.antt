use Rattle.life_base.specs.Tree.{depth}
use Rattle.life_quad.proofs.moves.+innermost.Given as goal

abbrev pub decreases-innermost : goal.decreases-innermost
decreases-innermost g l = depth (g.S.Squares.content l.squares.now l.quarters.nw)
