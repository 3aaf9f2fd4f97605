use Rattle.std.proofs.Common.{◌*◌, ◌+◌}
use Rattle.life_base.specs.Tree.{depth}
use Rattle.life_quad.proofs.runs.+span.Given as goal

abbrev pub decreases-set_span : goal.decreases-set_span
decreases-set_span g l = 2 * depth (g.S.Squares.content l.squares.now l.id)

abbrev pub decreases-set_halves : goal.decreases-set_halves
decreases-set_halves g l = 2 * depth (g.S.Squares.content l.squares.now l.left) + 1
