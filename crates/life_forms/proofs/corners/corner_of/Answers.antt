use Rattle.std.proofs.Common.{sym, ◌∙◌, arith}
use Rattle.life_forms.proofs.corners.corner_of.Goals as goal

pub cells_in-requires-clause-life : goal.cells_in-requires-clause-life
cells_in-requires-clause-life c = sym c.is_life.ensures ∙ c.if-not-is_life.false

pub cells_in-requires-clause-enough : goal.cells_in-requires-clause-enough
cells_in-requires-clause-enough c = omega (arith, c.most_squares.ensures, c.if-most_squares-lt-SQUARES_OF_LEVEL_13.false)
