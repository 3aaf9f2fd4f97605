use Rattle.std.proofs.Common.{◌-◌, ◌≡◌, ◌+◌, ◌≤◌}
use Rattle.life_quad.specs.Grows.{KeepsStore}
use Rattle.life_quad.specs.Keeping.{AddsOnly}
use Rattle.life_rows.specs.Needed.{SomeNextAbove}
use Rattle.life_rows.specs.Stepping.{IsThreeRows}
use Rattle.life_strip.specs.Given.{state_by}
use Rattle.life_rows.proofs.three_rows.ThreeRows.go_to_row.Given as goal

abbrev pub invariant-loop-self : goal.invariant-loop-self
invariant-loop-self g l = record {
  keeps : KeepsStore g.S.Squares l.fn.squares l.squares;
  adds : AddsOnly g.S.Squares.stored (λ P. SomeNextAbove P (l.row - 1) l.fn.self.rule (state_by l.fn.self.log.runs)) l.fn.squares l.squares;
  rows : IsThreeRows (g.S.Squares.knows l.squares) (g.S.Squares.content l.squares) l.self;
  within : l.self.north_row + 2 ≤ l.row;
  rule : l.self.rule ≡ l.fn.self.rule;
  runs : l.self.log.runs ≡ l.fn.self.log.runs;
}

abbrev pub decreases-loop-self : goal.decreases-loop-self
decreases-loop-self g l = l.row - l.self.north_row
