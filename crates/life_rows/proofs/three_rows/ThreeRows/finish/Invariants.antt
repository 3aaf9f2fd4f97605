use Rattle.std.proofs.Common.{◌≡◌, ◌+◌, ◌^◌}
use Rattle.life_base.specs.declared.cell.TheConstants.{MAX_LEVEL}
use Rattle.life_quad.specs.Grows.{KeepsStore}
use Rattle.life_quad.specs.Keeping.{AddsOnly}
use Rattle.life_rows.specs.Needed.{SomeNextAbove}
use Rattle.life_rows.specs.Stepping.{IsThreeRows}
use Rattle.life_strip.specs.Given.{state_by}
use Rattle.life_rows.proofs.three_rows.ThreeRows.finish.Given as goal

abbrev pub invariant-loop : goal.invariant-loop
invariant-loop g l = record {
  keeps : KeepsStore g.S.Squares l.fn.squares l.squares;
  adds : AddsOnly g.S.Squares.stored (λ P. SomeNextAbove P (2 ^ MAX_LEVEL) l.fn.self.rule (state_by l.fn.self.log.runs)) l.fn.squares l.squares;
  rows : IsThreeRows (g.S.Squares.knows l.squares) (g.S.Squares.content l.squares) l.rows;
  row : l.rows.north_row ≡ l.fn.self.north_row + l.counter;
  rule : l.rows.rule ≡ l.fn.self.rule;
  runs : l.rows.log.runs ≡ l.fn.self.log.runs;
}
