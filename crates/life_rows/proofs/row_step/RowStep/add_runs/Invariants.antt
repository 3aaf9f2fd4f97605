use Rattle.std.proofs.Common.{◌≡◌, ◌++◌, drop}
use Rattle.life_quad.specs.Grows.{KeepsStore}
use Rattle.life_quad.specs.Keeping.{AddsOnly}
use Rattle.life_rows.specs.Needed.{SomeNextOfRuns}
use Rattle.life_rows.specs.Stepping.{IsBetweenRows, IsThreeRows}
use Rattle.life_strip.specs.Given.{AreNext}
use Rattle.life_rows.proofs.row_step.RowStep.add_runs.Given as goal

abbrev pub invariant-loop-run : goal.invariant-loop-run
invariant-loop-run g l = record {
  keeps : KeepsStore g.S.Squares l.fn.squares l.squares;
  adds : AddsOnly g.S.Squares.stored (λ P. SomeNextOfRuns P l.fn.self.rule (l.fn.self.runs ++ l.runs)) l.fn.squares l.squares;
  rows : IsThreeRows (g.S.Squares.knows l.squares) (g.S.Squares.content l.squares) l.self-inside.rows;
  between : IsBetweenRows l.self-inside.rows;
  next : AreNext l.self-inside.rows.log.runs (drop l.run-index l.runs);
  left : l.self-inside.rows.log.runs ++ drop l.run-index l.runs ≡ l.fn.self.runs ++ l.runs;
  rule : l.self-inside.rows.rule ≡ l.fn.self.rule;
}
