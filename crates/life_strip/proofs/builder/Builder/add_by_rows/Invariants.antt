use Rattle.std.proofs.Common.{◌≡◌, ◌++◌, length}
use Rattle.life_quad.specs.Grows.{KeepsStore}
use Rattle.life_quad.specs.Keeping.{AddsOnly}
use Rattle.life_strip.specs.Filling.{IsFilling}
use Rattle.life_strip.specs.Given.{AreNext}
use Rattle.life_strip.specs.Needed.{SomeOfRuns}
use Rattle.life_strip.proofs.builder.Builder.add_by_rows.Given as goal

abbrev pub invariant-loop-left : goal.invariant-loop-left
invariant-loop-left g l = record {
  filling : IsFilling (g.S.Squares.knows l.squares) (g.S.Squares.content l.squares) l.self;
  next : AreNext l.self.runs l.left;
  left : l.self.runs ++ l.left ≡ l.fn.self.runs ++ l.runs;
  keeps : KeepsStore g.S.Squares l.fn.squares l.squares;
  adds : AddsOnly g.S.Squares.stored (λ P. SomeOfRuns P (l.fn.self.runs ++ l.runs)) l.fn.squares l.squares;
}

abbrev pub decreases-loop-left : goal.decreases-loop-left
decreases-loop-left g l = length l.left
