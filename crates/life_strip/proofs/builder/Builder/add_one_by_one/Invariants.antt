use Rattle.std.proofs.Common.{◌≡◌, ◌++◌, drop}
use Rattle.life_quad.specs.Grows.{KeepsStore}
use Rattle.life_quad.specs.Keeping.{AddsOnly}
use Rattle.life_strip.specs.Filling.{IsFilling}
use Rattle.life_strip.specs.Given.{AreNext}
use Rattle.life_strip.specs.Needed.{SomeOfRuns}
use Rattle.life_strip.proofs.builder.Builder.add_one_by_one.Given as goal

abbrev pub invariant-loop-run : goal.invariant-loop-run
invariant-loop-run g l = record {
  filling : IsFilling (g.S.Squares.knows l.squares) (g.S.Squares.content l.squares) l.self;
  next : AreNext l.self.runs (drop l.run-index l.runs);
  left : l.self.runs ++ drop l.run-index l.runs ≡ l.fn.self.runs ++ l.runs;
  keeps : KeepsStore g.S.Squares l.fn.squares l.squares;
  adds : AddsOnly g.S.Squares.stored (λ P. SomeOfRuns P (l.fn.self.runs ++ l.runs)) l.fn.squares l.squares;
}
