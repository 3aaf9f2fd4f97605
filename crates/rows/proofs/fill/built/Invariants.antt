use Rattle.std.proofs.Common.{ℤ}
use Rattle.life_quad.specs.Grows.{KeepsStore}
use Rattle.life_strip.specs.Filling.{IsFilling}
use Rattle.life_strip.specs.Given.{IsAfterRun, IsNextRunStart}
use Rattle.rows.proofs.fill.built.Given as goal

abbrev pub invariant-loop-run : goal.invariant-loop-run
invariant-loop-run g l =
    record {
      filling : IsFilling (g.S.Squares.knows l.squares) (g.S.Squares.content l.squares) l.builder;
      next : (x y : ℤ) → IsAfterRun l.last x y → IsNextRunStart l.builder.runs x y;
      keeps : KeepsStore g.S.Squares l.fn.squares l.squares;
    }
