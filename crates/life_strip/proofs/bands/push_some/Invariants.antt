use Rattle.std.proofs.Common.{◌≡◌, ℕ, ◌+◌, ◌-◌, ◌<◌, ◌≤◌}
use Rattle.life_base.specs.Tree.{Tree}
use Rattle.life_quad.specs.Keeping.{KeepsSquares, AddsOnly}
use Rattle.life_quad.specs.Refused.{SomePart}
use Rattle.life_quad.specs.Store.{four}
use Rattle.life_strip.specs.Band.{cells_among_four}
use Rattle.life_strip.specs.Strip.{FilledTo}
use Rattle.life_strip.proofs.bands.push_some.Given as goal

abbrev pub invariant-loop-square : goal.invariant-loop-square
invariant-loop-square g l = record {
  filled : (want : ℕ → Tree) → FilledTo (g.S.Squares.knows l.fn.squares) (g.S.Squares.content l.fn.squares) 2 want l.fn.spans.items
      (l.column + l.some.start) → ((i : ℕ) → i < 4 → want (l.column + i) ≡ four (cells_among_four l.cells i))
      → FilledTo (g.S.Squares.knows l.squares) (g.S.Squares.content l.squares) 2 want l.spans.items (l.column + l.square);
  keeps : KeepsSquares g.S.Squares.knows g.S.Squares.content g.S.Squares.stored g.S.Squares.most l.fn.squares l.squares;
  within : l.square ≤ l.some.end;
  adds : AddsOnly g.S.Squares.stored (λ P. (i : ℕ) × (i < 4) × SomePart P (four (cells_among_four l.cells i))) l.fn.squares l.squares;
}

abbrev pub decreases-loop-square : goal.decreases-loop-square
decreases-loop-square g l = l.some.end - l.square
