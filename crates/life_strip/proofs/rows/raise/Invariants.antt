use Rattle.std.proofs.Common.{◌≡◌, ℕ, ◌-◌, ◌^◌, ◌≤◌, ◌∷◌, []}
use Rattle.life_quad.specs.Keeping.{KeepsSquares, AddsOnly}
use Rattle.life_strip.specs.Picture.{picture, IsSoundStrip}
use Rattle.life_strip.specs.Needed.{SomeSquare}
use Rattle.life_strip.proofs.rows.raise.Given as goal

abbrev pub invariant-loop-raised : goal.invariant-loop-raised
invariant-loop-raised g l = record {
  sound : IsSoundStrip (g.S.Squares.knows l.squares) (g.S.Squares.content l.squares) l.raised;
  low : l.raised.level ≤ l.top;
  cells : (i j : ℕ) → picture (g.S.Squares.content l.squares) (l.raised ∷ []) i j ≡ picture (g.S.Squares.content l.fn.squares) (l.fn.strip ∷ []) i j;
  keeps : KeepsSquares g.S.Squares.knows g.S.Squares.content g.S.Squares.stored g.S.Squares.most l.fn.squares l.squares;
  adds : AddsOnly g.S.Squares.stored (λ P. SomeSquare P (2 ^ l.top) (picture (g.S.Squares.content l.fn.squares) (l.fn.strip ∷ []))) l.fn.squares l.squares;
}

abbrev pub decreases-loop-raised : goal.decreases-loop-raised
decreases-loop-raised g l = l.top - l.raised.level
