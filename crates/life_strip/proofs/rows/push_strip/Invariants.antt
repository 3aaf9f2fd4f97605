use Rattle.std.proofs.Common.{◌≡◌, ℕ, ◌+◌, ◌^◌, ◌++◌, ◌∷◌, [], length}
use Rattle.life_quad.specs.Keeping.{KeepsSquares, AddsOnly}
use Rattle.life_strip.specs.Picture.{picture, height, AreStacked, IsLowest, IsSoundStrip}
use Rattle.life_strip.specs.Needed.{SomeSquare}
use Rattle.life_strip.proofs.rows.push_strip.Given as goal

abbrev pub invariant-loop-last : goal.invariant-loop-last
invariant-loop-last g l = record {
  strips : AreStacked (g.S.Squares.knows l.squares) (g.S.Squares.content l.squares) l.strips.items;
  strip : IsSoundStrip (g.S.Squares.knows l.squares) (g.S.Squares.content l.squares) l.lowest;
  lowest : IsLowest l.lowest.level l.strips.items;
  rows : height l.strips.items + 2 ^ l.lowest.level ≡ height l.fn.strips.items + 2 ^ l.fn.strip.level;
  cells : (i j : ℕ) → picture (g.S.Squares.content l.squares) (l.strips.items ++ l.lowest ∷ []) i j
      ≡ picture (g.S.Squares.content l.fn.squares) (l.fn.strips.items ++ l.fn.strip ∷ []) i j;
  keeps : KeepsSquares g.S.Squares.knows g.S.Squares.content g.S.Squares.stored g.S.Squares.most l.fn.squares l.squares;
  adds : AddsOnly g.S.Squares.stored
      (λ P. SomeSquare P (height l.fn.strips.items + 2 ^ l.fn.strip.level)
      (picture (g.S.Squares.content l.fn.squares) (l.fn.strips.items ++ l.fn.strip ∷ []))) l.fn.squares l.squares;
}

abbrev pub decreases-loop-last : goal.decreases-loop-last
decreases-loop-last g l = length l.strips.items
