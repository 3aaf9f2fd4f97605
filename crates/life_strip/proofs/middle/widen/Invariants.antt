use Rattle.std.proofs.Common.{◌≡◌, ℕ, ◌-◌, ◌<◌, ◌≤◌, ◌∷◌, []}
use Rattle.life_base.specs.declared.cell.TheConstants.{MAX_LEVEL}
use Rattle.life_quad.specs.Keeping.{KeepsSquares, AddsOnly}
use Rattle.life_strip.specs.Middle.{AreAdjacent, SomeWider}
use Rattle.life_strip.specs.Picture.{picture, IsSoundStrip}
use Rattle.life_strip.proofs.middle.widen.Given as goal

abbrev pub invariant-loop-alloc : goal.invariant-loop-alloc
invariant-loop-alloc g l = record {
  sound : IsSoundStrip (g.S.Squares.knows l.squares) (g.S.Squares.content l.squares) l.wide;
  low : l.fn.strip.level ≤ l.wide.level;
  high : l.wide.level < MAX_LEVEL;
  cells : (i j : ℕ) → picture (g.S.Squares.content l.squares) (l.wide ∷ []) i j ≡ picture (g.S.Squares.content l.fn.squares) (l.fn.strip ∷ []) i j;
  needed : (m : ℕ) → l.fn.strip.level ≤ m → m < l.wide.level → ¬ AreAdjacent m (picture (g.S.Squares.content l.fn.squares) (l.fn.strip ∷ []));
  keeps : KeepsSquares g.S.Squares.knows g.S.Squares.content g.S.Squares.stored g.S.Squares.most l.fn.squares l.squares;
  adds : AddsOnly g.S.Squares.stored (λ P. SomeWider P l.fn.strip.level (picture (g.S.Squares.content l.fn.squares) (l.fn.strip ∷ []))) l.fn.squares l.squares;
}

abbrev pub decreases-loop-alloc : goal.decreases-loop-alloc
decreases-loop-alloc g l = MAX_LEVEL - l.wide.level
