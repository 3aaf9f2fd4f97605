use Rattle.std.proofs.Common.{◌≡◌, ℕ, ◌+◌}
use Rattle.life_quad.specs.Keeping.{KeepsSquares, AddsOnly}
use Rattle.life_strip.specs.Pile.{IsPile, pile_height, pile_state}
use Rattle.life_strip.specs.Needed.{SomeSquare}
use Rattle.life_strip.proofs.pile.Pile.skip_rows.Given as goal

abbrev pub invariant-loop-rest : goal.invariant-loop-rest
invariant-loop-rest g l = record {
  pile : IsPile (g.S.Squares.knows l.squares) (g.S.Squares.content l.squares) l.self;
  rows : pile_height l.self + l.rest ≡ pile_height l.fn.self + l.fn.count;
  cells : (i j : ℕ) → pile_state (g.S.Squares.content l.squares) l.self i j ≡ pile_state (g.S.Squares.content l.fn.squares) l.fn.self i j;
  keeps : KeepsSquares g.S.Squares.knows g.S.Squares.content g.S.Squares.stored g.S.Squares.most l.fn.squares l.squares;
  adds : AddsOnly g.S.Squares.stored
      (λ P. SomeSquare P (pile_height l.fn.self + l.fn.count) (pile_state (g.S.Squares.content l.fn.squares) l.fn.self))
      l.fn.squares l.squares;
}

abbrev pub decreases-loop-rest : goal.decreases-loop-rest
decreases-loop-rest g l = l.rest
