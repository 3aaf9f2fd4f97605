use Rattle.std.proofs.Common.{◌≡◌, ℕ, ◌+◌, ◌-◌, ◌*◌, ◌<◌, ◌≤◌}
use Rattle.life_base.specs.Tree.{Tree}
use Rattle.life_quad.specs.Keeping.{KeepsSquares, AddsOnly}
use Rattle.life_quad.specs.Refused.{SomePart}
use Rattle.life_strip.specs.Band.{square_of_words}
use Rattle.life_strip.specs.Strip.{FilledTo}
use Rattle.life_strip.proofs.bands.push_block.Given as goal

abbrev pub invariant-loop-square : goal.invariant-loop-square
invariant-loop-square g l = record {
  filled : (want : ℕ → Tree) → FilledTo (g.S.Squares.knows l.fn.squares) (g.S.Squares.content l.fn.squares) 2 want l.fn.spans.items (16 * l.block)
      → ((i : ℕ) → i < 16 → want (16 * l.block + i) ≡ square_of_words l.upper l.lower i)
      → FilledTo (g.S.Squares.knows l.squares) (g.S.Squares.content l.squares) 2 want l.spans.items (16 * l.block + l.square);
  keeps : KeepsSquares g.S.Squares.knows g.S.Squares.content g.S.Squares.stored g.S.Squares.most l.fn.squares l.squares;
  within : l.square ≤ 16;
  adds : AddsOnly g.S.Squares.stored (λ P. (i : ℕ) × (i < 16) × SomePart P (square_of_words l.upper l.lower i)) l.fn.squares l.squares;
}

abbrev pub decreases-loop-square : goal.decreases-loop-square
decreases-loop-square g l = 16 - l.square
