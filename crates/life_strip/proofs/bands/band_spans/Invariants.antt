use Rattle.life_base.specs.declared.cell.TheConstants.{MAX_LEVEL}
use Rattle.std.proofs.Common.{◌-◌, ◌*◌, ◌^◌, ◌≤◌}
use Rattle.life_quad.specs.Keeping.{KeepsSquares, AddsOnly}
use Rattle.life_quad.specs.Refused.{SomePart}
use Rattle.life_strip.specs.Strip.{FilledTo}
use Rattle.life_strip.specs.Blocks.{four_in}
use Rattle.life_strip.specs.Needed.{SomeColumn}
use Rattle.life_strip.proofs.BandLemmas.{AreAtBlock}
use Rattle.life_strip.proofs.bands.band_spans.Given as goal

abbrev pub invariant-loop-block : goal.invariant-loop-block
invariant-loop-block g l = record {
  filled : FilledTo (g.S.Squares.knows l.squares) (g.S.Squares.content l.squares) 2 (four_in l.first l.second l.third l.fourth) l.spans.items (16 * l.next);
  rows : AreAtBlock l.first l.second l.third l.fourth l.a l.b l.c l.d l.next l.block;
  keeps : KeepsSquares g.S.Squares.knows g.S.Squares.content g.S.Squares.stored g.S.Squares.most l.fn.squares l.squares;
  within : l.next ≤ 2 ^ (MAX_LEVEL - 6);
  adds : AddsOnly g.S.Squares.stored (λ P. SomeColumn (SomePart P) 2 (four_in l.first l.second l.third l.fourth)) l.fn.squares l.squares;
}

abbrev pub decreases-loop-block : goal.decreases-loop-block
decreases-loop-block g l = 2 ^ (MAX_LEVEL - 6) - l.next
