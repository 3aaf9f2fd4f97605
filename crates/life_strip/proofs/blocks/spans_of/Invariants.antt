use Rattle.std.proofs.Common.{length, ◌-◌, ℕ}
use Rattle.life_strip.specs.Blocks.{AreBlocksBefore}
use Rattle.life_strip.specs.Strip.{AreBefore}
use Rattle.life_strip.proofs.BlockLemmas.{AreSpansTo}
use Rattle.life_strip.proofs.blocks.spans_of.Given as goal

abbrev pub invariant-loop-index : goal.invariant-loop-index
invariant-loop-index g l = record {
  filled : AreSpansTo l.blocks (g.S.Squares.knows l.squares) (g.S.Squares.content l.squares) l.spans.items l.index;
  before : (n : ℕ) → AreBlocksBefore n l.blocks → AreBefore n l.spans.items;
}

abbrev pub decreases-loop-index : goal.decreases-loop-index
decreases-loop-index g l = length l.blocks - l.index
