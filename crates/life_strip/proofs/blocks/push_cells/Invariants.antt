use Rattle.std.proofs.Common.{◌-◌, ◌≡◌, ℕ, ◌*◌, ◌%◌, ◌<◌, ◌≤◌}
use Rattle.life_base.specs.Tree.{Tree, point}
use Rattle.life_strip.specs.Blocks.{IsBlockBefore, cell_in_word}
use Rattle.life_strip.specs.Strip.{AreBefore, FilledTo}
use Rattle.life_strip.proofs.blocks.push_cells.Given as goal

abbrev pub invariant-loop-column : goal.invariant-loop-column
invariant-loop-column g l = record {
  from : 64 * l.block.start ≤ l.column;
  within : l.column ≤ l.end;
  placed : AreBefore l.column l.spans.items;
  filled : (want : ℕ → Tree)
      → FilledTo (g.S.Squares.knows l.squares) (g.S.Squares.content l.squares) 0 want l.fn.spans.items (64 * l.block.start)
      → ((c : ℕ) → 64 * l.block.start ≤ c → c < 64 * l.block.end → want c ≡ point (cell_in_word l.block.cells (c % 64)))
      → FilledTo (g.S.Squares.knows l.squares) (g.S.Squares.content l.squares) 0 want l.spans.items l.column;
  before : (n : ℕ) → AreBefore n l.fn.spans.items → IsBlockBefore n l.block → AreBefore n l.spans.items;
}

abbrev pub decreases-loop-column : goal.decreases-loop-column
decreases-loop-column g l = l.end - l.column
