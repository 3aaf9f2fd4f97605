use Rattle.std.proofs.Common.{◌≡◌, ◌≤◌, ◌-◌, drop, length}
use Rattle.life_base.specs.declared.cell.TheConstants.{MAX_LEVEL}
use Rattle.life_rle.specs.Items.{next_of}
use Rattle.life_rle.specs.Cursor.{row_limit}
use Rattle.life_rle.specs.Reader.{ReadsItems}
use Rattle.life_rle.proofs.line_items.read_items.Given as goal

-- the items before the place were read, and the limit is that of the row
abbrev pub invariant-loop-at : goal.invariant-loop-at
invariant-loop-at l = record {
  inside : l.at ≤ length l.line;
  limit : l.limit ≡ row_limit MAX_LEVEL l.cursor.y;
  read : ReadsItems MAX_LEVEL l.rule l.fn.from l.line (next_of MAX_LEVEL (drop l.at l.line)) l.cursor l.fn.runs.items l.runs.items;
}

abbrev pub decreases-loop-at : goal.decreases-loop-at
decreases-loop-at l = length l.line - l.at
