use Rattle.std.proofs.Common.{◌≤◌, ◌-◌, length}
use Rattle.life_base.specs.declared.cell.TheConstants.{MAX_LEVEL}
use Rattle.life_rle.specs.Cursor.{IsNear}
use Rattle.life_rle.specs.ShortItems.{ReadsOn}
use Rattle.life_rle.proofs.line_items.take_mixed_items.Given as goal

-- the items before the place were read
abbrev pub invariant-loop-here : goal.invariant-loop-here
invariant-loop-here l = record {
  inside : l.here.at ≤ length l.line;
  near : IsNear MAX_LEVEL l.here.cursor;
  read : ReadsOn MAX_LEVEL l.rule l.line 0 l.fn.from l.fn.runs.items l.here.at l.here.cursor l.runs.items;
}

abbrev pub decreases-loop-here : goal.decreases-loop-here
decreases-loop-here l = length l.line - l.here.at
