use Rattle.std.proofs.Common.{◌≤◌, ◌-◌}
use Rattle.life_rows.specs.RowCells.{PutsCells}
use Rattle.life_rows.proofs.row_cells.push_pieces.Given as goal

abbrev pub invariant-loop-from : goal.invariant-loop-from
invariant-loop-from l = record {
  after : l.start ≤ l.from;
  within : l.from ≤ l.end;
  puts : PutsCells l.fn.words.items l.words.items l.start l.from;
}

abbrev pub decreases-loop-from : goal.decreases-loop-from
decreases-loop-from l = l.end - l.from
