use Rattle.std.proofs.Common.{◌-◌, ◌^◌, ◌≤◌}
use Rattle.life_base.specs.declared.cell.TheConstants.{MAX_LEVEL}
use Rattle.life_rows.specs.RowCells.{AreAt, IsNextTo}
use Rattle.life_rows.proofs.next_row.next_row.Given as goal

abbrev pub invariant-loop-place : goal.invariant-loop-place
invariant-loop-place l = record {
  within : l.from ≤ 2 ^ (MAX_LEVEL - 6);
  at : AreAt l.north l.here l.south l.from l.at;
  row : IsNextTo l.north l.here l.south l.rule l.next.items l.from;
}

abbrev pub decreases-loop-place : goal.decreases-loop-place
decreases-loop-place l = 2 ^ (MAX_LEVEL - 6) - l.from
