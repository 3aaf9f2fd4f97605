use Rattle.std.proofs.Common.{◌≡◌, ◌≤◌, length}
use Rattle.life_table.proofs.some_order.chosen.Given as goal

-- no more than were looked at
abbrev pub invariant-loop-i : goal.invariant-loop-i
invariant-loop-i l = record {
  few : l.count ≤ l.i;
  size : length l.found ≡ 8;
}
