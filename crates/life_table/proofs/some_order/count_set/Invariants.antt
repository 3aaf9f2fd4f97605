use Rattle.std.proofs.Common.{◌≡◌, ℕ, ◌+◌, ◌<◌, ◌≤◌, length, slice_index}
use Rattle.std.specs.Int.{bit_at}
use Rattle.life_table.specs.Index.{Stay}
use Rattle.life_table.proofs.some_order.count_set.Given as goal

-- the numbers from here up are done, and those below are as they were
abbrev pub invariant-loop-c : goal.invariant-loop-c
invariant-loop-c l = record {
  stay : Stay l.initial.reached l.reached;
  same : (i : ℕ) → i ≤ l.c → slice_index l.reached i ≡ slice_index l.initial.reached i;
  done : (k c : ℕ) → l.c ≤ c → c < l.to → bit_at (slice_index l.initial.reached c) k ≡ 1 → bit_at l.set k ≡ 1
      → bit_at (slice_index l.reached (c + 1)) k ≡ 1;
  size : length l.reached ≡ 9;
}
