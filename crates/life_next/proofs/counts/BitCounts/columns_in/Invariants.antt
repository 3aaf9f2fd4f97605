use Rattle.std.proofs.Common.{◌≡◌, ℕ, ◌<◌, ◌≤◌}
use Rattle.std.specs.Int.{bit_at}
use Rattle.life_next.specs.Counts.{count_at}
use Rattle.life_next.proofs.counts.BitCounts.columns_in.Given as goal

-- of the columns with a number below this, those are found whose number is in the set
abbrev pub invariant-loop-count : goal.invariant-loop-count
invariant-loop-count l = record {
  found : (i : ℕ) → i < 64 → count_at l.self i < l.count → bit_at l.columns i ≡ bit_at l.set (count_at l.self i);
  clear : (i : ℕ) → i < 64 → l.count ≤ count_at l.self i → bit_at l.columns i ≡ 0;
}
