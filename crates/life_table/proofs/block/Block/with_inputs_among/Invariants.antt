use Rattle.std.proofs.Common.{◌≡◌, ℕ, ◌<◌, ◌≤◌, List, length, take, slice_index, count_by}
use Rattle.std.specs.Int.{bit_at}
use Rattle.life_table.specs.Index.{is_among, MayComeAfter}
use Rattle.life_table.proofs.block.Block.with_inputs_among.Given as goal

-- a line is in each number that its inputs so far reach, up to the one that is asked for
abbrev pub invariant-loop-p : goal.invariant-loop-p
invariant-loop-p l = record {
  reached : (k c : ℕ) (v : List ℕ) → k < 64 → length v ≡ l.n → MayComeAfter l.self v k → c ≤ l.times → c ≤ count_by (is_among l.states) (take l.p v)
      → bit_at (slice_index l.reached c) k ≡ 1;
  size : length l.reached ≡ 9;
}
