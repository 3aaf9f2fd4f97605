use Rattle.std.proofs.Common.{◌≡◌, ℕ, ◌+◌, ◌*◌, ◌<◌, slice_index}
use Rattle.std.specs.Int.{bit_at}
use Rattle.life_table.proofs.block.Block.with_input_of_two.Given as goal

-- the lines of the states so far that two neighbours have are there
abbrev pub invariant-loop-i : goal.invariant-loop-i
invariant-loop-i l =
    (k j : ℕ) → j < l.i → 1 < slice_index l.counts.times j
    → (slice_index l.counts.states j < 256 → bit_at (slice_index l.self.sets (256 * l.p + slice_index l.counts.states j)) k ≡ 1) → bit_at l.lines k ≡ 1
