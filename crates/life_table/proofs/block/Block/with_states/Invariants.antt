use Rattle.std.proofs.Common.{◌≡◌, ℕ, ◌+◌, ◌*◌, ◌<◌, slice_index}
use Rattle.std.specs.Int.{bit_at}
use Rattle.life_table.proofs.block.Block.with_states.Given as goal

-- a line stays where it is in the sets so far
abbrev pub invariant-loop-p : goal.invariant-loop-p
invariant-loop-p l = (k : ℕ) → k < 64
    → ((p : ℕ) → p < l.p → slice_index l.image p < 256 → bit_at (slice_index l.self.sets (256 * p + slice_index l.image p)) k ≡ 1) → bit_at l.lines k ≡ 1
