use Rattle.std.proofs.Common.{◌≡◌, ℕ, ◌+◌, ◌*◌, ◌<◌, slice_index}
use Rattle.std.specs.Int.{bit_at}
use Rattle.life_table.proofs.block.Block.with_input_among.Given as goal

-- the lines of the states so far are there
abbrev pub invariant-loop-s : goal.invariant-loop-s
invariant-loop-s l =
    (k i : ℕ) → i < l.s-index
    → (slice_index l.states i < 256 → bit_at (slice_index l.self.sets (256 * l.p + slice_index l.states i)) k ≡ 1) → bit_at l.lines k ≡ 1
