use Rattle.std.proofs.Common.{◌≡◌, ◌≢◌, ℕ, ◌+◌, ◌*◌, ◌<◌, slice_index}
use Rattle.std.specs.Int.{bit_at}
use Rattle.life_table.proofs.block.Block.apart_at.Given as goal

-- a line stays where it is in the sets so far
abbrev pub invariant-loop-q : goal.invariant-loop-q
invariant-loop-q l = (k : ℕ) → k < 64 → bit_at l.lines k ≡ 1
    → ((q : ℕ) → q < l.q → slice_index l.image l.p ≢ slice_index l.image q → bit_at (slice_index l.self.apart (9 * l.p + q)) k ≡ 1) → bit_at l.rest k ≡ 1
