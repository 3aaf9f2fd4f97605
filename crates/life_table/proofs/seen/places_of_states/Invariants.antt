use Rattle.std.proofs.Common.{◌≡◌, ℕ, ◌<◌, length, slice_index}
use Rattle.std.specs.Int.{bit_at}
use Rattle.life_table.proofs.seen.places_of_states.Given as goal

-- the places so far are reported of their states
abbrev pub invariant-loop-k : goal.invariant-loop-k
invariant-loop-k l = record {
  each : (j : ℕ) → j < l.k → bit_at (slice_index l.places (slice_index l.around j)) j ≡ 1;
  size : length l.places ≡ 256;
}
