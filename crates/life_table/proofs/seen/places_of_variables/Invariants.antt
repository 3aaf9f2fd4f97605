use Rattle.std.proofs.Common.{◌≡◌, ℕ, ◌<◌, length, get_or, slice_index, IsTrue}
use Rattle.std.specs.Int.{bit_at}
use Rattle.life_table.specs.Meaning.{has_state}
use Rattle.life_table.specs.declared.table.Var.{Var}
use Rattle.life_table.proofs.seen.places_of_variables.Given as goal

-- the places are reported of the variables so far
abbrev pub invariant-loop-i : goal.invariant-loop-i
invariant-loop-i l = record {
  each : (j k : ℕ) → j < l.i → k < 16 → (var : Var) → var ≡ get_or l.vars j var → IsTrue (has_state var (slice_index l.around k))
      → bit_at (slice_index l.places j) k ≡ 1;
  size : length l.places ≡ 64;
}
