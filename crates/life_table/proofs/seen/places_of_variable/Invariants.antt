use Rattle.std.proofs.Common.{◌≡◌, ℕ, ◌<◌, slice_index, IsTrue}
use Rattle.std.specs.Int.{bit_at}
use Rattle.life_table.specs.Meaning.{has_state}
use Rattle.life_table.proofs.seen.places_of_variable.Given as goal

-- the places so far are reported where a state of the variable stands
abbrev pub invariant-loop-k : goal.invariant-loop-k
invariant-loop-k l = (j : ℕ) → j < l.k → IsTrue (has_state l.var (slice_index l.around j)) → bit_at l.places j ≡ 1
