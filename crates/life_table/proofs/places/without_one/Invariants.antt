use Rattle.std.proofs.Common.{◌≡◌, ℕ, ◌<◌, slice_index}
use Rattle.std.specs.Int.{bit_at}
use Rattle.life_table.proofs.places.without_one.Given as goal

-- no place so far is free and has the state
abbrev pub invariant-loop-place : goal.invariant-loop-place
invariant-loop-place l = (k : ℕ) → k < l.place → slice_index l.states k ≡ l.s → bit_at l.free k ≡ 1 → ⊥
