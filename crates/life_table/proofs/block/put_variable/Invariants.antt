use Rattle.std.proofs.Common.{◌≡◌, ℕ, ◌+◌, ◌*◌, ◌<◌, slice_index, IsTrue}
use Rattle.std.specs.Int.{bit_at}
use Rattle.life_table.specs.Index.{Stay}
use Rattle.life_table.specs.Meaning.{has_state}
use Rattle.life_table.proofs.block.put_variable.Given as goal

-- the lines are in the sets of the states so far
abbrev pub invariant-loop-s : goal.invariant-loop-s
invariant-loop-s l = record {
  put : (k s : ℕ) → bit_at l.lines k ≡ 1 → s < l.s → IsTrue (has_state l.var s) → bit_at (slice_index l.sets (256 * l.p + s)) k ≡ 1;
  stay : Stay l.fn.sets l.sets;
}
