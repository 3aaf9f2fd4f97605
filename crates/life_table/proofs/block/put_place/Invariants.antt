use Rattle.std.proofs.Common.{◌≡◌, ℕ, ◌<◌, length, get_or}
use Rattle.std.specs.Int.{bit_at}
use Rattle.life_table.specs.Index.{Stay, entry_at, InSets}
use Rattle.life_table.specs.declared.table.Transition.{Transition}
use Rattle.life_table.proofs.block.put_place.Given as goal

-- the lines that are done are in the sets, and those so far are done
abbrev pub invariant-loop-k : goal.invariant-loop-k
invariant-loop-k l = record {
  put : (k : ℕ) (d : Transition) → bit_at l.done k ≡ 1 → k < length l.lines → InSets l.vars (entry_at (get_or l.lines k d).inputs l.p) l.p k l.sets;
  past : (k : ℕ) → k < l.k → bit_at l.done k ≡ 1;
  stay : Stay l.fn.sets l.sets;
}
