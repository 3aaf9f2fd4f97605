use Rattle.std.proofs.Common.{◌≡◌, ℕ, ◌<◌, length, get_or}
use Rattle.std.specs.Int.{bit_at}
use Rattle.life_table.specs.Index.{entry_at}
use Rattle.life_table.specs.declared.table.Transition.{Transition}
use Rattle.life_table.proofs.block.lines_with.Given as goal

-- those of the lines so far are found, and no others
abbrev pub invariant-loop-k : goal.invariant-loop-k
invariant-loop-k l = record {
  only : (k : ℕ) (d : Transition) → bit_at l.found k ≡ 1 → k < length l.lines → entry_at (get_or l.lines k d).inputs l.p ≡ l.entry;
  all : (k : ℕ) (d : Transition) → k < l.k → entry_at (get_or l.lines k d).inputs l.p ≡ l.entry → bit_at l.found k ≡ 1;
}
