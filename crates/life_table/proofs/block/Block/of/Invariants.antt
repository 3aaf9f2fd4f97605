use Rattle.std.proofs.Common.{◌≡◌, ℕ, ◌<◌, length, get_or}
use Rattle.life_table.specs.Index.{entry_at, InSets, IsApart}
use Rattle.life_table.specs.declared.table.Transition.{Transition}
use Rattle.life_table.proofs.block.Block.of.Given as goal

-- each line is in the sets of the places so far
abbrev pub invariant-loop-p : goal.invariant-loop-p
invariant-loop-p l = record {
  states : (k : ℕ) (d : Transition) (p : ℕ) → k < length l.lines → p < l.p → InSets l.vars (entry_at (get_or l.lines k d).inputs p) p k l.block.sets;
  apart : (k : ℕ) (d : Transition) (p : ℕ) → k < length l.lines → p < l.p → IsApart (get_or l.lines k d).inputs p k l.block.apart;
  size : length l.block.sets ≡ 2304;
}
