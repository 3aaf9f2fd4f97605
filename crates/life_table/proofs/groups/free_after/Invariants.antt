use Rattle.std.proofs.Common.{◌≡◌, ℕ, ◌+◌, ◌<◌, ◌^◌, take, length}
use Rattle.life_table.specs.Meaning.{count_of}
use Rattle.life_table.specs.Taking.{settled_count, free_count}
use Rattle.life_table.proofs.groups.free_after.Given as goal

-- the states of the settled inputs so far were taken
abbrev pub invariant-loop-entry : goal.invariant-loop-entry
invariant-loop-entry l = record {
  below : l.free < 2 ^ length l.states;
  counts : (t : ℕ) → settled_count l.first l.centre t (take l.entry-index l.inputs) + free_count t l.free l.states ≡ count_of t l.states;
}
