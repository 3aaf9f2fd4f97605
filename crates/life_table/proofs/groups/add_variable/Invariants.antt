use Rattle.std.proofs.Common.{◌≡◌, ◌≢◌, ℕ, ◌<◌, get_or}
use Rattle.life_table.proofs.Grouping.{no_group}
use Rattle.life_table.proofs.groups.add_variable.Given as goal

-- the groups so far are of other variables
abbrev pub invariant-loop-k : goal.invariant-loop-k
invariant-loop-k l = record {
  same : l.groups ≡ l.fn.groups;
  other : (j : ℕ) → j < l.k → (get_or l.groups j no_group).variable ≢ l.number;
}
