use Rattle.std.proofs.Common.{◌≡◌, ℕ, ◌+◌, ◌≤◌}
use Rattle.life_table.specs.Taking.{free_count, of_state}
use Rattle.life_table.proofs.places.without.Given as goal

-- as many of the state as rounds were taken
abbrev pub invariant-loop : goal.invariant-loop
invariant-loop l = record {
  less : l.rest ≤ l.free;
  counts : (t : ℕ) → free_count t l.free l.states ≡ of_state t l.s l.counter + free_count t l.rest l.states;
}
