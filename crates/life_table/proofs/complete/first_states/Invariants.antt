use Rattle.life_table.specs.Found.{IsFoundOf}
use Rattle.life_table.specs.Taking.{AreFailed}
use Rattle.life_table.proofs.Searching.{IsFoundBy}
use Rattle.life_table.proofs.complete.first_states.Given as goal

-- the states of the places so far
abbrev pub invariant-loop-place : goal.invariant-loop-place
invariant-loop-place l = record {
  tells : IsFoundOf (IsFoundBy l.vars l.groups l.states l.free l.place) l.found;
  failed : AreFailed l.vars l.groups l.states l.failed;
}
