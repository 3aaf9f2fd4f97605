use Rattle.std.proofs.Common.{◌-◌, length, drop}
use Rattle.life_table.specs.Taking.{AreFailed}
use Rattle.life_table.proofs.Searching.{IsNone}
use Rattle.life_table.proofs.complete.+completes.Given as goal

abbrev pub decreases-completes : goal.decreases-completes
decreases-completes l = length l.groups.now - l.k

-- the places so far were tried in vain
abbrev pub invariant-loop-place : goal.invariant-loop-place
invariant-loop-place l = record {
  none : IsNone l.vars (drop l.k l.groups) l.states l.free l.place;
  failed : AreFailed l.vars l.groups l.states l.failed;
}
