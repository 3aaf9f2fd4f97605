use Rattle.life_sweep.proofs.RepresentativeLemmas.{IsTurnOf}
use Rattle.life_sweep.proofs.law.least_turn.Given as goal

-- both are turns of the neighbourhood
abbrev pub invariant-loop : goal.invariant-loop
invariant-loop l = record {
  least : IsTurnOf l.around l.least;
  turned : IsTurnOf l.around l.turned;
}
