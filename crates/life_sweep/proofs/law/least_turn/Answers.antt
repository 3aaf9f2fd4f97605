use Rattle.std.proofs.Common.{sym, subst}
use Rattle.life_sweep.proofs.RepresentativeLemmas.{IsTurnOf, IsTurnOf-same, IsTurnOf-then}
use Rattle.life_sweep.proofs.law.least_turn.Goals.{then-neighbours_as_number, else-neighbours_as_number}
use Rattle.life_sweep.proofs.law.least_turn.Goals as goal

pub loop-init : goal.loop-init
loop-init c = record { least = IsTurnOf-same c.args.around.now; turned = IsTurnOf-same c.args.around.now }

pub loop-preserved : goal.loop-preserved
loop-preserved c =
    let e = c.quarter_turn-turned.ensures in
    let turned = IsTurnOf-then c.loop.invariant.turned (record { centre = e.centre; same = e.same; states = e.states }) in
    record {
      least = elim c.if-neighbours_as_number.branch [
        | then-neighbours_as_number w ↦ subst (IsTurnOf c.args.around.now) (sym w.least-is) turned
        | else-neighbours_as_number w ↦ subst (IsTurnOf c.args.around.now) (sym w.least-is) c.loop.invariant.least
      ];
      turned = turned;
    }
