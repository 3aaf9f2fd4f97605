use Rattle.life_table.specs.declared.table.Neighborhood.TheVariants.{VonNeumann}
use Rattle.life_sweep.proofs.RepresentativeLemmas.{same_named, same_moved, same_turned, moved_all}
use Rattle.life_sweep.proofs.law.representative.Goals as goal

pub returns-in-VonNeumann-clause-same : goal.returns-in-VonNeumann-clause-same
returns-in-VonNeumann-clause-same c = same_named c.args.table.now c.args.around.now c.without_corners.result VonNeumann c.in-VonNeumann.is
    c.without_corners.ensures.centre c.without_corners.ensures.same

pub returns-in-Permute-clause-states : goal.returns-in-Permute-clause-states
returns-in-Permute-clause-states c = moved_all c.args.table.now.n_states c.args.around.now c.in_order.result c.told-around c.in_order.ensures.len
    c.in_order.ensures.centre c.in_order.ensures.moved c.requires

pub returns-in-Permute-clause-same : goal.returns-in-Permute-clause-same
returns-in-Permute-clause-same c = same_moved c.args.table.now c.args.around.now c.in_order.result c.in-Moore.is c.in-Permute.is c.in_order.ensures.centre
    c.in_order.ensures.moved

pub returns-in-Rotate4-clause-same : goal.returns-in-Rotate4-clause-same
returns-in-Rotate4-clause-same c = same_turned c.args.table.now c.args.around.now c.least_turn.result c.in-Moore.is c.in-Rotate4.is c.least_turn.ensures.centre
    c.least_turn.ensures.same
