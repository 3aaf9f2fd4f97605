use Rattle.life_sweep.proofs.RepresentativeLemmas.{moved_eight}
use Rattle.life_sweep.proofs.law.in_order.Goals as goal

pub returns-clause-moved : goal.returns-clause-moved
returns-clause-moved c = moved_eight c.args.around.now c.sort_unstable.new.self c.told-around c.sort_unstable.ensures.len c.sort_unstable.ensures.permutation
