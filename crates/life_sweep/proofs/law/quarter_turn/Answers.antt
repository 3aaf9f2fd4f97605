use Rattle.life_sweep.proofs.RepresentativeLemmas.{quarter}
use Rattle.life_sweep.proofs.law.quarter_turn.Goals as goal

pub returns-clause-same : goal.returns-clause-same
returns-clause-same c = quarter c.args.around.now c.told-around
