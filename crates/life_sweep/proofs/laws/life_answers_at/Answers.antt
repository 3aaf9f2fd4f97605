use Rattle.life_sweep.proofs.LawProofs.{life-answers-at}
use Rattle.life_sweep.proofs.laws.life_answers_at.Goals as goal

pub returns : goal.returns
returns c = life-answers-at
