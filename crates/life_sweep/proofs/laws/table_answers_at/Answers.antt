use Rattle.life_sweep.proofs.LawProofs.{table-answers-at}
use Rattle.life_sweep.proofs.laws.table_answers_at.Goals as goal

pub returns : goal.returns
returns c = table-answers-at
