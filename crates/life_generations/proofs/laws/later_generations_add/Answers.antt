use Rattle.life_generations.proofs.LawFacts.{generations-add}
use Rattle.life_generations.proofs.laws.later_generations_add.Goals as goal

pub returns : goal.returns
returns c = generations-add
