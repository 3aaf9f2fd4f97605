use Rattle.life_pattern.proofs.ReadFacts.{read-stays}
use Rattle.life_pattern.proofs.laws.patterns_stay.Goals as goal

pub returns : goal.returns
returns c = read-stays _
