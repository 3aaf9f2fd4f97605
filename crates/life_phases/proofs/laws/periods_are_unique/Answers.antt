use Rattle.life_phases.proofs.UniqueLemmas.{periods-unique}
use Rattle.life_phases.proofs.laws.periods_are_unique.Goals as goal

pub returns : goal.returns
returns c = periods-unique
