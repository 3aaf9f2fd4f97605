use Rattle.life_quad.proofs.LawLemmas.{trimmed_is_lowest}
use Rattle.life_quad.proofs.laws.trimmed_is_lowest.Goals as goal

pub returns : goal.returns
returns c = trimmed_is_lowest
