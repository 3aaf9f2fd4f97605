use Rattle.life_quad.proofs.LawLemmas.{trimmed_is_fixed}
use Rattle.life_quad.proofs.laws.trimmed_is_fixed.Goals as goal

pub returns : goal.returns
returns c = trimmed_is_fixed
