use Rattle.life_quad.proofs.LawLemmas.{trimming_ignores_growth as growth}
use Rattle.life_pattern.proofs.laws.trimming_ignores_growth.Goals as goal

pub returns : goal.returns
returns c = growth
