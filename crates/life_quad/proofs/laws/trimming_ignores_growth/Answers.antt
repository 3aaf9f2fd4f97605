use Rattle.life_quad.proofs.LawLemmas.{trimming_ignores_growth}
use Rattle.life_quad.proofs.laws.trimming_ignores_growth.Goals as goal

pub returns : goal.returns
returns c = trimming_ignores_growth
