use Rattle.life_quad.proofs.LawLemmas.{list_is_population}
use Rattle.life_quad.proofs.laws.list_is_population.Goals as goal

pub returns : goal.returns
returns c = list_is_population
