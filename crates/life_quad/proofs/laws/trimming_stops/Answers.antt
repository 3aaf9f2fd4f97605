use Rattle.life_quad.proofs.LawLemmas.{trimming_stops}
use Rattle.life_quad.proofs.laws.trimming_stops.Goals as goal

pub returns : goal.returns
returns c = trimming_stops
