use Rattle.life_quad.proofs.LawLemmas.{cells_are_listed}
use Rattle.life_quad.proofs.laws.cells_are_listed.Goals as goal

pub returns : goal.returns
returns c = cells_are_listed
