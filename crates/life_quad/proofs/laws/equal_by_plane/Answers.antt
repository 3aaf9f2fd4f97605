use Rattle.life_quad.proofs.LawLemmas.{equal_by_plane}
use Rattle.life_quad.proofs.laws.equal_by_plane.Goals as goal

pub returns : goal.returns
returns c = equal_by_plane
