use Rattle.std.proofs.Common.{rules}
use Rattle.life_strip.proofs.plane.Plane.finish.Goals as goal

pub returns-clause-grows : goal.returns-clause-grows
returns-clause-grows g c = c.whole_plane.ensures.grows

pub returns-clause-cells : goal.returns-clause-cells
returns-clause-cells g c = search rules
