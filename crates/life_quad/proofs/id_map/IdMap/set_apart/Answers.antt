use Rattle.std.proofs.Common.{rules}
use Rattle.life_quad.proofs.id_map.IdMap.set_apart.Goals as goal

pub returns : goal.returns
returns g c = search rules
