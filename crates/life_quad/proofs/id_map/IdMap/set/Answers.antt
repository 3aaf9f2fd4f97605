use Rattle.std.proofs.Common.{rules}
use Rattle.life_quad.proofs.id_map.IdMap.set.Goals as goal

pub returns-then-index-len : goal.returns-then-index-len
returns-then-index-len g c = search rules
