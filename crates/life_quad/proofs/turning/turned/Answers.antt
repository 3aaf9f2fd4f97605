use Rattle.std.proofs.Common.{rules}
use Rattle.life_quad.proofs.TurningLemmas.{none-known}
use Rattle.life_quad.proofs.turning.turned.Goals as goal

pub turn_square-requires-clause-right : goal.turn_square-requires-clause-right
turn_square-requires-clause-right g c = none-known _ _ _ _ _ c.new-known.ensures

pub returns-clause-grows : goal.returns-clause-grows
returns-clause-grows g c = search rules
