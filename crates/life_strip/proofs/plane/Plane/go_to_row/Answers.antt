use Rattle.life_quad.proofs.GrowsLemmas.{grows-same}
use Rattle.life_strip.proofs.plane.Plane.go_to_row.Goals as goal

pub returns-then-self-row-clause-grows : goal.returns-then-self-row-clause-grows
returns-then-self-row-clause-grows g c = grows-same _ c.args.squares.now tt
