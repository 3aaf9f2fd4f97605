use Rattle.std.proofs.Common.{refl, sym}
use Rattle.life_base.specs.Tree.{Tree}
use Rattle.life_quad.specs.declared.id.Id.{Id}
use Rattle.life_quad.proofs.TurningLemmas.{quad-turned, quarter-known}
use Rattle.life_quad.proofs.turning.divide_turned.Goals as goal

pub returns-clause-square : goal.returns-clause-square
returns-clause-square g c =
    let C : Id → Tree = g.S.Squares.content c.args.squares.now in
    sym (quad-turned c.args.turn C c.divide-parts.result (C c.args.id) c.divide-parts.ensures.square _ _ _ _ c.placed-nw.ensures c.placed-ne.ensures
    c.placed-sw.ensures c.placed-se.ensures _ _ _ _ refl refl refl refl)

pub returns-clause-quarters : goal.returns-clause-quarters
returns-clause-quarters g c =
    let C : Id → Tree = g.S.Squares.content c.args.squares.now in
    let full = g.met.S.Squares.full c.args.squares.now in
    let at = quarter-known (g.S.Squares.knows c.args.squares.now) C c.args.turn (C c.args.id) c.divide-parts.result c.divide-parts.ensures.quarters full
    (full c.args.id c.requires.known) in
    let nw = at _ _ _ c.placed-nw.ensures in
    let ne = at _ _ _ c.placed-ne.ensures in
    let sw = at _ _ _ c.placed-sw.ensures in
    let se = at _ _ _ c.placed-se.ensures in
    record { nw = nw.0; ne = ne.0; sw = sw.0; se = se.0; nw_level = nw.1; ne_level = ne.1; sw_level = sw.1; se_level = se.1 }
