use Rattle.std.proofs.Common.{◌≡◌, arith, sym, ◌∙◌}
use Rattle.life_base.specs.Tree.{depth}
use Rattle.life_base.proofs.Squares.{same_quads}
use Rattle.life_quad.proofs.LeafCells.{eight_of}
use Rattle.life_pieces.proofs.PieceLemmas.{pieces-of}
use Rattle.life_pieces.proofs.leaf.eight_by_eight.Goals as goal

pub returns : goal.returns
returns g c cells x y binary h =
    let d = c.divide.ensures in
    let level : depth (g.S.Squares.content c.args.squares.now c.divide.result.nw) ≡ 2 = omega (arith, d.quarters.nw_level, c.requires.level) in
    let p = pieces-of cells x y 2 level d.square h in
    let nw = c.cells_of_small-a.ensures in
    let ne = c.cells_of_small-b.ensures in
    let sw = c.cells_of_small-c.ensures in
    let se = c.cells_of_small-d.ensures in
    d.square
    ∙ same_quads (nw.square cells _ _ binary p.0) (ne.square cells _ _ binary p.1) (sw.square cells _ _ binary p.2) (se.square cells _ _ binary p.3)
    ∙ sym (eight_of _ _ _ _ nw.small ne.small sw.small se.small)
