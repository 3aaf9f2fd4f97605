use Rattle.std.proofs.Common.{◌≡◌, refl, arith}
use Rattle.std.proofs.lemmas.Int.{ints}
use Rattle.life_quad.specs.Store.{eight, four}
use Rattle.life_pieces.specs.Pieces.{step_ahead}
use Rattle.life_pieces.proofs.NeedLemmas.{is-piece}
use Rattle.life_pieces.proofs.PieceLemmas.{IsPiece-joined, IsPiece-moved}
use Rattle.life_pieces.proofs.SquareLemmas.{square-is}
use Rattle.life_leap.proofs.bands.middle_cells.Goals as goal

pub returns : goal.returns
returns c cells x y m lm h =
    let north = c.middle_squares-nw.ensures in
    let south = c.middle_squares-sw.ensures in
    let u = step_ahead x 4 in
    let v = step_ahead y 8 in
    let ex : step_ahead x 8 ≡ step_ahead u 4 = omega (arith, ints) in
    let ey : step_ahead y 12 ≡ step_ahead v 4 = omega (arith, ints) in
    let nw = is-piece cells 2 u v (four c.middle_squares-nw.result.0) (square-is cells u v c.middle_squares-nw.result.0 (omega arith)
    (north.west cells x y m 8 lm (omega arith) (omega arith) h.second)) in
    let ne = is-piece cells 2 (step_ahead x 8) v (four c.middle_squares-nw.result.1)
    (square-is cells (step_ahead x 8) v c.middle_squares-nw.result.1 (omega arith) (north.east cells x y m 8 lm (omega arith) (omega arith) h.second)) in
    let sw = is-piece cells 2 u (step_ahead y 12) (four c.middle_squares-sw.result.0)
    (square-is cells u (step_ahead y 12) c.middle_squares-sw.result.0 (omega arith) (south.west cells x y m 12 lm (omega arith) (omega arith) h.third)) in
    let se = is-piece cells 2 (step_ahead x 8) (step_ahead y 12) (four c.middle_squares-sw.result.1)
    (square-is cells (step_ahead x 8) (step_ahead y 12) c.middle_squares-sw.result.1 (omega arith)
    (south.east cells x y m 12 lm (omega arith) (omega arith) h.third)) in
    let tne = four c.middle_squares-nw.result.1 in
    let tsw = four c.middle_squares-sw.result.0 in
    let tse = four c.middle_squares-sw.result.1 in
    IsPiece-joined cells u v (four c.middle_squares-nw.result.0) tne tsw tse (eight c.leaf_of_four.result) 2 refl c.leaf_of_four.ensures nw
    (IsPiece-moved cells (step_ahead x 8) (step_ahead u 4) v v tne ex refl ne)
    (IsPiece-moved cells u u (step_ahead y 12) (step_ahead v 4) tsw refl ey sw)
    (IsPiece-moved cells (step_ahead x 8) (step_ahead u 4) (step_ahead y 12) (step_ahead v 4) tse ex ey se)
