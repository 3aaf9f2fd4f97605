use Rattle.std.proofs.Common.{◌≡◌, ◌++◌, pos, ◌∙◌, arith, to_z, of_z, w64, take_all}
use Rattle.std.proofs.lemmas.Int.{ints}
use Rattle.life_quad.specs.declared.listing.Placed.{Placed}
use Rattle.life_quad.specs.Bands.{pieces, row_cells}
use Rattle.life_quad.proofs.CellListLemmas.{cell_more}
use Rattle.life_quad.proofs.listing.append_row.Goals as goal

pub loop-placed-preserved : goal.loop-placed-preserved
loop-placed-preserved g c =
    let none : Placed = record { square = record { 0 = 0 }; column = pos 0 } in
    let p = c.requires.each c.loop-placed.placed-index none c.loop-placed-test.true in
    cell_more (g.S.Squares.content c.args.squares.now) c.args.band.now _ none c.loop-placed-test.true _ _ _ _ _ _ c.loop-placed.invariant
    c.in_ok-push.ensures.items
    c.in-Some.ensures (omega (arith, ints, p.west, p.east))

pub returns-clause-cells : goal.returns-clause-cells
returns-clause-cells g c =
    let all = take_all c.loop-placed.placed-index c.args.band.now c.loop-placed-test.false in
    let row : to_z w64 (of_z w64 c.args.row) ≡ c.args.row = omega (arith, ints, c.ranges.row) in
    c.loop-placed.invariant ∙ (λ i. c.args.list.now.items ++ row_cells (row i) (pieces (g.S.Squares.content c.args.squares.now) (all i)))
