use Rattle.std.proofs.Common.{◌≡◌, ◌++◌, pos, refl, ◌∙◌, arith, to_z, of_z, w64, take_all}
use Rattle.std.proofs.lemmas.Int.{ints}
use Rattle.life_quad.specs.declared.listing.Placed.{Placed}
use Rattle.life_quad.specs.Bands.{pieces, part_cells}
use Rattle.life_quad.proofs.PartLemmas.{gathered-more, part_more}
use Rattle.life_quad.proofs.listing.append_part.Goals as goal

pub loop-placed-preserved : goal.loop-placed-preserved
loop-placed-preserved g c =
    let none : Placed = record { square = record { 0 = 0 }; column = pos 0 } in
    let p = c.requires.each c.loop-placed.placed-index none c.loop-placed-test.true in
    record {
      cells = part_more (g.S.Squares.content c.args.squares.now) c.args.band.now _ none c.loop-placed-test.true c.args.south c.args.low _ _ _ _ _ _ _
          (omega (arith, ints, p.west, p.east)) (omega (arith, ints, c.ranges.y)) c.row_of-states.ensures c.loop-placed.invariant.cells
          (gathered-more _ _ _ _ _ _ c.in_ok-left.ensures.cells c.gather_states-count.ensures.cells refl);
      count = omega (arith, c.gather_states-count.ensures.most, c.in_ok-left.ensures.space);
    }

pub returns-clause-cells : goal.returns-clause-cells
returns-clause-cells g c =
    let all = take_all c.loop-placed.placed-index c.args.band.now c.loop-placed-test.false in
    let row : to_z w64 (of_z w64 c.args.y) ≡ c.args.y = omega (arith, ints, c.ranges.y) in
    c.in_ok-extend_from_slice.ensures.items ∙ c.loop-placed.invariant.cells
    ∙ (λ i. c.args.list.now.items ++ part_cells c.args.south c.args.low (row i) (pieces (g.S.Squares.content c.args.squares.now) (all i)))
