use Rattle.std.proofs.Common.{take, arith}
use Rattle.std.proofs.lemmas.Int.{ints}
use Rattle.life_quad.proofs.PartLemmas.{states_are}
use Rattle.life_quad.proofs.listing.gather_states.Goals as goal

pub returns-clause-cells : goal.returns-clause-cells
returns-clause-cells c =
    let west = c.requires.west in
    let east = c.requires.east in
    states_are c.args.x c.args.y _ _ _ _ _ _ _ _ _ (take c.args.count c.args.gathered.now)
    (take c.gather_cell-one.result c.gather_cell-one.new.gathered) (take c.gather_cell-two.result c.gather_cell-two.new.gathered)
    (take c.gather_cell-three.result c.gather_cell-three.new.gathered) _
    (omega (arith, ints, west, east)) (omega (arith, ints, west, east)) (omega (arith, ints, west, east)) (omega (arith, ints, west, east))
    (omega (arith, ints, c.ranges.y))
    c.gather_cell-one.ensures.cells c.gather_cell-two.ensures.cells c.gather_cell-three.ensures.cells c.gather_cell.ensures.cells
