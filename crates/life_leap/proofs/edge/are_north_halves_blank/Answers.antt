use Rattle.life_leap.proofs.EdgeTests.{parted, north-of_row, three-tests}
use Rattle.life_leap.proofs.edge.are_north_halves_blank.Goals as goal

pub returns : goal.returns
returns g c cells x y h =
    let full = g.met.S.Squares.full c.args.squares.now in
    let first = parted {k = c.args.level} full c.requires.first c.divide-west.ensures.square c.divide-west.ensures.quarters.nw_level in
    let second = parted {k = c.args.level} full c.requires.second c.divide-middle.ensures.square c.divide-middle.ensures.quarters.nw_level in
    let third = parted {k = c.args.level} full c.requires.third c.divide-east.ensures.square c.divide-east.ensures.quarters.nw_level in
    three-tests cells _ _ _ _ _ _ _ _ _ c.both-2.ensures c.both.ensures c.are_two_blank-first.ensures c.are_two_blank-second.ensures
    c.are_two_blank-third.ensures (north-of_row _ cells c.args.level x y c.args.row.now _ _ _ first second third h)
