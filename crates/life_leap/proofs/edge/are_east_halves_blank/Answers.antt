use Rattle.life_leap.proofs.EdgeTests.{parted, east-of_column, three-tests}
use Rattle.life_leap.proofs.edge.are_east_halves_blank.Goals as goal

pub returns : goal.returns
returns g c cells x y h =
    let full = g.met.S.Squares.full c.args.squares.now in
    let first = parted {k = c.args.level} full c.requires.first c.divide-north.ensures.square c.divide-north.ensures.quarters.nw_level in
    let second = parted {k = c.args.level} full c.requires.second c.divide-middle.ensures.square c.divide-middle.ensures.quarters.nw_level in
    let third = parted {k = c.args.level} full c.requires.third c.divide-south.ensures.square c.divide-south.ensures.quarters.nw_level in
    three-tests cells _ _ _ _ _ _ _ _ _ c.both-2.ensures c.both.ensures c.are_two_blank-first.ensures c.are_two_blank-second.ensures
    c.are_two_blank-third.ensures (east-of_column _ cells c.args.level x y c.args.column.now _ _ _ first second third h)
