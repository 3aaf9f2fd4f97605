use Rattle.std.proofs.Common.{arith}
use Rattle.std.proofs.lemmas.Int.{ints}
use Rattle.life_quad.proofs.listing.least_coordinate.Goals as goal
use Rattle.life_base.proofs.Basics.{halves}

pub returns-clause-east : goal.returns-clause-east
returns-clause-east c =
    let twice = halves c.args.level c.requires.low in
    let e = c.half_side.ensures.half in
    let s = c.half_side.ensures.small in
    omega (arith, ints, twice)
