use Rattle.std.proofs.Common.{◌≡◌, arith}
use Rattle.std.proofs.lemmas.Int.{ints}
use Rattle.rows.proofs.fill.is_on_plane.Goals as goal

pub returns-clause-inside : goal.returns-clause-inside
returns-clause-inside c = λ t.
    let half : c.half_side-half.result ≡ 2305843009213693952 = c.half_side-half.ensures.half in
    let x = c.if-x-half.false in
    let east = c.if-half-x.false in
    let y = c.if-y-half.false in
    let south = c.if-half-y.false in
    let len = c.if-len-half.false in
    let rx = c.ranges.x in
    let ry = c.ranges.y in
    let small = c.half_side-half.ensures.small in
    record {
      west = omega (arith, ints, half, x, rx);
      east = omega (arith, ints, half, east, len, rx, x, small);
      north = omega (arith, ints, half, y, ry);
      south = omega (arith, ints, half, south, ry);
    }
