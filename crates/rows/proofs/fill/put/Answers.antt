use Rattle.std.proofs.Common.{◌≡◌, ◌-◌, ◌^◌, arith, ◌∙◌, ap}
use Rattle.std.proofs.lemmas.Int.{ints}
use Rattle.life_base.specs.Tree.{half_side}
use Rattle.rows.proofs.fill.put.Goals as goal

pub set_run-requires-clause-inside : goal.set_run-requires-clause-inside
set_run-requires-clause-inside g c =
    let half : c.half_side-half.result ≡ half_side (g.S.Squares.content c.args.squares.now c.args.root) = c.half_side-half.ensures.half
    ∙ ap (λ l. 2 ^ (l - 1)) c.level-level.ensures.level in
    let x = c.if-x-half.false in
    let east = c.if-half-x.false in
    let y = c.if-y-half.false in
    let south = c.if-half-y.false in
    let len = c.if-len-half.false in
    let rx = c.ranges.x in
    let ry = c.ranges.y in
    let small = c.half_side-half.ensures.small in
    record {
      west = omega (arith, ints, half, x, rx);
      east = omega (arith, ints, half, east, len, rx, x, small);
      north = omega (arith, ints, half, y, ry);
      south = omega (arith, ints, half, south, ry);
    }
