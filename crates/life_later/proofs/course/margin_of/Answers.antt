use Rattle.std.proofs.Common.{arith}
use Rattle.std.proofs.lemmas.Int.{ints}
use Rattle.life_later.proofs.course.margin_of.Goals as goal

pub returns : goal.returns
returns c =
    let a = c.min.ensures in
    let b = c.min-2.ensures in
    let d = c.min-3.ensures in
    let l = c.requires.left.from in
    let r = c.requires.right.to in
    let u = c.requires.top.from in
    let v = c.requires.bottom.to in
    let l2 = c.requires.left.to in
    let r2 = c.requires.right.from in
    let u2 = c.requires.top.to in
    let v2 = c.requires.bottom.from in
    record {
      left = omega (arith, ints, a, b, d, l, r, u, v, l2, r2, u2, v2);
      top = omega (arith, ints, a, b, d, l, r, u, v, l2, r2, u2, v2);
      right = omega (arith, ints, a, b, d, l, r, u, v, l2, r2, u2, v2);
      bottom = omega (arith, ints, a, b, d, l, r, u, v, l2, r2, u2, v2);
    }
