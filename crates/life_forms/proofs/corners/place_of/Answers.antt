use Rattle.std.proofs.Common.{arith}
use Rattle.life_forms.proofs.LeafNumbers.{leaf-place}
use Rattle.life_forms.proofs.corners.place_of.Goals as goal

pub returns-then-known-at : goal.returns-then-known-at
returns-then-known-at c =
    leaf-place c.args.known.now c.args.leaf c.loop-at.at (λ k l. (c.type_inv.known k).fits) c.ranges.leaf.fits c.loop-at.auto.at-end c.loop-at.invariant
    (λ l. c.if-known-at.true)

pub returns : goal.returns
returns c =
    let end = c.loop-at.auto.at-end in
    let done = c.loop-at-test.false in
    leaf-place c.args.known.now c.args.leaf _ (λ k l. (c.type_inv.known k).fits) c.ranges.leaf.fits (omega arith)
    (λ k l. c.loop-at.invariant k (omega (arith, l, end, done))) (λ l. absurd (omega (arith, l)))
