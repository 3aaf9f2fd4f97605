use Rattle.std.proofs.Common.{◌<◌, ◌^◌, ◌≡◌, ℕ, arith, false}
use Rattle.life_base.specs.Tree.{is_blank_tree}
use Rattle.life_quad.specs.Store.{eight}
use Rattle.life_quad.proofs.LeafCells.{eight_not_blank}
use Rattle.life_forms.proofs.LeafNumbers.{at-most, new-listed, new-numbered, old-listed, old-numbered}
use Rattle.life_forms.proofs.corners.numbered.Goals as goal

live : (n : ℕ) → n < 2 ^ 64 → ¬ (n ≡ 0) → is_blank_tree (eight n) ≡ false
live n l some = eight_not_blank n l (omega (arith, some))

pub returns-then-place-len-clause-known : goal.returns-then-place-len-clause-known
returns-then-place-len-clause-known c =
    old-listed c.args.known.now.items c.deref.result.now c.args.leaf c.place_of-place.result c.len.result _ (live _ c.ranges.leaf.fits c.if-leaf-eq0.false)
    c.place_of-place.ensures c.deref.ensures.value c.deref.ensures.len c.len.ensures c.if-place-len.true

pub returns-then-place-len-clause-number : goal.returns-then-place-len-clause-number
returns-then-place-len-clause-number c =
    old-numbered c.args.known.now.items c.deref.result.now c.args.leaf c.place_of-place.result c.len.result _ (live _ c.ranges.leaf.fits c.if-leaf-eq0.false)
    c.place_of-place.ensures c.deref.ensures.value c.deref.ensures.len c.len.ensures

pub overflow_add-result-2 : goal.overflow_add-result-2
overflow_add-result-2 c =
    let most = at-most c.args.known.now.items c.deref.result.now c.args.leaf c.place_of-place.result c.len.result _
    (live _ c.ranges.leaf.fits c.if-leaf-eq0.false)
    c.place_of-place.ensures c.deref.ensures.value c.deref.ensures.len c.len.ensures in
    let fits = c.deref.type_inv.1 in
    record { fits = omega (arith, most, fits, c.deref.ensures.len, c.len.ensures) }

pub returns-clause-known : goal.returns-clause-known
returns-clause-known c =
    new-listed c.args.known.now.items c.deref.result.now c.args.leaf c.place_of-place.result c.len.result _ (live _ c.ranges.leaf.fits c.if-leaf-eq0.false)
    c.place_of-place.ensures c.deref.ensures.value c.deref.ensures.len c.len.ensures _ c.in_ok-push.ensures.items c.if-place-len.false

pub returns-clause-number : goal.returns-clause-number
returns-clause-number c =
    new-numbered c.args.known.now.items c.deref.result.now c.args.leaf c.place_of-place.result c.len.result _ (live _ c.ranges.leaf.fits c.if-leaf-eq0.false)
    c.place_of-place.ensures c.deref.ensures.value c.deref.ensures.len c.len.ensures _ c.in_ok-push.ensures.items c.if-place-len.false
