use Rattle.std.proofs.Common.{rules, Fits, w8, ◌≡◌, ◌<◌, ◌+◌, ◌^◌, Err, inl, inr, refl, arith, sym, ◌∙◌, ap, subst}
use Rattle.std.proofs.Math.Pow.{pow_mono}
use Rattle.life_base.specs.Tree.{depth, IsFull}
use Rattle.life_quad.specs.Span.{SetsSpan, SetsHalves}
use Rattle.life_quad.specs.StoreLaws.{same_ids}
use Rattle.life_quad.proofs.KeepingLemmas.{keeps-same, keeps-then}
use Rattle.life_quad.proofs.MakingLemmas.{made, refused, joined-last}
use Rattle.life_quad.proofs.RefusedLemmas.{SomePart-north, SomePart-south, SetsHalves-left, SetsHalves-right, SetsHalves-both, SetsHalves-same, rest_of, with_span, span_of_point}
use Rattle.life_quad.proofs.SpanLemmas.{in_north, in_south}
use Rattle.life_quad.proofs.runs.+span.Goals as goal

pub set_halves-overflow_add-end : goal.set_halves-overflow_add-end
set_halves-overflow_add-end g t c =
    let r = c.requires in
    let small = pow_mono {i = depth (g.S.Squares.content c.args.squares.now c.args.left)} {j = 62} (omega (arith, r.low)) in
    omega (arith, small, r.side, r.columns)

pub set_halves-overflow_add-half : goal.set_halves-overflow_add-half
set_halves-overflow_add-half g t c =
    let r = c.requires in
    let small = pow_mono {i = depth (g.S.Squares.content c.args.squares.now c.args.left)} {j = 62} (omega (arith, r.low)) in
    omega (arith, small, r.side)

pub set_halves-returns-then-end-half : goal.set_halves-returns-then-end-half
set_halves-returns-then-end-half g t c =
    let o = c.args.squares.now in
    let C = g.S.Squares.content in
    let r = c.requires in
    let call = c.in_ok-set_span.ensures in
    let kept = call.keeps.contents _ r.right in
    let set = SetsHalves-left _ _ c.args.half _ r.side r.one_level _ (g.met.S.Squares.full o c.args.right r.right) c.if-end-half.true call.square in
    let n = c.set_span.new.squares in
    let there = subst (λ u. SetsHalves (C o c.args.left) (C o c.args.right) (C n c.in_ok-set_span.field-0) u c.args.span) (sym kept.1) set in
    made _ (call.known, kept.0) there call.keeps

pub set_halves-returns-then-half-span : goal.set_halves-returns-then-half-span
set_halves-returns-then-half-span g t c =
    let o = c.args.squares.now in
    let C = g.S.Squares.content in
    let r = c.requires in
    let call = c.in_ok-set_span-2.ensures in
    let kept = call.keeps.contents _ r.left in
    let set = SetsHalves-right _ _ c.args.half _ r.side r.one_level _ (g.met.S.Squares.full o c.args.left r.left) c.if-half-span.true call.square in
    let n = c.set_span-then-half-span.new.squares in
    let there = subst (λ u. SetsHalves (C o c.args.left) (C o c.args.right) u (C n c.in_ok-set_span-2.field-0) c.args.span) (sym kept.1) set in
    made _ (kept.0, call.known) there call.keeps

pub set_halves-returns-then-span-half : goal.set_halves-returns-then-span-half
set_halves-returns-then-span-half g t c =
    let r = c.requires in
    let call = c.in_ok-new_left.ensures in
    let test = c.eq.ensures in
    let one : c.args.left.0 ≡ c.args.right.0 = grind arith in
    let inside : c.args.span.column < c.args.half = grind (arith, c.if-half-span.false) in
    let set = SetsHalves-same _ _ _ c.args.half _ r.side (ap (g.S.Squares.content c.args.squares.now) (same_ids one)) inside r.columns
    c.if-span-half.true call.square in
    made _ (call.known, call.known) set call.keeps

pub set_halves-returns : goal.set_halves-returns
set_halves-returns g t c =
    let o = c.args.squares.now in
    let C = g.S.Squares.content in
    let r = c.requires in
    let first = c.in_ok-new_left.ensures in
    let second = c.in_ok-new_right.ensures in
    let kept = second.keeps.contents _ first.known in
    let inside : c.args.span.column < c.args.half = grind (arith, c.if-half-span.false) in
    let beyond : c.args.half < c.args.span.column + c.args.span.len = grind (arith, c.if-end-half.false) in
    let set = SetsHalves-both _ _ c.args.half _ r.side r.one_level _ _ inside beyond first.square (rw (first.keeps.contents _ r.right).1 at second.square) in
    let there = subst (λ u. SetsHalves (C o c.args.left) (C o c.args.right) u (C c.set_span-3.new.squares c.in_ok-new_right.new_right) c.args.span)
    (sym kept.1) set in
    made _ (kept.0, second.known) there (keeps-then first.keeps second.keeps)

-- A refusal: what is set in the other half is a square too, though it is not in the store.
pub set_halves-returns-in_err-set_span : goal.set_halves-returns-in_err-set_span
set_halves-returns-in_err-set_span g t c =
    let o = c.args.squares.now in
    let r = c.requires in
    let call = c.in_err-set_span.ensures in
    let n = call.needed in
    let set = SetsHalves-left _ _ c.args.half _ r.side r.one_level n.0 (g.met.S.Squares.full o c.args.right r.right) c.if-end-half.true n.1 in
    refused _ _ c.from_residual.result c.from_residual.ensures.1 call.keeps call.refusals (λ f. call.space (ap Err f))
    (n.0, g.S.Squares.content o c.args.right, set, inl n.2)

pub set_halves-returns-in_err-set_span-2 : goal.set_halves-returns-in_err-set_span-2
set_halves-returns-in_err-set_span-2 g t c =
    let o = c.args.squares.now in
    let r = c.requires in
    let call = c.in_err-set_span-2.ensures in
    let reported = c.from_residual-in_err-set_span-2 in
    let n = call.needed in
    let set = SetsHalves-right _ _ c.args.half _ r.side r.one_level n.0 (g.met.S.Squares.full o c.args.left r.left) c.if-half-span.true n.1 in
    refused _ _ reported.result reported.ensures.1 call.keeps call.refusals (λ f. call.space (ap Err f))
    (g.S.Squares.content o c.args.left, n.0, set, inr n.2)

pub set_halves-returns-in_err-new_left : goal.set_halves-returns-in_err-new_left
set_halves-returns-in_err-new_left g t c =
    let o = c.args.squares.now in
    let r = c.requires in
    let call = c.in_err-new_left.ensures in
    let reported = c.from_residual-in_err-new_left in
    let n = call.needed in
    let inside : c.args.span.column < c.args.half = grind (arith, c.if-half-span.false) in
    let beyond : c.args.half < c.args.span.column + c.args.span.len = grind (arith, c.if-end-half.false) in
    let small : Fits w8 c.args.span.state = search rules in
    let sides : 2 ^ depth (g.S.Squares.content o c.args.right) ≡ c.args.half = ap (λ d. 2 ^ d) r.one_level ∙ sym r.side in
    let other = with_span (g.S.Squares.content o c.args.right) (g.met.S.Squares.full o c.args.right r.right) (rest_of c.args.half c.args.span) small.fits
    (omega (arith, beyond)) (omega (arith, r.columns, sides)) (omega (arith, r.rows, sides)) in
    refused _ _ reported.result reported.ensures.1 call.keeps call.refusals (λ f. call.space (ap Err f))
    (n.0, other.0, SetsHalves-both _ _ c.args.half _ r.side r.one_level n.0 other.0 inside beyond n.1 other.1, inl n.2)

pub set_halves-returns-in_err-new_right : goal.set_halves-returns-in_err-new_right
set_halves-returns-in_err-new_right g t c =
    let r = c.requires in
    let first = c.in_ok-new_left.ensures in
    let call = c.in_err-new_right.ensures in
    let reported = c.from_residual-in_err-new_right in
    let n = call.needed in
    let inside : c.args.span.column < c.args.half = grind (arith, c.if-half-span.false) in
    let beyond : c.args.half < c.args.span.column + c.args.span.len = grind (arith, c.if-end-half.false) in
    let set = SetsHalves-both _ _ c.args.half _ r.side r.one_level _ n.0 inside beyond first.square (rw (first.keeps.contents _ r.right).1 at n.1) in
    refused _ _ reported.result reported.ensures.1 (keeps-then first.keeps call.keeps) call.refusals (λ f. call.space (ap Err f))
    (_, n.0, set, inr n.2)

-- ---- a square, by its halves

pub set_span-returns-then-level-eq0 : goal.set_span-returns-then-level-eq0
set_span-returns-then-level-eq0 g t c =
    let r = c.requires in
    let flat : depth (g.S.Squares.content c.args.squares.now c.args.id) ≡ 0 = sym c.level-level.ensures.level ∙ c.if-level-eq0.true in
    let small = subst IsFull c.cell.ensures.square (g.met.S.Squares.full c.args.squares.now c.cell.result c.cell.ensures.known) in
    made _ c.cell.ensures.known (span_of_point _ _ _ flat c.cell.ensures.square small r.positive r.columns r.rows) (keeps-same c.args.squares.now)

pub set_span-join-requires : goal.set_span-join-requires
set_span-join-requires g t c =
    let d = c.divide.ensures in
    let h = c.in_ok-left.ensures in
    let a = h.square.left_level in
    let sw = h.keeps.contents _ d.quarters.sw in
    let se = h.keeps.contents _ d.quarters.se in
    record {
      nw = h.known.0;
      ne = h.known.1;
      sw = sw.0;
      se = se.0;
      ne_level = omega (arith, a, h.square.right_level, d.quarters.nw_level, d.quarters.ne_level);
      sw_level = omega (arith, a, ap depth sw.1, d.quarters.nw_level, d.quarters.sw_level);
      se_level = omega (arith, a, ap depth se.1, d.quarters.nw_level, d.quarters.se_level);
      space = omega (arith, a, d.quarters.nw_level, c.level-level.ensures.level, c.level-level.ensures.low);
    }

pub set_span-join-requires-else-span-half : goal.set_span-join-requires-else-span-half
set_span-join-requires-else-span-half g t c =
    let d = c.divide.ensures in
    let h = c.in_ok-left-2.ensures in
    let nw = h.keeps.contents _ d.quarters.nw in
    let ne = h.keeps.contents _ d.quarters.ne in
    let a = ap depth nw.1 in
    record {
      nw = nw.0;
      ne = ne.0;
      sw = h.known.0;
      se = h.known.1;
      ne_level = omega (arith, a, ap depth ne.1, d.quarters.nw_level, d.quarters.ne_level);
      sw_level = omega (arith, a, h.square.left_level, d.quarters.nw_level, d.quarters.sw_level);
      se_level = omega (arith, a, h.square.right_level, d.quarters.nw_level, d.quarters.se_level);
      space = omega (arith, a, d.quarters.nw_level, c.level-level.ensures.level, c.level-level.ensures.low);
    }

pub set_span-returns-in_err-left : goal.set_span-returns-in_err-left
set_span-returns-in_err-left g t c =
    let d = c.divide.ensures in
    let call = c.in_err-left.ensures in
    let n = call.needed in
    let full = g.met.S.Squares.full c.args.squares.now c.args.id c.requires.known in
    let set = in_north _ _ _ _ _ _ _ _ full d.square c.level-level.ensures.level d.quarters.nw_level c.half_side-half.ensures.half n.0 n.1 _ _
    c.if-span-half.true n.2 refl refl in
    refused _ _ c.from_residual.result c.from_residual.ensures.1 call.keeps call.refusals (λ f. call.space (ap Err f))
    (_, set, SomePart-north (g.S.Squares.needs_node c.set_halves.new.squares) _ _ _ _ n.3)

pub set_span-returns-in_err-left-2 : goal.set_span-returns-in_err-left-2
set_span-returns-in_err-left-2 g t c =
    let d = c.divide.ensures in
    let call = c.in_err-left-2.ensures in
    let reported = c.from_residual-in_err-left-2 in
    let n = call.needed in
    let full = g.met.S.Squares.full c.args.squares.now c.args.id c.requires.known in
    let set = in_south _ _ _ _ _ _ _ _ full d.square c.level-level.ensures.level d.quarters.nw_level c.half_side-half.ensures.half _ _ n.0 n.1
    c.if-span-half.false n.2 refl refl in
    refused _ _ reported.result reported.ensures.1 call.keeps call.refusals (λ f. call.space (ap Err f))
    (_, set, SomePart-south (g.S.Squares.needs_node c.set_halves-else-span-half.new.squares) _ _ _ _ n.3)

pub set_span-returns-in_ok-left : goal.set_span-returns-in_ok-left
set_span-returns-in_ok-left g t c =
    let d = c.divide.ensures in
    let h = c.in_ok-left.ensures in
    let t = g.S.Squares.content c.args.squares.now c.args.id in
    let full = g.met.S.Squares.full c.args.squares.now c.args.id c.requires.known in
    let set = in_north _ _ _ _ _ _ _ _ full d.square c.level-level.ensures.level d.quarters.nw_level c.half_side-half.ensures.half _ _ _ _ c.if-span-half.true
    h.square
    (h.keeps.contents _ d.quarters.sw).1 (h.keeps.contents _ d.quarters.se).1 in
    joined-last g.S.Squares.needs_node (λ u. SetsSpan t u c.args.span) c.join.result h.keeps c.join.ensures set
    (λ n. (_, set, inl n))

pub set_span-returns-in_ok-left-2 : goal.set_span-returns-in_ok-left-2
set_span-returns-in_ok-left-2 g t c =
    let d = c.divide.ensures in
    let h = c.in_ok-left-2.ensures in
    let t = g.S.Squares.content c.args.squares.now c.args.id in
    let full = g.met.S.Squares.full c.args.squares.now c.args.id c.requires.known in
    let set = in_south _ _ _ _ _ _ _ _ full d.square c.level-level.ensures.level d.quarters.nw_level c.half_side-half.ensures.half _ _ _ _ c.if-span-half.false
    h.square
    (h.keeps.contents _ d.quarters.nw).1 (h.keeps.contents _ d.quarters.ne).1 in
    joined-last g.S.Squares.needs_node (λ u. SetsSpan t u c.args.span) c.join-else-span-half.result h.keeps
    c.join-else-span-half.ensures set (λ n. (_, set, inl n))
