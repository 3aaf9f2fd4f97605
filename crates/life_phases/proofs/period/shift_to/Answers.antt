use Rattle.std.proofs.Common.{◌≡◌, ◌^◌, ◌-ℤ◌, ◌≤ℤ◌, ℤ, pos, neg_ℤ, sym, ◌∙◌, ap, true≢false, arith, to_z, of_z, w64}
use Rattle.std.proofs.lemmas.Int.{ints}
use Rattle.life_quad.proofs.LawLemmas.{equal_squares_have_one_id, known_squares_are_full}
use Rattle.life_quad.specs.Store.{content}
use Rattle.life_later.proofs.CourseLemmas.{blank-cells, box-on_plane}
use Rattle.life_phases.proofs.MiddleLemmas.{columns-order, columns-way, other-size, rows-order, rows-way}
use Rattle.life_phases.proofs.PeriodLemmas.{none-moved, other-moved, same-moved}
use Rattle.life_phases.proofs.period.shift_to.Goals as goal

pub returns-in_default-clause-shift : goal.returns-in_default-clause-shift
returns-in_default-clause-shift c =
    let t = content c.args.course.now c.args.now in
    let low = c.requires.low in
    let blank = rw c.in_default.is at c.in_ok-found.ensures.least in
    none-moved (content c.args.middles.now c.args.first) t c.requires.middle
    (blank-cells t (known_squares_are_full _ _ c.requires.now.0).0 (omega (arith, low)) blank)

pub way_to_middle-way-requires-clause-plane : goal.way_to_middle-way-requires-clause-plane
way_to_middle-way-requires-clause-plane c =
    let t = content c.args.course.now c.args.now in
    let low = c.requires.low in
    let box = rw c.in-Some.is at c.in_ok-found.ensures.least in
    box-on_plane t c.in-Some.found (omega (arith, low)) (known_squares_are_full _ _ c.requires.now.0).1 box

pub way_to_middle-way-requires-clause-columns : goal.way_to_middle-way-requires-clause-columns
way_to_middle-way-requires-clause-columns c =
    let box = rw c.in-Some.is at c.in_ok-found.ensures.least in
    columns-order (content c.args.course.now c.args.now) c.in-Some.found box

pub way_to_middle-way-requires-clause-rows : goal.way_to_middle-way-requires-clause-rows
way_to_middle-way-requires-clause-rows c =
    let box = rw c.in-Some.is at c.in_ok-found.ensures.least in
    rows-order (content c.args.course.now c.args.now) c.in-Some.found box

pub overflow_sub-result : goal.overflow_sub-result
overflow_sub-result c =
    let t = content c.args.course.now c.args.now in
    let low = c.requires.low in
    let box = rw c.in-Some.is at c.in_ok-found.ensures.least in
    let plane = box-on_plane t c.in-Some.found (omega (arith, low)) (known_squares_are_full _ _ c.requires.now.0).1 box in
    let w = columns-way t c.in-Some.found c.way_to_middle-way.result box plane c.way_to_middle-way.ensures in
    let l = w.0 in
    let r = w.1 in
    omega (arith, ints, l, r)

pub overflow_sub-result-then-is_same : goal.overflow_sub-result-then-is_same
overflow_sub-result-then-is_same c =
    let t = content c.args.course.now c.args.now in
    let low = c.requires.low in
    let box = rw c.in-Some.is at c.in_ok-found.ensures.least in
    let plane = box-on_plane t c.in-Some.found (omega (arith, low)) (known_squares_are_full _ _ c.requires.now.0).1 box in
    let w = rows-way t c.in-Some.found c.way_to_middle-way.result box plane c.way_to_middle-way.ensures in
    let l = w.0 in
    let r = w.1 in
    omega (arith, ints, l, r)

negated : (a : ℤ) → neg_ℤ (pos (2 ^ 61)) ≤ℤ a → a ≤ℤ pos (2 ^ 61) → neg_ℤ a ≡ to_z w64 (of_z w64 (pos 0 -ℤ to_z w64 (of_z w64 a)))
negated a l r = omega (arith, ints, l, r)

pub returns-then-is_same-clause-shift : goal.returns-then-is_same-clause-shift
returns-then-is_same-clause-shift c =
    let t = content c.args.course.now c.args.now in
    let s = content c.args.middles.now c.args.first in
    let low = c.requires.low in
    let box = rw c.in-Some.is at c.in_ok-found.ensures.least in
    let plane = box-on_plane t c.in-Some.found (omega (arith, low)) (known_squares_are_full _ _ c.requires.now.0).1 box in
    let way = c.way_to_middle-way.result in
    let w = columns-way t c.in-Some.found way box plane c.way_to_middle-way.ensures in
    let v = rows-way t c.in-Some.found way box plane c.way_to_middle-way.ensures in
    let id = c.in_ok-id.ensures in
    let here = content c.in_middle.new.to c.in_ok-id.id in
    let kept = id.keeps.contents _ c.requires.first in
    let is : here ≡ s = ap (content c.in_middle.new.to) (c.is_same.ensures.same c.if-is_same.true) ∙ kept.1 in
    same-moved s t here way.columns way.rows id.moved _ _ is (negated _ w.0 w.1) (negated _ v.0 v.1)

pub returns-clause-shift : goal.returns-clause-shift
returns-clause-shift c =
    let t = content c.args.course.now c.args.now in
    let s = content c.args.middles.now c.args.first in
    let way = c.way_to_middle-way.result in
    let id = c.in_ok-id.ensures in
    let here = content c.in_middle.new.to c.in_ok-id.id in
    let kept = id.keeps.contents _ c.requires.first in
    other-moved s t here way.columns way.rows id.moved c.requires.middle id.middle (known_squares_are_full _ _ c.requires.first.0).0
    (known_squares_are_full _ _ id.known.0).0
    (λ e. c.is_same.ensures.other c.if-is_same.false (equal_squares_have_one_id c.in_middle.new.to id.known.1 _ _ id.known.0 kept.0.0 (sym e ∙ sym kept.1)))

pub are_as_large-requires-clause-b : goal.are_as_large-requires-clause-b
are_as_large-requires-clause-b c =
    let t = content c.args.course.now c.args.now in
    let low = c.requires.low in
    let box = rw c.in-Some.is at c.in_ok-found.ensures.least in
    box-on_plane t c.in-Some.found (omega (arith, low)) (known_squares_are_full _ _ c.requires.now.0).1 box

pub returns-then-not-are_as_large-clause-shift : goal.returns-then-not-are_as_large-clause-shift
returns-then-not-are_as_large-clause-shift c =
    let t = content c.args.course.now c.args.now in
    let box = rw c.in-Some.is at c.in_ok-found.ensures.least in
    other-size (content c.args.middles.now c.args.first) t c.args.outline.now c.in-Some.found c.requires.middle c.requires.outline box
    (λ large. true≢false (sym (c.are_as_large.ensures large) ∙ c.if-not-are_as_large.true))
