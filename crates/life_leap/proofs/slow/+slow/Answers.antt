use Rattle.std.proofs.Common.{◌≡◌, ◌+◌, ◌-◌, ◌^◌, min, sym, ◌∙◌, ap, subst, arith, rules}
use Rattle.std.proofs.lemmas.Result.{IfOk-weaker}
use Rattle.std.proofs.Math.Pow.{pow_mono}
use Rattle.life_base.proofs.Squares.{blank_is}
use Rattle.life_base.specs.Tree.{blank, depth}
use Rattle.life_quad.proofs.KeepingLemmas.{keeps-then}
use Rattle.life_quad.specs.IdMap.{value_of_id}
use Rattle.life_pieces.specs.Pieces.{IsOfLevel}
use Rattle.life_pieces.proofs.PieceLemmas.{IsAt-kept}
use Rattle.life_leap.specs.After.{leap_length}
use Rattle.life_leap.specs.Leaps.{IsMiddleAfter}
use Rattle.life_leap.proofs.LeapLemmas.{leap-of_blank, leap-of_parts, leaps-kept, leaps-put, new-leap, recalled-leap, slow-length}
use Rattle.life_leap.proofs.StoreSteps.{whole-of_joined}
use Rattle.life_leap.proofs.slow.+slow.Goals as goal

-- ---- the middle of a square above the level of its pace

pub middle_above-returns-then-is_blank_at-clause-later : goal.middle_above-returns-then-is_blank_at-clause-later
middle_above-returns-then-is_blank_at-clause-later g t c =
    let k = c.args.level - 2 in
    let low = c.requires.low in
    let at = c.requires.known.level in
    let full = g.met.S.Squares.full _ _ c.requires.known.known in
    let none = sym c.is_blank_at.ensures ∙ c.if-is_blank_at.true in
    let e : depth (g.S.Squares.content c.args.squares.now c.args.id) ≡ k + 2 = omega (arith, at, low) in
    let f : c.args.level - 1 ≡ k + 1 = omega (arith, low) in
    leap-of_blank c.args.rule.now (leap_length c.args.pace c.args.level) k _ _ c.requires.quiet (pow_mono {i = min c.args.pace k} {j = k} (omega arith))
    (blank_is _ full none ∙ ap blank e) (c.empty.ensures.square ∙ ap blank f)

pub middle_above-returns-in-Some-clause-at : goal.middle_above-returns-in-Some-clause-at
middle_above-returns-in-Some-clause-at g t c = (recalled-leap _ _ _ c.args.level c.requires.slow (sym c.get.ensures ∙ c.in-Some.is) c.requires.known).0

pub middle_above-returns-in-Some-clause-later : goal.middle_above-returns-in-Some-clause-later
middle_above-returns-in-Some-clause-later g t c = (recalled-leap _ _ _ c.args.level c.requires.slow (sym c.get.ensures ∙ c.in-Some.is) c.requires.known).1

pub middle_above-middle_of_nine_at_pace-requires : goal.middle_above-middle_of_nine_at_pace-requires
middle_above-middle_of_nine_at_pace-requires g t c κs le =
    let n = c.in_ok-nine.ensures in
    let low = c.requires.low in
    let high = c.requires.high in (
      search rules,
      (
        le,
        (
          leaps-kept n.keeps c.requires.fast,
          (
            leaps-kept n.keeps c.requires.slow,
            (n.known, (omega (arith, low), (omega (arith, low, high), (c.requires.pace, c.requires.quiet)))),
          ),
        ),
      ),
    )

pub middle_above-returns-clause-later : goal.middle_above-returns-clause-later
middle_above-returns-clause-later g t c =
    let k = c.args.level - 2 in
    let low = c.requires.low in
    let above = c.requires.above in
    let e : k + 2 ≡ c.args.level = omega (arith, low) in
    let t0 = g.S.Squares.content c.args.squares.now c.args.id in
    let C = g.S.Squares.content c.middle_of_nine_at_pace.new.squares in
    subst (λ l. IsMiddleAfter c.args.rule.now (leap_length c.args.pace l) (2 ^ k) t0 (C c.in_ok-answer.answer)) e
    (leap-of_parts c.args.rule.now c.args.pace k _ _ t0 _ _ _ (omega (arith, low)) c.sixteenths-sixteen.ensures.pieces
    (record {
      generations = 0;
      rest = slow-length c.args.pace k (omega (arith, low)) (omega (arith, above));
      middles = c.in_ok-nine.ensures.later c.args.rule.now;
    }) c.in_ok-answer.ensures.later)

pub middle_above-returns-clause-slow : goal.middle_above-returns-clause-slow
middle_above-returns-clause-slow g t c =
    let n = c.in_ok-answer.ensures in
    let k = c.args.level - 2 in
    let low = c.requires.low in
    let above = c.requires.above in
    let e : k + 2 ≡ c.args.level = omega (arith, low) in
    let f : k + 1 ≡ c.args.level - 1 = omega (arith, low) in
    let t0 = g.S.Squares.content c.args.squares.now c.args.id in
    let now = c.middle_of_nine_at_pace.new.squares in
    let C = g.S.Squares.content now in
    let keeps = keeps-then c.in_ok-nine.ensures.keeps n.keeps in
    let same = keeps.contents c.args.id c.requires.known.known in
    let later : IsMiddleAfter c.args.rule.now (leap_length c.args.pace c.args.level) (2 ^ k) t0 (C c.in_ok-answer.answer) =
    subst (λ l. IsMiddleAfter c.args.rule.now (leap_length c.args.pace l) (2 ^ k) t0 (C c.in_ok-answer.answer)) e
    (leap-of_parts c.args.rule.now c.args.pace k _ _ t0 _ _ _ (omega (arith, low)) c.sixteenths-sixteen.ensures.pieces
    (record {
      generations = 0;
      rest = slow-length c.args.pace k (omega (arith, low)) (omega (arith, above));
      middles = c.in_ok-nine.ensures.later c.args.rule.now;
    }) n.later) in
    let right = subst (λ u. IsMiddleAfter c.args.rule.now (leap_length c.args.pace c.args.level) (2 ^ k) u (C c.in_ok-answer.answer)) (sym same.1) later in
    let at = subst (λ l. IsOfLevel (g.S.Squares.knows now) C l c.in_ok-answer.answer) f n.at in
    let here = new-leap c.args.id c.in_ok-answer.answer c.args.level (omega (arith, low)) (IsAt-kept keeps c.requires.known) at right in
    leaps-put (value_of_id c.middle_of_nine_at_pace.new.slow) (value_of_id c.set.new.self) c.args.id c.in_ok-answer.answer n.slow c.set.ensures.only here

-- ---- the middle of a square of any level

pub middle_at_pace-returns-then-level-pace-clause-slow : goal.middle_at_pace-returns-then-level-pace-clause-slow
middle_at_pace-returns-then-level-pace-clause-slow g t c =
    IfOk-weaker c.middle_after.result _ _ (λ r at. leaps-kept c.middle_after.ensures.keeps c.requires.slow) c.middle_after.ensures.at

pub middle_at_pace-returns-then-level-eq4-clause-fast : goal.middle_at_pace-returns-then-level-eq4-clause-fast
middle_at_pace-returns-then-level-eq4-clause-fast g t c =
    IfOk-weaker c.middle_after-then-level-eq4.result _ _ (λ r at. leaps-kept c.middle_after-then-level-eq4.ensures.keeps c.requires.fast)
    c.middle_after-then-level-eq4.ensures.at

-- ---- four squares of nine

pub middle_of_nine_at_pace-middle_at_pace-requires : goal.middle_of_nine_at_pace-middle_at_pace-requires
middle_of_nine_at_pace-middle_at_pace-requires g t c κs le =
    let j = c.in_ok-joined.ensures in
    let low = c.requires.low in
    let high = c.requires.high in (
      search rules,
      (
        le,
        (
          leaps-kept j.keeps c.requires.fast,
          (
            leaps-kept j.keeps c.requires.slow,
            (j.known.nw, (omega (arith, low), (omega (arith, high), (c.requires.pace, c.requires.quiet)))),
          ),
        ),
      ),
    )

pub middle_of_nine_at_pace-returns-in_err-ne-clause-keeps : goal.middle_of_nine_at_pace-returns-in_err-ne-clause-keeps
middle_of_nine_at_pace-returns-in_err-ne-clause-keeps g t c =
    keeps-then (keeps-then c.in_ok-joined.ensures.keeps c.in_ok-nw.ensures.keeps) c.in_err-ne.ensures.keeps

pub middle_of_nine_at_pace-returns-in_err-sw-clause-keeps : goal.middle_of_nine_at_pace-returns-in_err-sw-clause-keeps
middle_of_nine_at_pace-returns-in_err-sw-clause-keeps g t c =
    keeps-then (keeps-then (keeps-then c.in_ok-joined.ensures.keeps c.in_ok-nw.ensures.keeps) c.in_ok-ne.ensures.keeps) c.in_err-sw.ensures.keeps

pub middle_of_nine_at_pace-returns-in_err-se-clause-keeps : goal.middle_of_nine_at_pace-returns-in_err-se-clause-keeps
middle_of_nine_at_pace-returns-in_err-se-clause-keeps g t c =
    keeps-then (keeps-then (keeps-then (keeps-then c.in_ok-joined.ensures.keeps c.in_ok-nw.ensures.keeps) c.in_ok-ne.ensures.keeps) c.in_ok-sw.ensures.keeps)
    c.in_err-se.ensures.keeps

pub middle_of_nine_at_pace-returns-clause-keeps : goal.middle_of_nine_at_pace-returns-clause-keeps
middle_of_nine_at_pace-returns-clause-keeps g t c =
    keeps-then (keeps-then (keeps-then (keeps-then (keeps-then c.in_ok-joined.ensures.keeps c.in_ok-nw.ensures.keeps) c.in_ok-ne.ensures.keeps)
    c.in_ok-sw.ensures.keeps) c.in_ok-se.ensures.keeps) c.join.ensures.keeps

pub middle_of_nine_at_pace-returns-clause-fast : goal.middle_of_nine_at_pace-returns-clause-fast
middle_of_nine_at_pace-returns-clause-fast g t c =
    IfOk-weaker c.join.result _ _ (λ r known. leaps-kept c.join.ensures.keeps c.in_ok-se.ensures.fast) c.join.ensures.known

pub middle_of_nine_at_pace-returns-clause-slow : goal.middle_of_nine_at_pace-returns-clause-slow
middle_of_nine_at_pace-returns-clause-slow g t c =
    IfOk-weaker c.join.result _ _ (λ r known. leaps-kept c.join.ensures.keeps c.in_ok-se.ensures.slow) c.join.ensures.known

pub middle_of_nine_at_pace-returns-clause-later : goal.middle_of_nine_at_pace-returns-clause-later
middle_of_nine_at_pace-returns-clause-later g t c =
    let k = c.args.level in
    let j = c.in_ok-joined.ensures in
    let nw = c.in_ok-nw.ensures in
    let ne = c.in_ok-ne.ensures in
    let sw = c.in_ok-sw.ensures in
    let se = c.in_ok-se.ensures in
    let e : k + 1 - 2 ≡ k - 1 = omega arith in
    let f : k + 1 - 1 ≡ k = omega arith in
    IfOk-weaker c.join.result _ _
    (λ r is. whole-of_joined nw.keeps ne.keeps sw.keeps se.keeps c.args.rule.now (leap_length c.args.pace (k + 1)) (k + 1 - 2) k (k + 1) (k + 1 - 1)
    c.args.nine.now _ _ _ _ _ _ e f c.requires.known j.known nw.at ne.at sw.at se.at is j.squares nw.later ne.later sw.later se.later)
    c.join.ensures.square
