use Rattle.std.proofs.Common.{refl, sym, ◌∙◌, ap, subst, arith}
use Rattle.std.proofs.lemmas.Result.{err_from_is_err_and}
use Rattle.life_base.specs.Rules.{has_digit}
use Rattle.life_base.specs.Sets.{OuterTotalistic}
use Rattle.life_base.specs.Tree.{tree_cell}
use Rattle.life_quad.proofs.KeepingLemmas.{keeps-same, keeps-then}
use Rattle.life_quad.proofs.LawLemmas.{known_squares_are_full}
use Rattle.life_quad.specs.Store.{content}
use Rattle.life_later.proofs.CourseLemmas.{binary-later, blank-cells, none-later}
use Rattle.life_later.proofs.StayLemmas.{none-leaves}
use Rattle.life_phases.specs.Middle.{IsSquareInMiddle}
use Rattle.life_phases.proofs.PeriodLemmas.{first-refused, least-here, none-after_death, none-further, none-yet, one-later, one-stays, stays-after_death, stays-here, stays-most}
use Rattle.life_phases.proofs.period.first_period.Goals as goal

pub loop-done-init : goal.loop-done-init
loop-done-init c = record {
  most = omega arith;
  known = c.requires.start;
  low = c.requires.low;
  states = c.requires.states;
  later = none-later c.args.rule.now (content c.args.course.now c.args.start);
  none = none-yet c.args.rule.now (tree_cell (content c.args.course.now c.args.start));
  stays = none-leaves c.args.rule.now 0 (tree_cell (content c.args.course.now c.args.start)) refl;
  keeps = keeps-same c.args.middles.now;
}

pub returns-in_err-next-clause-refusals : goal.returns-in_err-next-clause-refusals
returns-in_err-next-clause-refusals c =
    let inv = c.loop-done.invariant in
    let l = c.loop-done-test.true in
    let p = err_from_is_err_and c.from_residual.result c.from_residual.ensures.1 in
    rw (p.1, p.2) (first-refused c.args.rule.now c.args.most c.loop-done.done (content c.args.course.now c.args.start)
    (content c.loop-done.course c.loop-done.now) _ _ _ (omega (arith, l)) inv.none inv.later c.in_err-next.ensures.refusals)

pub returns-then-is_blank-clause-period : goal.returns-then-is_blank-clause-period
returns-then-is_blank-clause-period c =
    let inv = c.loop-done.invariant in
    let rule = c.args.rule.now in
    let n = c.in_ok-next.ensures in
    let s = content c.args.course.now c.args.start in
    let u = content c.next_phase.new.course c.in_ok-next.next in
    let low = n.low in
    let quiet = ap (λ (d : OuterTotalistic). has_digit d.sets.births 0) (sym c.rule.view_is) ∙ c.rule.invariant.no_birth_on_zero in
    none-after_death rule (tree_cell s) c.loop-done.done inv.none (content c.args.middles.now c.args.first) u c.requires.same
    (one-later rule c.loop-done.done s (content c.loop-done.course c.loop-done.now) u inv.later n.later) quiet
    (blank-cells u (known_squares_are_full _ _ n.known.0).0 (omega (arith, low)) (sym c.is_blank.ensures ∙ c.if-is_blank.true)) c.args.most c.requires.middle

pub returns-then-is_blank-clause-stays : goal.returns-then-is_blank-clause-stays
returns-then-is_blank-clause-stays c =
    let inv = c.loop-done.invariant in
    let rule = c.args.rule.now in
    let n = c.in_ok-next.ensures in
    let s = content c.args.course.now c.args.start in
    let u = content c.next_phase.new.course c.in_ok-next.next in
    let low = n.low in
    let quiet = ap (λ (d : OuterTotalistic). has_digit d.sets.births 0) (sym c.rule.view_is) ∙ c.rule.invariant.no_birth_on_zero in
    stays-after_death rule (tree_cell s) c.loop-done.done inv.none (content c.args.middles.now c.args.first) u c.requires.same
    (one-later rule c.loop-done.done s (content c.loop-done.course c.loop-done.now) u inv.later n.later) quiet
    (blank-cells u (known_squares_are_full _ _ n.known.0).0 (omega (arith, low)) (sym c.is_blank.ensures ∙ c.if-is_blank.true)) c.args.most inv.stays

pub returns-in-Some-clause-stays : goal.returns-in-Some-clause-stays
returns-in-Some-clause-stays c =
    let inv = c.loop-done.invariant in
    let rule = c.args.rule.now in
    let n = c.in_ok-next.ensures in
    let s = content c.args.course.now c.args.start in
    let t = content c.loop-done.course c.loop-done.now in
    let u = content c.next_phase.new.course c.in_ok-next.next in
    let same = (inv.keeps.contents _ c.requires.first).1 in
    let moved = rw c.in-Some.is at c.in_ok-found.ensures.shift in
    stays-here rule (tree_cell s) c.loop-done.done inv.none (content c.loop-done.middles c.args.first) u
    (λ x y. ap (λ v. tree_cell v x y) same ∙ c.requires.same x y) (one-later rule c.loop-done.done s t u inv.later n.later) _ _ moved
    (one-stays rule c.loop-done.done s t inv.later inv.stays n.stays) c.args.most

pub returns-clause-stays : goal.returns-clause-stays
returns-clause-stays c =
    let inv = c.loop-done.invariant in
    let l = c.loop-done-test.false in
    stays-most c.args.rule.now (tree_cell (content c.args.course.now c.args.start)) c.args.most c.loop-done.done (omega (arith, l)) inv.stays

pub returns-in-Some-clause-period : goal.returns-in-Some-clause-period
returns-in-Some-clause-period c =
    let inv = c.loop-done.invariant in
    let l = c.loop-done-test.true in
    let rule = c.args.rule.now in
    let n = c.in_ok-next.ensures in
    let s = content c.args.course.now c.args.start in
    let u = content c.next_phase.new.course c.in_ok-next.next in
    let same = (inv.keeps.contents _ c.requires.first).1 in
    let moved = rw c.in-Some.is at c.in_ok-found.ensures.shift in (
      omega (arith, l),
      least-here rule (tree_cell s) c.loop-done.done inv.none (content c.loop-done.middles c.args.first) u
          (λ x y. ap (λ t. tree_cell t x y) same ∙ c.requires.same x y)
          (one-later rule c.loop-done.done s (content c.loop-done.course c.loop-done.now) u inv.later n.later)
          (subst IsSquareInMiddle (sym same) c.requires.middle) _ refl moved,
    )

pub loop-done-preserved : goal.loop-done-preserved
loop-done-preserved c =
    let inv = c.loop-done.invariant in
    let l = c.loop-done-test.true in
    let rule = c.args.rule.now in
    let n = c.in_ok-next.ensures in
    let s = content c.args.course.now c.args.start in
    let t = content c.loop-done.course c.loop-done.now in
    let u = content c.next_phase.new.course c.in_ok-next.next in
    let same = (inv.keeps.contents _ c.requires.first).1 in
    let unmoved = rw c.in_default.is at c.in_ok-found.ensures.shift in
    let later = one-later rule c.loop-done.done s t u inv.later n.later in
    record {
      most = omega (arith, l);
      known = n.known;
      low = n.low;
      states = binary-later rule 1 t u inv.states n.later;
      later = later;
      none = none-further rule (tree_cell s) c.loop-done.done inv.none (content c.loop-done.middles c.args.first) u
          (λ x y. ap (λ v. tree_cell v x y) same ∙ c.requires.same x y) later unmoved;
      stays = one-stays rule c.loop-done.done s t inv.later inv.stays n.stays;
      keeps = keeps-then inv.keeps c.in_ok-found.ensures.keeps;
    }
