use Rattle.std.proofs.Common.{◌≡◌, inl, inr, sym, ◌∙◌, ap, subst, arith, true≢false}
use Rattle.std.proofs.lemmas.Int.{ints}
use Rattle.std.proofs.lemmas.Result.{err_from_is_err_and}
use Rattle.life_base.specs.Refusal.{fault_of}
use Rattle.life_strip.specs.Given.{IsRunOnPlane, state_by}
use Rattle.life_table.specs.Meaning.{Becomes, Ambiguous}
use Rattle.life_sweep.specs.RunBuilder.{drawn_runs}
use Rattle.life_sweep.proofs.NeedLemmas.{full-kind, not-full}
use Rattle.life_sweep.proofs.RunBuilderLemmas.{kept}
use Rattle.life_sweep.proofs.SweepLemmas.{ready-next}
use Rattle.life_sweep.proofs.sweep.draw_place.Goals as goal

pub returns-then-state-eq0-clause-ready : goal.returns-then-state-eq0-clause-ready
returns-then-state-eq0-clause-ready g c = ready-next (drawn_runs c.args.builder.now) c.args.window.now.x c.args.y c.requires.ready

pub returns-then-state-eq0-clause-put : goal.returns-then-state-eq0-clause-put
returns-then-state-eq0-clause-put g c zero = record {
  next = c.in_ok-state.state;
  answer = subst (λ v. g.L.Law.answers c.args.law.now v (Becomes c.in_ok-state.state)) c.around.ensures c.in_ok-state.ensures.next;
  kept = λ k. zero ∙ sym c.if-state-eq0.true;
  stays = λ e. e;
  reported = λ e. inl e;
}

pub returns-then-not-is_on_plane-clause-ready : goal.returns-then-not-is_on_plane-clause-ready
returns-then-not-is_on_plane-clause-ready g c = ready-next (drawn_runs c.args.builder.now) c.args.window.now.x c.args.y c.requires.ready

pub draw-requires-clause-next : goal.draw-requires-clause-next
draw-requires-clause-next g c =
    let ex : c.args.window.now.x ≡ kept c.args.window.now.x = omega (arith, ints, c.requires.place.place.0, c.requires.place.place.1) in
    let ey : c.args.y ≡ kept c.args.y = omega (arith, ints, c.ranges.y) in
    c.requires.ready _ _ (inr (ey, omega (arith, ints, ex)))

pub returns-clause-ready : goal.returns-clause-ready
returns-clause-ready g c column row f =
    let ex : c.args.window.now.x ≡ kept c.args.window.now.x = omega (arith, ints, c.requires.place.place.0, c.requires.place.place.1) in
    let ey : c.args.y ≡ kept c.args.y = omega (arith, ints, c.ranges.y) in
    c.in_ok-draw.ensures.next column row (elim f [ inl l ↦ inl (omega (arith, ints, l, ey)) | inr p ↦ inr (sym ey ∙ p.0, omega (arith, ints, p.1, ex)) ])

pub returns-clause-others : goal.returns-clause-others
returns-clause-others g c column row ne =
    let ex : c.args.window.now.x ≡ kept c.args.window.now.x = omega (arith, ints, c.requires.place.place.0, c.requires.place.place.1) in
    let ey : c.args.y ≡ kept c.args.y = omega (arith, ints, c.ranges.y) in
    c.in_ok-draw.ensures.others column row (λ e1 e2. ne (e1 ∙ sym ex) (e2 ∙ sym ey))

pub returns-clause-put : goal.returns-clause-put
returns-clause-put g c zero =
    let ex : c.args.window.now.x ≡ kept c.args.window.now.x = omega (arith, ints, c.requires.place.place.0, c.requires.place.place.1) in
    let ey : c.args.y ≡ kept c.args.y = omega (arith, ints, c.ranges.y) in
    let all = drawn_runs c.draw.new.self in
    record {
      next = c.in_ok-state.state;
      answer = subst (λ v. g.L.Law.answers c.args.law.now v (Becomes c.in_ok-state.state)) c.around.ensures c.in_ok-state.ensures.next;
      kept = λ k. ap (λ z. state_by all z c.args.y) ex ∙ ap (λ z. state_by all (kept c.args.window.now.x) z) ey ∙ c.in_ok-draw.ensures.here;
      stays = λ e. e;
      reported = λ e. inl e;
    }

pub returns-then-not-is_on_plane-clause-put : goal.returns-then-not-is_on_plane-clause-put
returns-then-not-is_on_plane-clause-put g c zero =
    let ex : c.args.window.now.x ≡ kept c.args.window.now.x = omega (arith, ints, c.requires.place.place.0, c.requires.place.place.1) in
    let ey : c.args.y ≡ kept c.args.y = omega (arith, ints, c.ranges.y) in
    let outside : ¬ (IsRunOnPlane c.args.window.now.x c.args.y 1) =
    λ on. true≢false (sym (c.is_on_plane.ensures.1 (subst (λ z. IsRunOnPlane (kept c.args.window.now.x) z 1) ey (subst (λ z. IsRunOnPlane z c.args.y 1) ex on)))
    ∙ c.if-not-is_on_plane.true) in
    record {
      next = c.in_ok-state.state;
      answer = subst (λ v. g.L.Law.answers c.args.law.now v (Becomes c.in_ok-state.state)) c.around.ensures c.in_ok-state.ensures.next;
      kept = λ k. elim k [ inl e ↦ absurd (true≢false e) | inr on ↦ absurd (outside on) ];
      stays = λ e. absurd (true≢false e);
      reported = λ e. inr (outside, c.if-state-eq0.false);
    }

pub returns-in_err-state-clause-refusals : goal.returns-in_err-state-clause-refusals
returns-in_err-state-clause-refusals g c =
    let p = err_from_is_err_and c.from_residual.result c.from_residual.ensures.1 in
    let e = c.in_err-state.ensures in
    rw (p.1, p.2) (inr (
      e.kind,
      subst (λ v. g.L.Law.answers c.args.law.now v (Ambiguous c.in_err-state.field-0.0.place.line)) c.around.ensures
          e.ambiguous,
    ))

pub returns-in_err-state-clause-needed : goal.returns-in_err-state-clause-needed
returns-in_err-state-clause-needed g c =
    let p = err_from_is_err_and c.from_residual.result c.from_residual.ensures.1 in
    rw (p.1, p.2) (not-full c.in_err-state.field-0.0 c.in_err-state.ensures.kind)

pub returns-in_err-draw-clause-refusals : goal.returns-in_err-draw-clause-refusals
returns-in_err-draw-clause-refusals g c =
    let p = err_from_is_err_and c.from_residual-in_err-draw.result c.from_residual-in_err-draw.ensures.1 in
    rw (p.1, p.2) (inl (elim c.in_err-draw.ensures.refusals [ inl e ↦ inl (ap fault_of e) | inr full ↦ inr (ap fault_of full.0, full.1) ]))

pub returns-in_err-draw-clause-needed : goal.returns-in_err-draw-clause-needed
returns-in_err-draw-clause-needed g c =
    let p = err_from_is_err_and c.from_residual-in_err-draw.result c.from_residual-in_err-draw.ensures.1 in
    rw (p.1, p.2) (λ e. c.in_err-draw.ensures.needed (full-kind c.in_err-draw.field-0.0 e))
