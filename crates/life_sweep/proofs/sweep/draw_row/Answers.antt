use Rattle.std.proofs.Common.{◌≡◌, ℕ, ℤ, inl, inr, ◌<ℤ◌, refl, sym, ◌∙◌, subst, arith}
use Rattle.std.proofs.lemmas.Int.{ints}
use Rattle.std.proofs.lemmas.Result.{err_from_is_err_and}
use Rattle.life_quad.specs.Keeping.{AddsOnly}
use Rattle.life_quad.proofs.KeepingLemmas.{keeps-same, keeps-then, adds-none, adds-as}
use Rattle.life_strip.specs.Given.{state_by}
use Rattle.life_next.specs.Generation.{one_after}
use Rattle.life_sweep.specs.Rows.{IsWindow, IsWindowBelow, first_coordinate, states_of_window}
use Rattle.life_table.specs.Meaning.{Ambiguous}
use Rattle.life_sweep.specs.Refused.{SomeNext}
use Rattle.life_sweep.specs.RunBuilder.{drawn_runs}
use Rattle.life_sweep.specs.Sweep.{IsPut, IsReadyRow, IsScene, IsSwept, IsSweptRows}
use Rattle.life_pieces.proofs.NeedLemmas.{adds-more}
use Rattle.life_sweep.proofs.NeedLemmas.{swept-needs}
use Rattle.life_sweep.proofs.RunBuilderLemmas.{kept}
use Rattle.life_sweep.proofs.SweepLemmas.{row-ready, ready-later, ready-row, into-row, west-column, step-in-row, out-of-row, ambiguous-here}
use Rattle.life_sweep.proofs.sweep.draw_row.Given.{Over}
use Rattle.life_sweep.proofs.sweep.draw_row.Goals.{After-advance}
use Rattle.life_sweep.proofs.sweep.draw_row.Goals as goal

pub loop-window-init : goal.loop-window-init
loop-window-init g c =
    let y = kept c.args.y in
    let e : c.args.y ≡ y = omega (arith, ints, c.ranges.y) in
    let w = c.new-window.result in
    let west : one_after w.x <ℤ first_coordinate = omega (arith, ints, c.new-window.ensures.start) in
    record {
      sound = c.new-window.ensures.sound;
      below = c.new-window.ensures.below _ (g.met.L.Law.positive c.args.law.now) c.requires.states;
      same = refl;
      holding = c.requires.holding;
      ready = row-ready (drawn_runs c.args.builder.now) (one_after w.x) y (subst (λ z. IsReadyRow (drawn_runs c.args.builder.now) z) e c.requires.ready);
      swept = λ cells scene rows. (
        c.new-window.ensures.window cells y scene.rows_are (λ column l. west-column cells y column scene.blank l),
        into-row (g.L.Law.answers c.args.law.now) cells (state_by (drawn_runs c.args.builder.now)) c.args.leaves w.x y (g.met.L.Law.quiet c.args.law.now)
            scene.blank west rows,
      );
      keeps = keeps-same c.args.squares.now;
      adds = adds-none _ c.args.squares.now;
    }

pub draw_place-requires-clause-states : goal.draw_place-requires-clause-states
draw_place-requires-clause-states g c =
    subst (λ law. IsWindowBelow (g.L.Law.bound law) c.advance.new.self) (sym c.loop-window.invariant.same)
    (c.advance.ensures.below _ (g.met.L.Law.positive c.args.law.now) c.loop-window.invariant.below)

pub draw_place-requires-clause-ready : goal.draw_place-requires-clause-ready
draw_place-requires-clause-ready g c =
    let y = kept c.args.y in
    let east = c.advance.ensures.east c.loop-window-test.true in
    ready-later (drawn_runs c.loop-window.builder) (one_after c.loop-window.window.x) c.advance.new.self.x y
    (omega (arith, ints, east)) c.loop-window.invariant.ready

pub loop-window-preserved : goal.loop-window-preserved
loop-window-preserved g c =
    let y = kept c.args.y in
    let z = c.advance.new.self in
    let inv = c.loop-window.invariant in
    let h = c.in_ok-left.ensures in
    let old = state_by (drawn_runs c.loop-window.builder) in
    let new = state_by (drawn_runs c.draw_place.new.builder) in
    record {
      sound = c.advance.ensures.sound;
      below = c.advance.ensures.below _ (g.met.L.Law.positive c.args.law.now) inv.below;
      same = h.same ∙ inv.same;
      holding = h.holding;
      ready = h.ready;
      swept = λ cells scene rows.
          let s = inv.swept cells scene rows in
          let on = c.advance.ensures.window c.loop-window-test.true cells y s.0 in
          let put : old z.x y ≡ 0 → IsPut (g.L.Law.answers c.args.law.now) (states_of_window z) new c.loop-window.left c.in_ok-left.left z.x y
          = (λ e. subst (λ law. IsPut (g.L.Law.answers law) (states_of_window z) new c.loop-window.left c.in_ok-left.left z.x y) inv.same (h.put e)) in (
            on.here,
            step-in-row (g.L.Law.answers c.args.law.now) cells old new c.loop-window.left c.in_ok-left.left y c.loop-window.window z
                (g.met.L.Law.quiet c.args.law.now) on s.1 put h.others,
          );
      keeps = keeps-then inv.keeps h.keeps;
      adds = adds-more inv.adds h.adds
          (λ P s cells scene rows. swept-needs P (g.L.Law.answers c.args.law.now) cells (drawn_runs c.loop-window.builder) c.loop-window.left _ _
          (inv.swept cells scene rows).1 s);
    }

-- the places of the row so far are drawn
swept : (g : Over) (c : After-advance g) (cells : ℤ → ℤ → ℕ) → IsScene cells c.args.y c.args.rows
    → IsSweptRows (g.L.Law.answers c.args.law.now) cells (state_by (drawn_runs c.args.builder.now)) c.args.leaves c.args.y
    → IsWindow cells (kept c.args.y) c.loop-window.window
    × IsSwept (g.L.Law.answers c.args.law.now) cells (state_by (drawn_runs c.loop-window.builder)) c.loop-window.left
    (one_after c.loop-window.window.x) (kept c.args.y)
swept g c cells scene rows =
    let e : c.args.y ≡ kept c.args.y = omega (arith, ints, c.ranges.y) in
    c.loop-window.invariant.swept cells (subst (λ z. IsScene cells z c.args.rows) e scene)
    (subst (λ z. IsSweptRows (g.L.Law.answers c.args.law.now) cells (state_by (drawn_runs c.args.builder.now)) c.args.leaves z) e rows)

pub returns-in_err-left-clause-refusals : goal.returns-in_err-left-clause-refusals
returns-in_err-left-clause-refusals g c =
    let z = c.advance.new.self in
    let p = err_from_is_err_and c.from_residual.result c.from_residual.ensures.1 in
    rw (p.1, p.2) (elim c.in_err-left.ensures.refusals [
      | inl want ↦ inl want
      | inr d ↦ inr (
        d.0,
        (λ cells scene rows.
            let s = swept g (goal.at.returns-in_err-left-clause-refusals g c).After-advance cells scene rows in
            let on = c.advance.ensures.window c.loop-window-test.true cells (kept c.args.y) s.0 in
            let here = subst (λ law. g.L.Law.answers law (states_of_window z) (Ambiguous c.in_err-left.field-0.0.place.line)) c.loop-window.invariant.same
            d.1 in
            ambiguous-here (g.L.Law.answers c.args.law.now) cells _ c.loop-window.left _ c.loop-window.window z _ (g.met.L.Law.quiet c.args.law.now) on s.1
            here),
      )
    ])

pub returns-clause-ready : goal.returns-clause-ready
returns-clause-ready g c column row l =
    let y = kept c.args.y in
    let e : c.args.y ≡ y = omega (arith, ints, c.ranges.y) in
    ready-row (drawn_runs c.loop-window.builder) (one_after c.loop-window.window.x) y c.loop-window.invariant.ready column row (omega (arith, ints, l, e))

pub returns-clause-swept : goal.returns-clause-swept
returns-clause-swept g c cells scene rows =
    let A = g.L.Law.answers c.args.law.now in
    let drawn = state_by (drawn_runs c.loop-window.builder) in
    let e : c.args.y ≡ kept c.args.y = omega (arith, ints, c.ranges.y) in
    let s = swept g (goal.at.returns-clause-swept g c).After-advance cells scene rows in
    subst (λ z. IsSweptRows A cells drawn c.loop-window.left (one_after z)) (sym e)
    (out-of-row A cells drawn c.loop-window.left c.loop-window.window.x (kept c.args.y) (g.met.L.Law.quiet c.args.law.now)
    (c.advance.ensures.over c.loop-window-test.false cells (kept c.args.y) s.0) s.1)

pub returns-in_err-left-clause-needed : goal.returns-in_err-left-clause-needed
returns-in_err-left-clause-needed g c =
    let p = err_from_is_err_and c.from_residual.result c.from_residual.ensures.1 in
    rw (p.1, p.2)
    (λ full cells scene rows.
    let s = swept g (goal.at.returns-in_err-left-clause-needed g c).After-advance cells scene rows in
    swept-needs (g.S.Squares.needs_node c.draw_place.new.squares) (g.L.Law.answers c.args.law.now) cells
    (drawn_runs c.loop-window.builder) c.loop-window.left _ _
    s.1 (c.in_err-left.ensures.needed full))

pub returns-in_err-left-clause-keeps : goal.returns-in_err-left-clause-keeps
returns-in_err-left-clause-keeps g c = keeps-then c.loop-window.invariant.keeps c.in_err-left.ensures.keeps

-- what the places of the row so far have added
added : (g : Over) (c : After-advance g) → AddsOnly g.S.Squares.stored
    (λ P. (cells : ℤ → ℤ → ℕ) → IsScene cells c.args.y c.args.rows
    → IsSweptRows (g.L.Law.answers c.args.law.now) cells (state_by (drawn_runs c.args.builder.now)) c.args.leaves c.args.y
    → SomeNext P (g.L.Law.answers c.args.law.now) cells)
    c.args.squares.now c.loop-window.squares
added g c =
    let e : c.args.y ≡ kept c.args.y = omega (arith, ints, c.ranges.y) in
    adds-as _ c.loop-window.invariant.adds
    (λ P some cells scene rows. some cells (subst (λ z. IsScene cells z c.args.rows) e scene)
    (subst (λ z. IsSweptRows (g.L.Law.answers c.args.law.now) cells (state_by (drawn_runs c.args.builder.now)) c.args.leaves z) e rows))

pub returns-in_err-left-clause-adds : goal.returns-in_err-left-clause-adds
returns-in_err-left-clause-adds g c =
    let a = (goal.at.returns-in_err-left-clause-adds g c).After-advance in
    adds-more (added g a) c.in_err-left.ensures.adds
    (λ P s cells scene rows. swept-needs P (g.L.Law.answers c.args.law.now) cells (drawn_runs c.loop-window.builder) c.loop-window.left _ _
    (swept g a cells scene rows).1 s)

pub returns-clause-adds : goal.returns-clause-adds
returns-clause-adds g c = added g (goal.at.returns-clause-adds g c).After-advance
