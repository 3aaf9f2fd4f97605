use Rattle.std.proofs.Common.{◌≡◌, ℕ, ℤ, inl, inr, refl, sym, ◌∙◌, subst, arith, IfSome, Option}
use Rattle.std.proofs.lemmas.Int.{ints}
use Rattle.std.proofs.lemmas.Result.{err_from_is_err_and}
use Rattle.life_quad.proofs.KeepingLemmas.{keeps-same, keeps-then, adds-none}
use Rattle.life_strip.specs.Given.{state_by}
use Rattle.life_table.specs.Meaning.{Becomes}
use Rattle.life_next.specs.Generation.{one_after}
use Rattle.life_sweep.specs.Generation.{states_at}
use Rattle.life_sweep.specs.Rows.{AreBelow, AreRows, GoesSouth, first_coordinate}
use Rattle.life_base.specs.declared.cell.Run.{Run}
use Rattle.life_sweep.specs.Refused.{SomeNext}
use Rattle.life_sweep.specs.RunBuilder.{IsOpenRun, drawn_runs}
use Rattle.life_sweep.specs.Sweep.{IsFirstAmbiguous, IsReadyRow, IsScene, IsSorted, IsSweptRows}
use Rattle.life_pieces.proofs.NeedLemmas.{adds-more}
use Rattle.life_sweep.proofs.NeedLemmas.{all-needs, full-again, full-kind}
use Rattle.life_sweep.proofs.RunBuilderLemmas.{kept}
use Rattle.life_sweep.proofs.SweepLemmas.{nothing-given, nothing-drawn, start-rows, pass-rows, all-rows}
use Rattle.life_sweep.proofs.sweep.next_square.Given.{Over}
use Rattle.life_sweep.proofs.sweep.next_square.Goals.{After-draw_row}
use Rattle.life_sweep.proofs.sweep.next_square.Goals as goal

pub loop-band-init : goal.loop-band-init
loop-band-init g c =
    let A = g.L.Law.answers c.args.law.now in
    let drawn = state_by (drawn_runs c.new-builder.result) in
    record {
      sound = c.new-band.ensures.sound;
      below = c.new-band.ensures.below _ c.requires.states;
      same = refl;
      holding = record {
        filling = c.empty_builder_fills.ensures c.args.squares.now c.new-builder.result.builder c.new-builder.ensures.empty;
        unclosed = subst (λ (o : Option Run). IfSome o (IsOpenRun c.new-builder.result.builder.runs)) (sym c.new-builder.ensures.none) tt;
      };
      ready = λ column row l. nothing-given (drawn_runs c.new-builder.result) c.new-builder.ensures.drawn column row;
      swept = λ plane sorted. (
        c.new-band.ensures.band plane sorted.blank sorted.cells_are,
        start-rows A plane drawn c.new-band.result.y (g.met.L.Law.quiet c.args.law.now) sorted.blank (omega (arith, ints, c.new-band.ensures.start))
            (nothing-drawn (drawn_runs c.new-builder.result) c.new-builder.ensures.drawn),
      );
      keeps = keeps-same c.args.squares.now;
      adds = adds-none _ c.args.squares.now;
    }

pub draw_row-requires-clause-states : goal.draw_row-requires-clause-states
draw_row-requires-clause-states g c =
    subst (λ law. AreBelow (g.L.Law.bound law) c.advance.new.self.rows) (sym c.loop-band.invariant.same)
    ((c.advance.ensures.below _ c.loop-band.invariant.below).rows)

pub draw_row-requires-clause-ready : goal.draw_row-requires-clause-ready
draw_row-requires-clause-ready g c column row l =
    let south = c.advance.ensures.south c.loop-band-test.true in
    c.loop-band.invariant.ready column row (omega (arith, ints, l, south, c.advance.ensures.sound.row.0, c.advance.ensures.sound.row.1))

-- the band's row is a number of 64 bits
row : (g : Over) (c : After-draw_row g) → c.advance.new.self.y ≡ kept c.advance.new.self.y
row g c = omega (arith, ints, c.advance.ensures.sound.row.0, c.advance.ensures.sound.row.1)

-- the band went on
on : (g : Over) (c : After-draw_row g) (plane : ℤ → ℤ → ℕ) → IsSorted plane c.args.cells.now → GoesSouth plane c.loop-band.band c.advance.new.self
on g c plane sorted = c.advance.ensures.band c.loop-band-test.true plane sorted.blank (c.loop-band.invariant.swept plane sorted).0

-- its rows are those of the plane, and the rows before them are drawn
scene : (g : Over) (c : After-draw_row g) (plane : ℤ → ℤ → ℕ) → IsSorted plane c.args.cells.now
    → IsScene plane (kept c.advance.new.self.y) c.advance.new.self.rows
scene g c plane sorted = record {
  rows_are = subst (λ z. AreRows plane z first_coordinate c.advance.new.self.rows) (row g c) (on g c plane sorted).here.rows;
  blank = sorted.blank;
}

before : (g : Over) (c : After-draw_row g) (plane : ℤ → ℤ → ℕ) → IsSorted plane c.args.cells.now
    → IsSweptRows (g.L.Law.answers c.loop-band.law) plane (state_by (drawn_runs c.loop-band.builder)) c.loop-band.leaves (kept c.advance.new.self.y)
before g c plane sorted =
    let inv = c.loop-band.invariant in
    let south = c.advance.ensures.south c.loop-band-test.true in
    let on = on g c plane sorted in
    let drawn = state_by (drawn_runs c.loop-band.builder) in
    subst (λ z. IsSweptRows (g.L.Law.answers c.loop-band.law) plane drawn c.loop-band.leaves z) (row g c)
    (subst (λ law. IsSweptRows (g.L.Law.answers law) plane drawn c.loop-band.leaves c.advance.new.self.y) (sym inv.same)
    (pass-rows (g.L.Law.answers c.args.law.now) plane drawn c.loop-band.leaves (one_after c.loop-band.band.y) c.advance.new.self.y
    (g.met.L.Law.quiet c.args.law.now) (omega (arith, ints, south)) (λ r l u. on.passed r (omega (arith, ints, l)) u)
    (inv.swept plane sorted).1))

pub loop-band-preserved : goal.loop-band-preserved
loop-band-preserved g c =
    let a = (goal.at.loop-band-preserved g c).After-draw_row in
    let inv = c.loop-band.invariant in
    let h = c.in_ok-leaves.ensures in
    let new = drawn_runs c.draw_row.new.builder in
    record {
      sound = c.advance.ensures.sound;
      below = c.advance.ensures.below _ inv.below;
      same = h.same ∙ inv.same;
      holding = h.holding;
      ready = subst (λ z. IsReadyRow new (one_after z)) (sym (row g a)) h.ready;
      swept = λ plane sorted. (
        (on g a plane sorted).here,
        subst (λ z. IsSweptRows (g.L.Law.answers c.args.law.now) plane (state_by new) c.in_ok-leaves.leaves (one_after z)) (sym (row g a))
            (subst (λ law. IsSweptRows (g.L.Law.answers law) plane (state_by new) c.in_ok-leaves.leaves (one_after (kept c.advance.new.self.y))) inv.same
            (h.swept plane (scene g a plane sorted) (before g a plane sorted))),
      );
      keeps = keeps-then inv.keeps h.keeps;
      adds = adds-more inv.adds h.adds
          (λ P some plane sorted. subst (λ law. SomeNext P (g.L.Law.answers law) plane) inv.same
          (some plane (scene g a plane sorted) (before g a plane sorted)));
    }

pub returns-in_err-leaves-clause-refusals : goal.returns-in_err-leaves-clause-refusals
returns-in_err-leaves-clause-refusals g c =
    let a = (goal.at.returns-in_err-leaves-clause-refusals g c).After-draw_row in
    let p = err_from_is_err_and c.from_residual.result c.from_residual.ensures.1 in
    rw (p.1, p.2) (elim c.in_err-leaves.ensures.refusals [
      | inl want ↦ inl want
      | inr d ↦ inr (λ plane sorted. inl (
        d.0,
        subst (λ law. IsFirstAmbiguous (g.L.Law.answers law) plane c.in_err-leaves.field-0.0.place.line) c.loop-band.invariant.same
            (d.1 plane (scene g a plane sorted) (before g a plane sorted)),
      ))
    ])

pub returns-then-leaves-clause-refusals : goal.returns-then-leaves-clause-refusals
returns-then-leaves-clause-refusals g c =
    inr (λ plane sorted.
    let s = c.loop-band.invariant.swept plane sorted in
    let over = c.advance.ensures.over c.loop-band-test.false plane sorted.blank s.0 in
    let all = all-rows _ plane _ _ _ (g.met.L.Law.quiet c.args.law.now) over s.1 in
    inr (c.of.ensures, s.1.left c.if-leaves.true, λ x y. let d = all x y in (d.next, d.answer)))

pub returns-clause-next : goal.returns-clause-next
returns-clause-next g c plane sorted x y =
    let s = c.loop-band.invariant.swept plane sorted in
    let over = c.advance.ensures.over c.loop-band-test.false plane sorted.blank s.0 in
    let d = all-rows _ plane _ _ _ (g.met.L.Law.quiet c.args.law.now) over s.1 x y in
    subst (λ n. g.L.Law.answers c.args.law.now (states_at plane x y) (Becomes n)) (sym (c.in_ok-finish.ensures.cells x y ∙ d.kept (inl c.if-leaves.false)))
    d.answer

pub returns-in_err-leaves-clause-needed : goal.returns-in_err-leaves-clause-needed
returns-in_err-leaves-clause-needed g c =
    let a = (goal.at.returns-in_err-leaves-clause-needed g c).After-draw_row in
    let p = err_from_is_err_and c.from_residual.result c.from_residual.ensures.1 in
    rw (p.1, p.2)
    (λ full plane sorted.
    subst (λ law. SomeNext (g.S.Squares.needs_node c.draw_row.new.squares) (g.L.Law.answers law) plane) c.loop-band.invariant.same
    (c.in_err-leaves.ensures.needed (full-again c.in_err-leaves.field-0.0 full) plane (scene g a plane sorted) (before g a plane sorted)))

pub returns-in_err-finish-clause-needed : goal.returns-in_err-finish-clause-needed
returns-in_err-finish-clause-needed g c =
    let p = err_from_is_err_and c.from_residual-in_err-finish.result c.from_residual-in_err-finish.ensures.1 in
    rw (p.1, p.2)
    (λ full plane sorted.
    let s = c.loop-band.invariant.swept plane sorted in
    let over = c.advance.ensures.over c.loop-band-test.false plane sorted.blank s.0 in
    all-needs (g.S.Squares.needs_node c.finish.new.squares) (g.L.Law.answers c.args.law.now) plane (drawn_runs c.loop-band.builder) c.loop-band.leaves
    c.if-leaves.false
    (all-rows _ plane _ _ _ (g.met.L.Law.quiet c.args.law.now) over s.1)
    (c.in_err-finish.ensures.needed (full-kind c.in_err-finish.field-0.0 full)))

pub returns-in_err-leaves-clause-keeps : goal.returns-in_err-leaves-clause-keeps
returns-in_err-leaves-clause-keeps g c = keeps-then c.loop-band.invariant.keeps c.in_err-leaves.ensures.keeps

pub returns-in_err-finish-clause-keeps : goal.returns-in_err-finish-clause-keeps
returns-in_err-finish-clause-keeps g c = keeps-then c.loop-band.invariant.keeps c.in_err-finish.ensures.keeps

pub returns-clause-keeps : goal.returns-clause-keeps
returns-clause-keeps g c = keeps-then c.loop-band.invariant.keeps c.in_ok-finish.ensures.keeps

pub returns-in_err-leaves-clause-adds : goal.returns-in_err-leaves-clause-adds
returns-in_err-leaves-clause-adds g c =
    let a = (goal.at.returns-in_err-leaves-clause-adds g c).After-draw_row in
    let inv = c.loop-band.invariant in
    adds-more inv.adds c.in_err-leaves.ensures.adds
    (λ P some plane sorted. subst (λ law. SomeNext P (g.L.Law.answers law) plane) inv.same
    (some plane (scene g a plane sorted) (before g a plane sorted)))

pub returns-in_err-finish-clause-adds : goal.returns-in_err-finish-clause-adds
returns-in_err-finish-clause-adds g c =
    let inv = c.loop-band.invariant in
    adds-more inv.adds c.in_err-finish.ensures.adds
    (λ P some plane sorted.
    let s = inv.swept plane sorted in
    let over = c.advance.ensures.over c.loop-band-test.false plane sorted.blank s.0 in
    all-needs P (g.L.Law.answers c.args.law.now) plane (drawn_runs c.loop-band.builder) c.loop-band.leaves c.if-leaves.false
    (all-rows _ plane _ _ _ (g.met.L.Law.quiet c.args.law.now) over s.1) some)

pub returns-clause-adds : goal.returns-clause-adds
returns-clause-adds g c =
    let inv = c.loop-band.invariant in
    adds-more inv.adds c.in_ok-finish.ensures.adds
    (λ P some plane sorted.
    let s = inv.swept plane sorted in
    let over = c.advance.ensures.over c.loop-band-test.false plane sorted.blank s.0 in
    all-needs P (g.L.Law.answers c.args.law.now) plane (drawn_runs c.loop-band.builder) c.loop-band.leaves c.if-leaves.false
    (all-rows _ plane _ _ _ (g.met.L.Law.quiet c.args.law.now) over s.1) some)
