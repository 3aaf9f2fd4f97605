-- Patterns that a turn and a shift take to each other, their phases and their periods.
use Rattle.std.proofs.Common.{◌≡◌, inl, inr, ℕ, zero, suc, ◌+◌, ◌-◌, ◌<◌, ◌≤◌, refl, sym, ◌∙◌, ap, subst, ℤ, arith}
use Rattle.life_base.specs.Sets.{OuterTotalistic}
use Rattle.life_base.proofs.Basics.{le_or_lt}
use Rattle.life_pattern.specs.Universe.{Universe}
use Rattle.life_pattern.proofs.Sameness.{same-sym}
use Rattle.life_forms.specs.Forms.{IsShift, IsTurnedShift}
use Rattle.life_forms.specs.Turns.{Turn, image, turn_after, upright}
use Rattle.life_forms.proofs.ShiftFacts.{same-refl, shift-sym, shift-trans, still}
use Rattle.life_forms.proofs.TurnFacts.{images-keep-shifts, turns-are-closed}
use Rattle.life_leap.proofs.AfterLemmas.{after-adds, after-none}
use Rattle.life_phases.specs.Middle.{IsMovedBy}
use Rattle.life_phases.specs.Periods.{HasPeriod}
use Rattle.life_phases.proofs.ShiftLemmas.{after-moves}
use Rattle.life_phase_forms.specs.Phases.{begun, phase}
use Rattle.life_phase_forms.proofs.TurnLemmas.{after-turned}

-- ---- shifts after turns

pub turned-refl : (u : Universe) → IsTurnedShift u u
turned-refl u = record { turn = upright; shift = still _ _ (same-refl u) }

pub turned-trans : (u v w : Universe) → IsTurnedShift u v → IsTurnedShift v w → IsTurnedShift u w
turned-trans u v w s t = record {
  turn = turn_after s.turn t.turn;
  shift = shift-trans _ _ _ (still _ _ (same-sym _ _ (turns-are-closed s.turn t.turn u)))
      (shift-trans _ _ _ (images-keep-shifts t.turn _ _ s.shift) t.shift);
}

pub turned-of-shift : (u v : Universe) → IsShift u v → IsTurnedShift u v
turned-of-shift u v s = record { turn = upright; shift = s }

-- ---- phases

module _ (rule : OuterTotalistic) where
  abbrev as_phase : Universe → (ℤ → ℤ → ℕ) → Universe
  as_phase u f = record { rule = u.rule; generation = 0; cell = f }

  pub phase-none : (u : Universe) → phase rule 0 u ≡ begun u
  phase-none u = ap (as_phase u) (after-none rule u.cell)

  pub phase-adds : (k n : ℕ) (u : Universe) → phase rule k (phase rule n u) ≡ phase rule (k + n) u
  phase-adds k n u = ap (as_phase u) (sym (after-adds rule k n u.cell))

  pub phase-shift : (k : ℕ) (u v : Universe) → IsShift u v → IsShift (phase rule k u) (phase rule k v)
  phase-shift k u v s =
      let moved : IsMovedBy s.columns s.rows u.cell v.cell = record { cells = s.cells } in
      record {
        rule = s.rule;
        generation = refl;
        columns = s.columns;
        rows = s.rows;
        cells = (after-moves rule k s.columns s.rows u.cell v.cell moved).cells;
      }

  pub phase-image : (k : ℕ) (turn : Turn) (u : Universe) → phase rule k (image turn u) ≡ image turn (phase rule k u)
  phase-image k turn u = ap (as_phase u) (after-turned rule k turn u.cell)

  pub phase-turned : (k : ℕ) (u v : Universe) → IsTurnedShift u v → IsTurnedShift (phase rule k u) (phase rule k v)
  phase-turned k u v s = record {
    turn = s.turn;
    shift = subst (λ w. IsShift w (phase rule k v)) (phase-image k s.turn u) (phase-shift k (image s.turn u) v s.shift);
  }

  -- ---- periods

  -- so many generations later the pattern is a shift of itself
  abbrev pub Returns : ℕ → Universe → Type 0
  Returns n u = IsShift (begun u) (phase rule n u)

  pub to-returns : (n : ℕ) (u : Universe) (columns rows : ℤ) → HasPeriod rule u.cell n columns rows → Returns n u
  to-returns n u columns rows h = record { rule = refl; generation = refl; columns = columns; rows = rows; cells = h.moved.cells }

  pub of-returns : (n : ℕ) (u : Universe) → 1 ≤ n → (s : Returns n u) → HasPeriod rule u.cell n s.columns s.rows
  of-returns n u some s = record { some = some; moved = record { cells = s.cells } }

  -- a phase is the same again after as many generations
  pub returns-later : (n k : ℕ) (u : Universe) → Returns n u → Returns n (phase rule k u)
  returns-later n k u s =
      let e : k + n ≡ n + k = omega arith in
      subst (IsShift (phase rule k u)) (phase-adds k n u ∙ ap (λ m. phase rule m u) e ∙ sym (phase-adds n k u)) (phase-shift k (begun u) (phase rule n u) s)

  -- so is what a turn and a shift make of the pattern
  pub returns-turned : (n : ℕ) (u v : Universe) → IsTurnedShift (begun u) (begun v) → Returns n u → Returns n v
  returns-turned n u v t s =
      let here = images-keep-shifts t.turn (begun u) (phase rule n u) s in
      let there = phase-shift n (image t.turn (begun u)) (begun v) t.shift in
      shift-trans (begun v) (image t.turn (begun u)) (phase rule n v) (shift-sym _ _ t.shift)
      (shift-trans (image t.turn (begun u)) (image t.turn (phase rule n u)) (phase rule n v) here
      (subst (λ w. IsShift w (phase rule n v)) (phase-image n t.turn (begun u)) there))

  -- ---- a pattern with a period

  module _ (p : ℕ) (some : 1 ≤ p) (u : Universe) (s : Returns p u) where
    -- its phases repeat
    pub phase-repeats : (k : ℕ) → IsTurnedShift (phase rule k u) (phase rule (k + p) u)
    phase-repeats k =
        subst (IsTurnedShift (phase rule k u)) (phase-adds k p u) (turned-of-shift _ _ (phase-shift k (begun u) (phase rule p u) s))

    -- each phase is one of the first
    pub early-phase : (n : ℕ) → (k : ℕ) × (k < p) × IsTurnedShift (phase rule k u) (phase rule n u)
    early-phase zero = (0, omega arith, turned-refl (phase rule 0 u))
    early-phase (suc n) =
        let h = early-phase n in
        let l = h.1 in
        let e : 1 + n ≡ suc n = omega arith in
        let next = phase-turned 1 (phase rule h.0 u) (phase rule n u) h.2 in
        let there : IsTurnedShift (phase rule (1 + h.0) u) (phase rule (suc n) u) =
        subst (λ w. IsTurnedShift w (phase rule (suc n) u)) (phase-adds 1 h.0 u)
        (subst (IsTurnedShift (phase rule 1 (phase rule h.0 u))) (phase-adds 1 n u ∙ ap (λ m. phase rule m u) e) next) in
        elim (le_or_lt p (1 + h.0)) [
          | inr below ↦ (1 + h.0, below, there)
          | inl above ↦
              let f : 1 + h.0 ≡ 0 + p = omega (arith, above, l) in (
                0,
                omega (arith, some),
                turned-trans (phase rule 0 u) (phase rule (1 + h.0) u) (phase rule (suc n) u)
                    (subst (λ m. IsTurnedShift (phase rule 0 u) (phase rule m u)) (sym f) (phase-repeats 0)) there,
              )
        ]

    -- some generations after each phase the first one comes again
    pub comes-again : (n : ℕ) → (m : ℕ) × IsTurnedShift (begun u) (phase rule (m + n) u)
    comes-again zero = (
      0,
      subst (λ w. IsTurnedShift w (phase rule (0 + 0) u)) (phase-none u)
          (subst (λ m. IsTurnedShift (phase rule 0 u) (phase rule m u)) (omega arith) (turned-refl (phase rule 0 u))),
    )
    comes-again (suc n) = by (comes-again n).0 (comes-again n).1
      where
        by : (m : ℕ) → IsTurnedShift (begun u) (phase rule (m + n) u) → (k : ℕ) × IsTurnedShift (begun u) (phase rule (k + suc n) u)
        by (suc m) h =
            let e : suc m + n ≡ m + suc n = omega arith in
            (m, subst (λ k. IsTurnedShift (begun u) (phase rule k u)) e h)
        by zero h =
            let e : (0 + n) + p ≡ (p - 1) + suc n = omega (arith, some) in (
              p - 1,
              turned-trans (begun u) (phase rule (0 + n) u) (phase rule ((p - 1) + suc n) u) h
                  (subst (λ k. IsTurnedShift (phase rule (0 + n) u) (phase rule k u)) e (phase-repeats (0 + n))),
            )
