-- Patterns of one course have one text.
use Rattle.std.proofs.Common.{◌≡◌, ◌↔◌, ℕ, ◌+◌, ◌≤◌, List, refl, sym, ◌∙◌, subst}
use Rattle.life_base.specs.Sets.{OuterTotalistic}
use Rattle.life_base.specs.declared.rule.Rule.TheVariants.{Life}
use Rattle.life_writer.specs.Lesser.{IsUpTo}
use Rattle.life_pattern.specs.Universe.{Universe}
use Rattle.life_writer.proofs.OrderFacts.{up-to-both}
use Rattle.life_forms.specs.Forms.{IsTurnedShift}
use Rattle.life_forms.proofs.LeastFacts.{turned-shift-sym}
use Rattle.life_phases.specs.declared.period.Period.{Period}
use Rattle.life_phase_forms.specs.Phases.{AreOfOneCourse, HasNoPhases, HasPhases, IsLeastOfPhases, IsPhasesText, begun, in_one_phase, in_two_phases, of_pattern, of_phases, phase}
use Rattle.life_phase_forms.specs.Laws.{CoursesKeepPeriods, HasSomePeriod}
use Rattle.life_phase_forms.proofs.CourseLemmas.{Returns, comes-again, early-phase, of-returns, phase-adds, phase-none, phase-turned, returns-later, returns-turned, to-returns, turned-trans}
use Rattle.life_phase_forms.proofs.TextLemmas.{turned-again, turned-up-to}

-- ---- two patterns with phases

-- the later pattern comes before the first one again
pub course-back : (rule : OuterTotalistic) → (p : ℕ) → 1 ≤ p → (u v : Universe) → Returns rule p u → (n : ℕ)
    → IsTurnedShift (phase rule n u) (begun v) → (m : ℕ) × IsTurnedShift (phase rule m v) (begun u)
course-back rule p some u v s n t =
    let again = comes-again rule p some u s n in
    let m = again.0 in
    let there : IsTurnedShift (phase rule (m + n) u) (phase rule m v) =
    subst (λ w. IsTurnedShift w (phase rule m v)) (phase-adds rule m n u) (phase-turned rule m (phase rule n u) (begun v) t) in
    (m, turned-shift-sym _ _ (turned-trans (begun u) (phase rule (m + n) u) (phase rule m v) again.1 there))

pub course-below : (top : ℕ) (rule : OuterTotalistic) → (p q : ℕ) → 1 ≤ p → (u v : Universe) → Returns rule p u → (n : ℕ)
    → IsTurnedShift (phase rule n u) (begun v) → (x y : List ℕ) → IsLeastOfPhases top rule p u x → IsLeastOfPhases top rule q v y → IsUpTo x y
course-below top rule p q some u v s n t x y first second =
    let l = second.number in
    let there : IsTurnedShift (phase rule (l + n) u) (phase rule l v) =
    subst (λ w. IsTurnedShift w (phase rule l v)) (phase-adds rule l n u) (phase-turned rule l (phase rule n u) (begun v) t) in
    let early = early-phase rule p some u s (l + n) in
    let all = turned-trans (phase rule early.0 u) (phase rule (l + n) u) (phase rule l v) early.2 there in
    first.least early.0 y early.1 (turned-again top (phase rule l v) (phase rule early.0 u) y (turned-shift-sym _ _ all) second.is)

pub course-same : (top : ℕ) (rule : OuterTotalistic) → (p q : ℕ) → 1 ≤ p → 1 ≤ q → (u v : Universe) → Returns rule p u
    → Returns rule q v → (n : ℕ) → IsTurnedShift (phase rule n u) (begun v) → (x y : List ℕ) → IsLeastOfPhases top rule p u x
    → IsLeastOfPhases top rule q v y → x ≡ y
course-same top rule p q some more u v s r n t x y first second =
    let back = course-back rule p some u v s n t in
    up-to-both x y (course-below top rule p q some u v s n t x y first second)
    (course-below top rule q p more v u r back.0 back.1 y x second first)

-- they have the same periods
module _ (rule : OuterTotalistic) where
  later-period : (n k : ℕ) (u v : Universe) → IsTurnedShift (phase rule k u) (begun v) → HasSomePeriod rule n u → HasSomePeriod rule n v
  later-period n k u v t h =
      let later = returns-later rule n k u (to-returns rule n u h.0 h.1 h.2) in
      let there = returns-turned rule n (phase rule k u) v t later in
      (there.columns, there.rows, of-returns rule n v h.2.some there)

  same-periods : (u v : Universe) (p n k : ℕ) → HasSomePeriod rule p u → IsTurnedShift (phase rule k u) (begun v)
      → HasSomePeriod rule n u ↔ HasSomePeriod rule n v
  same-periods u v p n k h t =
      let back = course-back rule p h.2.some u v (to-returns rule p u h.0 h.1 h.2) k t in
      (later-period n k u v t, later-period n back.0 v u back.1)

pub keep-periods : CoursesKeepPeriods
keep-periods rule u v p n k h t = same-periods rule u v p n k h t

-- ---- all patterns

pub life-same : (a b : OuterTotalistic) → Life a ≡ Life b → a ≡ b
life-same a b e = cc

-- patterns under one rule
pub same-rules : (u v : Universe) (a b : OuterTotalistic) → u.rule ≡ v.rule → u.rule ≡ Life a → v.rule ≡ Life b → a ≡ b
same-rules u v a b e f g = life-same a b (sym f ∙ e ∙ g)

module _ (most : ℕ) where
  pub returns-of : (u : Universe) (rule : OuterTotalistic) (p : Period) → HasPhases most u rule p → Returns rule p.generations u
  returns-of u rule p h = to-returns rule p.generations u _ _ h.least.is

  pub not-both : (u : Universe) (rule : OuterTotalistic) (p : Period) → HasPhases most u rule p → HasNoPhases most u → ⊥
  not-both u rule p h none = none rule h.under p.generations _ _ h.within h.least.is

  -- a pattern of one course with one that has phases has a period too
  pub has-period : (u v : Universe) (rule : OuterTotalistic) (p : Period) → HasPhases most u rule p → (n : ℕ) → IsTurnedShift (phase rule n u) (begun v)
      → HasNoPhases most v → ⊥
  has-period u v rule p h n t none =
      let later = returns-later rule p.generations n u (returns-of u rule p h) in
      let there = returns-turned rule p.generations (phase rule n u) v t later in
      none rule (sym t.shift.rule ∙ h.under) p.generations _ _ h.within (of-returns rule p.generations v h.least.is.some there)

  pub in-phase : (rule : OuterTotalistic) (u v : Universe) → IsTurnedShift (begun u) (begun v) → IsTurnedShift (phase rule 0 u) (begun v)
  in-phase rule u v t = subst (λ w. IsTurnedShift w (begun v)) (sym (phase-none rule u)) t

  module _ (top : ℕ) (u v : Universe) (x y : List ℕ) where
    both-phases : (rule other : OuterTotalistic) (p q : Period) → HasPhases most u rule p → HasPhases most v other q
        → IsLeastOfPhases top rule p.generations u x → IsLeastOfPhases top other q.generations v y → (n : ℕ)
        → IsTurnedShift (phase rule n u) (begun v) → x ≡ y
    both-phases rule other p q h k first second n t =
        let e : other ≡ rule = sym (same-rules u v rule other t.shift.rule h.under k.under) in
        let j : HasPhases most v rule q = subst (λ r. HasPhases most v r q) e k in
        let least : IsLeastOfPhases top rule q.generations v y = subst (λ r. IsLeastOfPhases top r q.generations v y) e second in
        course-same top rule p.generations q.generations h.least.is.some j.least.is.some u v (returns-of u rule p h) (returns-of v rule q j) n t x y
        first least

    one-phase : IsTurnedShift (begun u) (begun v) → IsPhasesText top most u x → IsPhasesText top most v y → x ≡ y
    one-phase t (of_pattern none is) (of_pattern never also) =
        up-to-both x y (turned-up-to top (begun u) x y is (turned-again top (begun v) (begun u) y (turned-shift-sym _ _ t) also))
        (turned-up-to top (begun v) y x also (turned-again top (begun u) (begun v) x t is))
    one-phase t (of_phases rule p h least) (of_pattern never also) = absurd (has-period u v rule p h 0 (in-phase rule u v t) never)
    one-phase t (of_pattern none is) (of_phases rule p h least) =
        absurd (has-period v u rule p h 0 (in-phase rule v u (turned-shift-sym _ _ t)) none)
    one-phase t (of_phases rule p h first) (of_phases other q k second) = both-phases rule other p q h k first second 0 (in-phase rule u v t)

    two-phases : (rule : OuterTotalistic) (p : Period) → HasPhases most u rule p → (n : ℕ) → IsTurnedShift (phase rule n u) (begun v)
        → IsPhasesText top most u x → IsPhasesText top most v y → x ≡ y
    two-phases rule p h n t (of_pattern none is) second = absurd (not-both u rule p h none)
    two-phases rule p h n t (of_phases other q k least) (of_pattern never also) = absurd (has-period u v rule p h n t never)
    two-phases rule p h n t (of_phases same q k first) (of_phases other r l second) =
        let e : rule ≡ same = same-rules u u rule same refl h.under k.under in
        both-phases same other q r k l first second n (subst (λ o. IsTurnedShift (phase o n u) (begun v)) e t)

    pub same-text : AreOfOneCourse most u v → IsPhasesText top most u x → IsPhasesText top most v y → x ≡ y
    same-text (in_one_phase t) first second = one-phase t first second
    same-text (in_two_phases rule p h n t) first second = two-phases rule p h n t first second
