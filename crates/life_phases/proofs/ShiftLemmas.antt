-- Patterns that are moved, their generations, and their periods.
use Rattle.std.proofs.Common.{◌≡◌, ℕ, zero, suc, ℤ, neg_ℤ, ◌+ℤ◌, [], ◌∷◌, sym, ◌∙◌, ap, ap₂, subst₂, arith}
use Rattle.std.proofs.lemmas.Int.{ints}
use Rattle.life_base.specs.Sets.{OuterTotalistic}
use Rattle.life_base.specs.declared.rule.Near.{Near}
use Rattle.life_base.specs.declared.rule.Near.TheVariants.{Moore, VonNeumann}
use Rattle.life_next.specs.Generation.{one_before, one_after, next_by_count, next_life, live_in}
use Rattle.life_leap.specs.After.{after}
use Rattle.life_leap.proofs.AfterLemmas.{after-none, after-next}
use Rattle.life_phases.specs.Laws.{GenerationsKeepShifts, ShiftsKeepPeriods}
use Rattle.life_phases.specs.Middle.{IsMovedBy}
use Rattle.life_phases.specs.Periods.{HasPeriod}

-- ---- a pattern that is counted from another origin

abbrev pub from : (ℤ → ℤ → ℕ) → ℤ → ℤ → ℤ → ℤ → ℕ
from f a b x y = f (x +ℤ a) (y +ℤ b)

next-from : (rule : OuterTotalistic) (f : ℤ → ℤ → ℕ) (a b x y : ℤ) → next_life rule (from f a b) x y ≡ next_life rule f (x +ℤ a) (y +ℤ b)
next-from rule f a b x y = by rule.near
  where
    before : (z c : ℤ) → one_before z +ℤ c ≡ one_before (z +ℤ c)
    before z c = omega (arith, ints)

    behind : (z c : ℤ) → one_after z +ℤ c ≡ one_after (z +ℤ c)
    behind z c = omega (arith, ints)

    by : (near : Near) → next_life (record { sets = rule.sets; near = near }) (from f a b) x y
        ≡ next_life (record { sets = rule.sets; near = near }) f (x +ℤ a) (y +ℤ b)
    by Moore =
        let n = before y b in
        let e = behind x a in
        let s = behind y b in
        let w = before x a in
        (λ i. next_by_count rule.sets (f (x +ℤ a) (y +ℤ b))
        (live_in (f (x +ℤ a) (n i) ∷ f (e i) (n i) ∷ f (e i) (y +ℤ b) ∷ f (e i) (s i) ∷ f (x +ℤ a) (s i) ∷ f (w i) (s i) ∷ f (w i) (y +ℤ b)
        ∷ f (w i) (n i) ∷ [])))
    by VonNeumann =
        let n = before y b in
        let e = behind x a in
        let s = behind y b in
        let w = before x a in
        (λ i. next_by_count rule.sets (f (x +ℤ a) (y +ℤ b))
        (live_in (f (x +ℤ a) (n i) ∷ f (e i) (y +ℤ b) ∷ f (x +ℤ a) (s i) ∷ f (w i) (y +ℤ b) ∷ [])))

after-from : (rule : OuterTotalistic) (n : ℕ) (f : ℤ → ℤ → ℕ) (a b : ℤ) → after rule n (from f a b) ≡ from (after rule n f) a b
after-from rule zero f a b = after-none rule (from f a b) ∙ ap (λ g. from g a b) (sym (after-none rule f))
after-from rule (suc n) f a b =
    after-next rule n (from f a b) ∙ ap (next_life rule) (after-from rule n f a b) ∙ (λ i x y. next-from rule (after rule n f) a b x y i)
    ∙ ap (λ g. from g a b) (sym (after-next rule n f))

-- ---- moved patterns

pub after-moves : GenerationsKeepShifts
after-moves rule n a b f g h =
    let same : f ≡ from g a b = (λ i x y. sym (h.cells x y) i) in
    record { cells = λ x y. sym (ap (λ (p : ℤ → ℤ → ℕ). p x y) (ap (after rule n) same ∙ after-from rule n g a b)) }

there-and-back : (x a : ℤ) → (x +ℤ neg_ℤ a) +ℤ a ≡ x
there-and-back x a = omega (arith, ints)

plus-plus : (x a b : ℤ) → x +ℤ (a +ℤ b) ≡ (x +ℤ a) +ℤ b
plus-plus x a b = omega (arith, ints)

back-and-there : (a c : ℤ) → (neg_ℤ a +ℤ c) +ℤ a ≡ c
back-and-there a c = omega (arith, ints)

module _ (a b : ℤ) (f g : ℤ → ℤ → ℕ) (first : IsMovedBy a b f g) where
  pub moved-back : IsMovedBy (neg_ℤ a) (neg_ℤ b) g f
  moved-back = record { cells = λ x y. sym (first.cells _ _) ∙ ap₂ g (there-and-back x a) (there-and-back y b) }

  pub moved-then : (c d : ℤ) (h : ℤ → ℤ → ℕ) → IsMovedBy c d g h → IsMovedBy (a +ℤ c) (b +ℤ d) f h
  moved-then c d h second = record { cells = λ x y. ap₂ h (plus-plus x a c) (plus-plus y b d) ∙ second.cells _ _ ∙ first.cells x y }

  pub moved-as : (c d : ℤ) → a ≡ c → b ≡ d → IsMovedBy c d f g
  moved-as c d ex ey = subst₂ (λ u v. IsMovedBy u v f g) ex ey first

-- ---- their periods

pub period-moved : (rule : OuterTotalistic) (n : ℕ) (a b c d : ℤ) (f g : ℤ → ℤ → ℕ) → IsMovedBy a b f g → HasPeriod rule f n c d → HasPeriod rule g n c d
period-moved rule n a b c d f g m h =
    let once = moved-then (neg_ℤ a) (neg_ℤ b) g f (moved-back a b f g m) c d (after rule n f) h.moved in
    let all = moved-then (neg_ℤ a +ℤ c) (neg_ℤ b +ℤ d) g (after rule n f) once a b (after rule n g) (after-moves rule n a b f g m) in
    record { some = h.some; moved = moved-as _ _ g (after rule n g) all c d (back-and-there a c) (back-and-there b d) }

pub periods-moved : ShiftsKeepPeriods
periods-moved rule n a b c d f g m = (
  period-moved rule n a b c d f g m,
  period-moved rule n (neg_ℤ a) (neg_ℤ b) c d g f (moved-back a b f g m),
)
