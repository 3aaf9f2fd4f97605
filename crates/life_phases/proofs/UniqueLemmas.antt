-- A pattern on the plane that has a cell is moved by one distance alone.
use Rattle.std.proofs.Common.{◌≡◌, ◌≢◌, ℕ, zero, suc, ◌^◌, ◌≤◌, ℤ, pos, ◌+ℤ◌, ◌≤ℤ◌, sym, ◌∙◌, subst, arith}
use Rattle.std.proofs.lemmas.Int.{ints, by_lt_z}
use Rattle.life_base.proofs.Basics.{zero_unless}
use Rattle.life_leap.specs.After.{after}
use Rattle.life_leap.specs.Edge.{IsPlaneCoordinate}
use Rattle.life_phases.specs.Laws.{PeriodsAreUnique}
use Rattle.life_phases.specs.Middle.{IsMovedBy}
use Rattle.life_phases.proofs.ShiftLemmas.{moved-back, moved-then}

-- a pattern that is itself, moved east, has a cell far in the east
reach : (f : ℤ → ℤ → ℕ) (a b : ℤ) → IsMovedBy a b f f → pos 1 ≤ℤ a → (n : ℕ) (x y : ℤ) → f x y ≢ 0
    → (u : ℤ) × (v : ℤ) × (f u v ≢ 0) × ((x +ℤ pos n) ≤ℤ u)
reach f a b m up zero x y some = (x, y, some, omega (arith, ints))
reach f a b m up (suc n) x y some =
    let r = reach f a b m up n x y some in
    let far = r.3 in
    (r.0 +ℤ a, r.1 +ℤ b, λ none. r.2 (sym (m.cells _ _) ∙ none), omega (arith, ints, far, up))

-- so it has none
module _ (f : ℤ → ℤ → ℕ) (within : (x y : ℤ) → f x y ≢ 0 → IsPlaneCoordinate x) where
  out : (n : ℕ) (x y u v : ℤ) → 2 ^ 62 ≤ n → f x y ≢ 0 → f u v ≢ 0 → (x +ℤ pos n) ≤ℤ u → ⊥
  out n x y u v long some more far =
      let p = (within x y some).from in
      let q = (within u v more).to in
      omega (arith, ints, long, far, p, q)

  blank-for : (a b : ℤ) → IsMovedBy a b f f → pos 1 ≤ℤ a → (n : ℕ) → 2 ^ 62 ≤ n → (x y : ℤ) → f x y ≡ 0
  blank-for a b m up n long x y = zero_unless _ (λ some.
      let r = reach f a b m up n x y some in
      out n x y r.0 r.1 long some r.2 r.3)

  pub blank-east : (a b : ℤ) → IsMovedBy a b f f → pos 1 ≤ℤ a → (x y : ℤ) → f x y ≡ 0
  blank-east a b m up = blank-for a b m up (2 ^ 62) (omega arith)

-- a pattern is moved to one place by one distance, unless it has no cell
module _ (f : ℤ → ℤ → ℕ) (within : (x y : ℤ) → f x y ≢ 0 → IsPlaneCoordinate x) (h : ℤ → ℤ → ℕ) (a b c d : ℤ) (first : IsMovedBy a b f h)
    (second : IsMovedBy c d f h) (blank : ((x y : ℤ) → f x y ≡ 0) → a ≡ c) where
  pub one-way : a ≡ c
  one-way =
      by_lt_z a c
      (λ l. blank (blank-east f within _ _ (moved-then c d f h second _ _ f (moved-back a b f h first)) (omega (arith, ints, l))))
      (λ g. by_lt_z c a
      (λ l. blank (blank-east f within _ _ (moved-then a b f h first _ _ f (moved-back c d f h second)) (omega (arith, ints, l))))
      (λ k. omega (arith, ints, g, k)))

-- columns and rows exchanged
abbrev flipped : (ℤ → ℤ → ℕ) → ℤ → ℤ → ℕ
flipped f x y = f y x

flip-moved : (a b : ℤ) (f h : ℤ → ℤ → ℕ) → IsMovedBy a b f h → IsMovedBy b a (flipped f) (flipped h)
flip-moved a b f h m = record { cells = λ x y. m.cells y x }

antisym : (m n : ℕ) → m ≤ n → n ≤ m → m ≡ n
antisym m n h k = omega (arith, h, k)

pub periods-unique : PeriodsAreUnique
periods-unique rule cells p q plane first second =
    let e : p.generations ≡ q.generations = antisym _ _ (first.least _ _ _ second.is) (second.least _ _ _ first.is) in
    let now = after rule p.generations cells in
    let one = first.is.moved in
    let two : IsMovedBy q.shift.columns q.shift.rows cells now = subst (λ n. IsMovedBy q.shift.columns q.shift.rows cells (after rule n cells)) (sym e)
    second.is.moved in
    let ex : p.shift.columns ≡ q.shift.columns = one-way cells (λ x y some. (plane x y some).0) now _ _ _ _ one two
    (λ blank. (first.still blank).0 ∙ sym (second.still blank).0) in
    let ey : p.shift.rows ≡ q.shift.rows = one-way (flipped cells) (λ x y some. (plane y x some).1) (flipped now) _ _ _ _ (flip-moved _ _ cells now one)
    (flip-moved _ _ cells now two) (λ blank. (first.still (λ x y. blank y x)).1 ∙ sym (second.still (λ x y. blank y x)).1) in
    (λ i. record { generations = e i; shift = record { columns = ex i; rows = ey i } })
