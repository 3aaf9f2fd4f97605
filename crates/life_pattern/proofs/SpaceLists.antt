-- Lists of squares that hold no square twice, and what is among elements.
use Rattle.std.proofs.Common.{◌≡◌, ◌≢◌, ℕ, zero, suc, ◌<◌, ◌≤◌, List, [], ◌∷◌, length, get_or, refl, ap, sym, ◌∙◌, subst, arith, inl, inr, AllPairs, Contains}
use Rattle.life_base.specs.Tree.{Tree}
pub use Rattle.life_rle.proofs.BlockItems.{Among}
pub use Rattle.life_rle.proofs.BlockCover.{among-left, among-right}
pub use Rattle.life_rle.proofs.BlockLaw.{contains-among}

-- ---- distinct squares of a list are no more than it has

pub among-contains : {A : Type 0} (xs : List A) (a : A) → Contains xs a → Among xs a
among-contains [] a h = absurd (omega (arith, h.1))
among-contains (x ∷ xs) a (zero, lt, e) = inl e
among-contains (x ∷ xs) a (suc k, lt, e) = inr (among-contains xs a (k, omega (arith, lt), e))

abbrev pub IsDistinct : List Tree → Type 0
IsDistinct [] = Unit {0}
IsDistinct (x ∷ xs) = (Among xs x → ⊥) × IsDistinct xs

place-of : (xs : List Tree) (a d : Tree) → Among xs a → (k : ℕ) × (k < length xs) × (get_or xs k d ≡ a)
place-of [] a d h = absurd h
place-of (x ∷ xs) a d (inl e) = (0, omega arith, e)
place-of (x ∷ xs) a d (inr h) = let k = place-of xs a d h in (suc k.0, omega (arith, k.1), k.2)

pub distinct-pairs : (xs : List Tree) → AllPairs ◌≢◌ xs → IsDistinct xs
distinct-pairs [] h = tt
distinct-pairs (x ∷ xs) h = (
  λ a. let k = place-of xs x x a in h 0 (suc k.0) x (omega arith) (omega (arith, k.1)) (sym k.2),
  distinct-pairs xs (λ i j d l m. h (suc i) (suc j) d (omega (arith, l)) (omega (arith, m))),
)

record Without (ys : List Tree) (y : Tree) : Type 0 where
  rest : List Tree
  size : length ys ≡ suc (length rest)
  others : (z : Tree) → Among ys z → (z ≡ y → ⊥) → Among rest z

without : (ys : List Tree) (y : Tree) → Among ys y → Without ys y
without [] y h = absurd h
without (x ∷ ys) y (inl e) = record { rest = ys; size = refl; others = λ z a n. elim a [ inl f ↦ absurd (n (sym f ∙ e)) | inr h ↦ h ] }
without (x ∷ ys) y (inr h) =
    let w = without ys y h in
    record { rest = x ∷ w.rest; size = ap suc w.size; others = λ z a n. elim a [ inl f ↦ inl f | inr k ↦ inr (w.others z k n) ] }

pub pigeons : (xs ys : List Tree) → IsDistinct xs → ((x : Tree) → Among xs x → Among ys x) → length xs ≤ length ys
pigeons [] ys d h = omega arith
pigeons (x ∷ xs) ys d h =
    let w = without ys x (h x (inl refl)) in
    let rest = pigeons xs w.rest d.1 (λ z a. w.others z (h z (inr a)) (λ e. d.0 (subst (Among xs) e a))) in
    omega (arith, rest, w.size)
