-- Places that are free, by the bits of a number.
use Rattle.std.proofs.Common.{◌≡◌, ℕ, zero, suc, ◌+◌, ◌-◌, ◌*◌, ◌^◌, ◌/◌, ◌%◌, ◌<◌, ◌≤◌, List, [], ◌∷◌, length, cond, nat_eq, refl, ap, sym, ◌∙◌, inl, inr, arith, slice_index, eq-eqb, pow_pos}
use Rattle.std.specs.Int.{bit_at}
use Rattle.std.proofs.lemmas.Bool.Decides.{eqb_tells}
use Rattle.std.proofs.lemmas.Nat.Bits.{bit_at-suc, bit_at_lowest}
use Rattle.std.proofs.Math.Pow.{pow-lt}
use Rattle.life_table.specs.Taking.{of_state, free_count}
use Rattle.life_table.specs.Meaning.{count_of}
use Rattle.std.proofs.lemmas.List.Sums.{sum_by-cons}
use Rattle.life_base.proofs.Basics.{double}

pub same_state : (s n : ℕ) → of_state s s n ≡ n
same_state s n = ap (λ b. cond b n 0) (eq-eqb s s refl)

-- a bit that is set is part of the number
pub bit_below : (k free : ℕ) → bit_at free k ≡ 1 → 2 ^ k ≤ free
bit_below zero free h = let e : bit_at free 0 ≡ free % 2 = bit_at_lowest free in omega (arith, e, h)
bit_below (suc k) free h =
    let r = bit_below k (free / 2) (sym (bit_at-suc free k) ∙ h) in
    let p = double k in
    omega (arith, r, p)

pub of_sum : (t s a b c : ℕ) → a ≡ b + c → of_state t s a ≡ of_state t s b + of_state t s c
of_sum t s a b c e = elim (eqb_tells t s) [
  | inl same ↦ ap (λ v. cond v a 0) same.0 ∙ e ∙ sym (ap (λ v. cond v b 0 + cond v c 0) same.0)
  | inr other ↦ ap (λ v. cond v a 0) other.0 ∙ sym (ap (λ v. cond v b 0 + cond v c 0) other.0)
]

-- one free place less
pub one_less : (t k free : ℕ) (states : List ℕ) → k < length states → bit_at free k ≡ 1 →
    free_count t free states ≡ of_state t (slice_index states k) 1 + free_count t (free - 2 ^ k) states
one_less t k free [] below set = absurd (omega (arith, below))
one_less t zero free (s ∷ states) below set =
    let odd : bit_at free 0 ≡ free % 2 = bit_at_lowest free in
    let half : free / 2 ≡ (free - 1) / 2 = omega (arith, odd, set) in
    let first : of_state t s (free % 2) ≡ of_state t s 1 + of_state t s ((free - 1) % 2) = of_sum t s (free % 2) 1 ((free - 1) % 2) (omega (arith, odd, set)) in
    let rest : free_count t (free / 2) states ≡ free_count t ((free - 1) / 2) states = ap (λ n. free_count t n states) half in
    omega (arith, first, rest)
one_less t (suc k) free (s ∷ states) below set =
    let set' : bit_at (free / 2) k ≡ 1 = sym (bit_at-suc free k) ∙ set in
    let low : 2 ^ k ≤ free / 2 = bit_below k (free / 2) set' in
    let p : 2 ^ suc k ≡ 2 ^ k + 2 ^ k = double k in
    let half : (free - 2 ^ suc k) / 2 ≡ free / 2 - 2 ^ k = omega (arith, p, low) in
    let parity : (free - 2 ^ suc k) % 2 ≡ free % 2 = omega (arith, p, low) in
    let first : of_state t s ((free - 2 ^ suc k) % 2) ≡ of_state t s (free % 2) = ap (of_state t s) parity in
    let rest : free_count t ((free - 2 ^ suc k) / 2) states ≡ free_count t (free / 2 - 2 ^ k) states = ap (λ n. free_count t n states) half in
    let step = one_less t k (free / 2) states (omega (arith, below)) set' in
    omega (arith, first, rest, step)

pub zero_of : (t s : ℕ) → of_state t s 0 ≡ 0
zero_of t s = elim (eqb_tells t s) [ inl same ↦ ap (λ v. cond v 0 0) same.0 | inr other ↦ ap (λ v. cond v 0 0) other.0 ]

-- no free place
pub none_free : (t : ℕ) (states : List ℕ) → free_count t 0 states ≡ 0
none_free t [] = refl
none_free t (s ∷ states) = let r = none_free t states in let z = zero_of t s in omega (arith, r, z)

-- no count, no free place
pub no_count : (free : ℕ) (states : List ℕ) → free < 2 ^ length states → ((t : ℕ) → free_count t free states ≡ 0) → free ≡ 0
no_count free [] below h = omega (arith, below)
no_count free (s ∷ states) below h =
    let p = double (length states) in
    let first = same_state s (free % 2) in
    let here = h s in
    let rest : free / 2 ≡ 0 = no_count (free / 2) states (omega (arith, below, p)) (λ t. let e = h t in omega (arith, e)) in
    omega (arith, first, here, rest)

-- a state that is counted is at a free place
pub at_place : (t free : ℕ) (states : List ℕ) → 0 < free_count t free states → (k : ℕ) × (k < length states) × (bit_at free k ≡ 1) × (slice_index states k ≡ t)
at_place t free [] h = absurd (omega (arith, h))
at_place t free (s ∷ states) h = elim (eqb_tells (of_state t s (free % 2)) 0) [
  | inl none ↦
      let r = at_place t (free / 2) states (omega (arith, none.1, h)) in
      (suc r.0, omega (arith, r.1), bit_at-suc free r.0 ∙ r.2, r.3)
  | inr some ↦ elim (eqb_tells t s) [
    | inl same ↦
        let here : of_state t s (free % 2) ≡ free % 2 = ap (λ v. cond v (free % 2) 0) same.0 in
        (0, omega arith, bit_at_lowest free ∙ omega (arith, here, some.1), sym same.1)
    | inr other ↦ absurd (some.1 (ap (λ v. cond v (free % 2) 0) other.0))
  ]
]

-- each place is free
pub each_free : (t : ℕ) (states : List ℕ) → free_count t (2 ^ length states - 1) states ≡ count_of t states
each_free t [] = refl
each_free t (s ∷ states) =
    let p = double (length states) in
    let some : 0 < 2 ^ length states = pow_pos (length states) in
    let odd : (2 ^ suc (length states) - 1) % 2 ≡ 1 = omega (arith, p, some) in
    let half : (2 ^ suc (length states) - 1) / 2 ≡ 2 ^ length states - 1 = omega (arith, p, some) in
    let first = ap (of_state t s) odd in
    let rest = ap (λ n. free_count t n states) half in
    let r = each_free t states in
    let c = sum_by-cons (λ x. cond (nat_eq t x) 1 0) s states in
    omega (arith, first, rest, r, c)

-- a state that is at no free place isn't counted
pub not_at_place : (t free : ℕ) (states : List ℕ) → ((k : ℕ) → k < length states → slice_index states k ≡ t → bit_at free k ≡ 1 → ⊥)
    → free_count t free states ≡ 0
not_at_place t free states h = elim (eqb_tells (free_count t free states) 0) [
  | inl none ↦ none.1
  | inr some ↦ let p = at_place t free states (omega (arith, some.1)) in absurd (h p.0 p.1 p.3 p.2)
]

-- the bit of a place
pub power : (k : ℕ) → k < 8 → 1 * 2 ^ k % 256 ≡ 2 ^ k
power k below = let p : 2 ^ k < 2 ^ 8 = pow-lt below in omega (arith, p)
