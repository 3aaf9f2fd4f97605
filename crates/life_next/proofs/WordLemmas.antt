-- Words of 64 bits: what the bits of sums and of shifted words are.
use Rattle.std.proofs.Common.{◌≡◌, ◌⊎◌, inl, inr, ℕ, zero, suc, ◌+◌, ◌*◌, ◌-◌, ◌/◌, ◌%◌, ◌^◌, ◌<◌, min, max, w64, refl, ◌∙◌, ap, arith, if◌then◌else◌, ◌==◌, ◌&&◌, ◌||◌}
use Rattle.std.specs.Int.{bit_at, bit_not}
use Rattle.std.specs.Int.Bits.{bit_and, bit_or}
use Rattle.std.specs.Int.RustNames.{bit_xor}
use Rattle.std.proofs.lemmas.Nat.Bits.{bit_at_and, bit_at_or, bit_at_xor, bit_at_not, bit_at-lt}

-- the two digits of a sum of three bits
digits : (a b c : ℕ) → a < 2 → b < 2 → c < 2 → (((a + b) % 2 + c) % 2) + 2 * (max (min a b) (min ((a + b) % 2) c)) ≡ a + b + c
digits zero zero zero la lb lc = refl
digits zero zero (suc zero) la lb lc = refl
digits zero (suc zero) zero la lb lc = refl
digits zero (suc zero) (suc zero) la lb lc = refl
digits (suc zero) zero zero la lb lc = refl
digits (suc zero) zero (suc zero) la lb lc = refl
digits (suc zero) (suc zero) zero la lb lc = refl
digits (suc zero) (suc zero) (suc zero) la lb lc = refl
digits (suc (suc a)) b c la lb lc = absurd (omega (arith, la))
digits a (suc (suc b)) c la lb lc = absurd (omega (arith, lb))
digits a b (suc (suc c)) la lb lc = absurd (omega (arith, lc))

pub sum-digits : (a b c i : ℕ) → bit_at (bit_xor (bit_xor a b) c) i + 2 * bit_at (bit_or (bit_and a b) (bit_and (bit_xor a b) c)) i ≡ bit_at a i + bit_at b i
    + bit_at c i
sum-digits a b c i =
    let x = bit_at_xor a b i in
    let one : bit_at (bit_xor (bit_xor a b) c) i ≡ ((bit_at a i + bit_at b i) % 2 + bit_at c i) % 2 = bit_at_xor (bit_xor a b) c i
    ∙ ap (λ z. (z + bit_at c i) % 2) x in
    let two : bit_at (bit_or (bit_and a b) (bit_and (bit_xor a b) c)) i ≡ max (min (bit_at a i) (bit_at b i)) (min ((bit_at a i + bit_at b i) % 2) (bit_at c i))
    =
    bit_at_or (bit_and a b) (bit_and (bit_xor a b) c) i
    ∙ ap (λ z. max z (bit_at (bit_and (bit_xor a b) c) i)) (bit_at_and a b i)
    ∙ ap (λ z. max (min (bit_at a i) (bit_at b i)) z) (bit_at_and (bit_xor a b) c i ∙ ap (λ z. min z (bit_at c i)) x) in
    ap (λ z. z + 2 * bit_at (bit_or (bit_and a b) (bit_and (bit_xor a b) c)) i) one
    ∙ ap (λ z. ((bit_at a i + bit_at b i) % 2 + bit_at c i) % 2 + 2 * z) two
    ∙ digits (bit_at a i) (bit_at b i) (bit_at c i) (bit_at-lt a i) (bit_at-lt b i) (bit_at-lt c i)

-- the digits of a number below 16, each by its place
binary : (p q r s n : ℕ) → p < 2 → q < 2 → r < 2 → s < 2 → p + 2 * q + 4 * r + 8 * s ≡ n → (p ≡ n % 2) × (q ≡ n / 2 % 2) × (r ≡ n / 4 % 2) × (s ≡ n / 8)
binary p q r s n lp lq lr ls e = (omega (arith, lp, e), omega (arith, lp, lq, e), omega (arith, lp, lq, lr, e), omega (arith, lp, lq, lr, e))

-- a digit is the one wanted, or not
abbrev pub picked : ℕ → ℕ → ℕ
picked p d = if d == 1 then p else 1 - p

abbrev all_picked : ℕ → ℕ → ℕ → ℕ → ℕ → ℕ
all_picked p q r s n = min (min (min (picked p (n % 2)) (picked q (n / 2 % 2))) (picked r (n / 4 % 2))) (picked s (n / 8))

pick : (p d : ℕ) → p < 2 → d < 2 → ((p ≡ d) × (picked p d ≡ 1)) ⊎ ((p ≡ d → ⊥) × (picked p d ≡ 0))
pick zero zero lp ld = inl (refl, refl)
pick zero (suc zero) lp ld = inr ((λ e. omega (arith, e)), refl)
pick (suc zero) zero lp ld = inr ((λ e. omega (arith, e)), refl)
pick (suc zero) (suc zero) lp ld = inl (refl, refl)
pick (suc (suc p)) d lp ld = absurd (omega (arith, lp))
pick p (suc (suc d)) lp ld = absurd (omega (arith, ld))

module _ (p q r s n : ℕ) (lp : p < 2) (lq : q < 2) (lr : r < 2) (ls : s < 2) (ln : n < 16) where
  pick-all : p + 2 * q + 4 * r + 8 * s ≡ n → all_picked p q r s n ≡ 1
  pick-all e =
      let b = binary p q r s n lp lq lr ls e in
      let one : (x y : ℕ) → x < 2 → y < 2 → x ≡ y → picked x y ≡ 1 = λ x y lx ly h. elim (pick x y lx ly) [ inl t ↦ t.1 | inr t ↦ absurd (t.0 h) ] in
      let ep = one p (n % 2) lp (omega arith) b.0 in
      let eq = one q (n / 2 % 2) lq (omega arith) b.1 in
      let er = one r (n / 4 % 2) lr (omega arith) b.2 in
      let es = one s (n / 8) ls (omega (arith, ln)) b.3 in
      omega (arith, ep, eq, er, es)

  pick-none : (p + 2 * q + 4 * r + 8 * s ≡ n → ⊥) → all_picked p q r s n ≡ 0
  pick-none ne = elim (pick p (n % 2) lp (omega arith)) [
    | inr t ↦ (let e = t.1 in omega (arith, e))
    | inl tp ↦ elim (pick q (n / 2 % 2) lq (omega arith)) [
      | inr t ↦ (let e = t.1 in omega (arith, e))
      | inl tq ↦ elim (pick r (n / 4 % 2) lr (omega arith)) [
        | inr t ↦ (let e = t.1 in omega (arith, e))
        | inl tr ↦ elim (pick s (n / 8) ls (omega (arith, ln))) [
          | inr t ↦ (let e = t.1 in omega (arith, e))
          | inl ts ↦ absurd (ne (omega (arith, tp.0, tq.0, tr.0, ts.0)))
        ]
      ]
    ]
  ]

-- the columns that have a number
pub bits-picked : (ones twos fours eights a b c d i n : ℕ) → n < 16
    → bit_at a i ≡ picked (bit_at ones i) (n % 2) → bit_at b i ≡ picked (bit_at twos i) (n / 2 % 2)
    → bit_at c i ≡ picked (bit_at fours i) (n / 4 % 2) → bit_at d i ≡ picked (bit_at eights i) (n / 8)
    → let has = bit_at ones i + 2 * bit_at twos i + 4 * bit_at fours i + 8 * bit_at eights i ≡ n in
    let bit = bit_at (bit_and (bit_and (bit_and a b) c) d) i in (has → bit ≡ 1) × ((has → ⊥) → bit ≡ 0)
bits-picked ones twos fours eights a b c d i n ln ea eb ec ed =
    let all : bit_at (bit_and (bit_and (bit_and a b) c) d) i ≡ all_picked (bit_at ones i) (bit_at twos i) (bit_at fours i) (bit_at eights i) n =
    bit_at_and (bit_and (bit_and a b) c) d i
    ∙ ap (λ z. min z (bit_at d i)) (bit_at_and (bit_and a b) c i ∙ ap (λ z. min z (bit_at c i)) (bit_at_and a b i))
    ∙ (λ j. min (min (min (ea j) (eb j)) (ec j)) (ed j)) in
    let l = bit_at-lt in (
      λ e. all ∙ pick-all _ _ _ _ n (l ones i) (l twos i) (l fours i) (l eights i) ln e,
      λ ne. all ∙ pick-none _ _ _ _ n (l ones i) (l twos i) (l fours i) (l eights i) ln ne,
    )

-- the next state by the digits of both sets at a count
pub next-of : (b s h : ℕ) → b < 2 → s < 2 → h < 2 → max (min b (1 - h)) (min s h) ≡ if (h == 0 && b == 1) || (h == 1 && s == 1) then 1 else 0
next-of zero zero zero lb ls lh = refl
next-of zero zero (suc zero) lb ls lh = refl
next-of zero (suc zero) zero lb ls lh = refl
next-of zero (suc zero) (suc zero) lb ls lh = refl
next-of (suc zero) zero zero lb ls lh = refl
next-of (suc zero) zero (suc zero) lb ls lh = refl
next-of (suc zero) (suc zero) zero lb ls lh = refl
next-of (suc zero) (suc zero) (suc zero) lb ls lh = refl
next-of (suc (suc b)) s h lb ls lh = absurd (omega (arith, lb))
next-of b (suc (suc s)) h lb ls lh = absurd (omega (arith, ls))
next-of b s (suc (suc h)) lb ls lh = absurd (omega (arith, lh))

-- the bits of a choice by the bits of a word
pub bit-chosen : (a b alive i h : ℕ) → alive < 2 ^ 64 → i < 64 → bit_at alive i ≡ h
    → bit_at (bit_or (bit_and a (bit_not w64 alive)) (bit_and b alive)) i ≡ max (min (bit_at a i) (1 - h)) (min (bit_at b i) h)
bit-chosen a b alive i h fits l e =
    let some = bit_at_or (bit_and a (bit_not w64 alive)) (bit_and b alive) i in
    let born = bit_at_and a (bit_not w64 alive) i in
    let dead = bit_at_not w64 alive i fits l in
    let stay = bit_at_and b alive i in
    let la = bit_at-lt a i in
    let lb = bit_at-lt b i in
    omega (arith, some, born, dead, stay, e, la, lb)
