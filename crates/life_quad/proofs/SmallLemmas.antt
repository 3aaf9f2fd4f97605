-- Small squares by their quarters and by their numbers.
use Rattle.std.proofs.Common.{◌≡◌, ℕ, ◌+◌, ◌*◌, ◌-◌, ◌/◌, ◌%◌, ◌≤◌, ◌<◌, Bool, true, false, ◌&&◌, ◌==◌, None, Some, refl, sym, ◌∙◌, ap, arith, if◌then◌else◌}
use Rattle.std.proofs.lemmas.Bool.Decides.{nat_tests}
use Rattle.life_quad.specs.Store.{id_of, is_bit_id, is_digit_id, digit_id, small_of}
use Rattle.life_quad.specs.SmallLaws.{IsDigit, digit_0, digit_of, Smalls, of_bits, of_digits, smalls, bits_of, base_16_digits, below_16}

-- the quarters by division
pub bits_are : (a b c d k bits : ℕ) → small_of a b c d ≡ Some k → k < 528 → bits ≡ k - 512 → (bits / 8 ≡ a) × (bits / 4 % 2 ≡ b) × (bits / 2 % 2 ≡ c)
    × (bits % 2 ≡ d)
bits_are a b c d k bits h low e = by (smalls a b c d k h)
  where
    by : Smalls a b c d k → (bits / 8 ≡ a) × (bits / 4 % 2 ≡ b) × (bits / 2 % 2 ≡ c) × (bits % 2 ≡ d)
    by (of_bits la lb lc ld f) =
        let n : bits ≡ a * 8 + b * 4 + c * 2 + d = omega arith in
        let q = bits_of a b c d la lb lc ld in
        (ap (λ z. z / 8) n ∙ q.0, ap (λ z. z / 4 % 2) n ∙ q.1, ap (λ z. z / 2 % 2) n ∙ q.2, ap (λ z. z % 2) n ∙ q.3)
    by (of_digits ia ib ic id f) = absurd (omega arith)

id_of-digit : (q n : ℕ) → IsDigit q → n ≡ q - 512 → digit_id n ≡ id_of q
id_of-digit q n (digit_0 e) f =
    let z : n ≡ 0 = omega arith in
    ap digit_id z ∙ sym (ap id_of e)
id_of-digit q n (digit_of l u) f =
    let z : (n == 0) ≡ false = grind arith in
    let m : 512 + n ≡ q = omega arith in
    ap (λ b. id_of (if b then 256 else 512 + n)) z ∙ ap id_of m

pub digits_are : (a b c d k digits : ℕ) → small_of a b c d ≡ Some k → 528 ≤ k → digits ≡ k - 528
    → (digit_id (digits / 4096) ≡ id_of a) × (digit_id (digits / 256 % 16) ≡ id_of b) × (digit_id (digits / 16 % 16) ≡ id_of c)
    × (digit_id (digits % 16) ≡ id_of d)
digits_are a b c d k digits h high e = by (smalls a b c d k h)
  where
    by : Smalls a b c d k → (digit_id (digits / 4096) ≡ id_of a) × (digit_id (digits / 256 % 16) ≡ id_of b) × (digit_id (digits / 16 % 16) ≡ id_of c)
        × (digit_id (digits % 16) ≡ id_of d)
    by (of_bits la lb lc ld f) = absurd (omega arith)
    by (of_digits ia ib ic id f) =
        let p = a - 512 in let q = b - 512 in let r = c - 512 in let t = d - 512 in
        let la : p < 16 = below_16 a ia in let lb : q < 16 = below_16 b ib in let lc : r < 16 = below_16 c ic in let ld : t < 16 = below_16 d id in
        let n : digits ≡ p * 4096 + q * 256 + r * 16 + t = omega arith in
        let o = base_16_digits p q r t la lb lc ld in (
          id_of-digit a _ ia (ap (λ z. z / 4096) n ∙ o.0),
          id_of-digit b _ ib (ap (λ z. z / 256 % 16) n ∙ o.1),
          id_of-digit c _ ic (ap (λ z. z / 16 % 16) n ∙ o.2),
          id_of-digit d _ id (ap (λ z. z % 16) n ∙ o.3),
        )

-- the numbers of small squares and of their quarters
pub small_range : (a b c d k : ℕ) → small_of a b c d ≡ Some k → (512 ≤ k) × (k < 66064)
small_range a b c d k h = by (smalls a b c d k h)
  where
    by : Smalls a b c d k → (512 ≤ k) × (k < 66064)
    by (of_bits la lb lc ld f) = (omega arith, omega arith)
    by (of_digits ia ib ic id f) =
        let la = below_16 a ia in let lb = below_16 b ib in let lc = below_16 c ic in let ld = below_16 d id in
        (omega arith, omega arith)

below_digit : (q : ℕ) → IsDigit q → q < 66064
below_digit q (digit_0 e) = omega arith
below_digit q (digit_of l u) = omega arith

pub quarters_range : (a b c d k : ℕ) → small_of a b c d ≡ Some k → (a < 66064) × (b < 66064) × (c < 66064) × (d < 66064)
quarters_range a b c d k h = by (smalls a b c d k h)
  where
    by : Smalls a b c d k → (a < 66064) × (b < 66064) × (c < 66064) × (d < 66064)
    by (of_bits la lb lc ld f) = (omega arith, omega arith, omega arith, omega arith)
    by (of_digits ia ib ic id f) = (below_digit a ia, below_digit b ib, below_digit c ic, below_digit d id)

-- the number by the two tests
module _ (a b c d : ℕ) where
  abbrev pub are_bit_ids : Bool
  are_bit_ids = is_bit_id a && is_bit_id b && is_bit_id c && is_bit_id d

  abbrev pub are_digit_ids : Bool
  are_digit_ids = is_digit_id a && is_digit_id b && is_digit_id c && is_digit_id d

  pub of_two : are_bit_ids ≡ true → Some (512 + (a * 8 + b * 4 + c * 2 + d)) ≡ small_of a b c d
  unfolding small_of
  of_two h = rw h refl

  pub of_four : are_bit_ids ≡ false → are_digit_ids ≡ true → Some (528 + ((a - 512) * 4096 + (b - 512) * 256 + (c - 512) * 16 + (d - 512))) ≡ small_of a b c d
  unfolding small_of
  of_four g h = rw (g, h) refl

  pub of_none : are_bit_ids ≡ false → are_digit_ids ≡ false → None ≡ small_of a b c d
  unfolding small_of
  of_none g h = rw (g, h) refl

large_bit : (a : ℕ) → 528 ≤ a → is_bit_id a ≡ false
large_bit a h = grind (arith, nat_tests)

large_digit : (a : ℕ) → 528 ≤ a → is_digit_id a ≡ false
large_digit a h = grind (arith, nat_tests)

-- a square whose first quarter has so large a number has no quarters of one cell or of level 1
pub large_first : (a b c d : ℕ) → 528 ≤ a → ((is_bit_id a && is_bit_id b && is_bit_id c && is_bit_id d) ≡ false)
    × ((is_digit_id a && is_digit_id b && is_digit_id c && is_digit_id d) ≡ false)
large_first a b c d h = (rw (large_bit a h) refl, rw (large_digit a h) refl)
