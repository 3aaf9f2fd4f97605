-- Words whose bits are exchanged.
use Rattle.std.proofs.Common.{◌≡◌, ℕ, zero, suc, ◌+◌, ◌*◌, ◌-◌, ◌/◌, ◌%◌, ◌^◌, ◌<◌, ◌≤◌, Bool, true, false, min, inl, inr, refl, sym, ◌∙◌, ap, arith, if◌then◌else◌, ◌==◌}
use Rattle.std.specs.Int.{bit_at}
use Rattle.std.specs.Int.Bits.{bit_and}
use Rattle.std.specs.Int.RustNames.{bit_xor}
use Rattle.std.proofs.lemmas.Bool.{cases_lt}
use Rattle.std.proofs.lemmas.Bool.Decides.{nat_tests}
use Rattle.std.proofs.lemmas.Nat.{and_le_r, mul-le}
use Rattle.std.proofs.lemmas.Nat.Bits.{bit_at_and, bit_at_xor, bit_at-lt, bit_at-zero}
use Rattle.life_base.proofs.RoundTrip.{all_below, all_below_at}
use Rattle.life_lanes.specs.Places.{exchanged, place_in_leaf}
use Rattle.life_lanes.proofs.WordLemmas.{bit-shr, shl-high, shl-low}

-- one bit of a word whose bits are exchanged: a with the one b above it, or with the one c below it, or not at all
swap-bit : (a b c m n : ℕ) → a < 2 → b < 2 → c < 2 → m < 2 → n < 2 → min m n ≡ 0
    → ((a + min ((a + b) % 2) m) % 2 + min ((c + a) % 2) n) % 2 ≡ if m == 1 then b else if n == 1 then c else a
swap-bit a b c zero zero la lb lc lm ln h = omega (arith, la)
swap-bit a b c (suc zero) zero la lb lc lm ln h = omega (arith, la, lb)
swap-bit a b c zero (suc zero) la lb lc lm ln h = omega (arith, la, lc)
swap-bit a b c (suc zero) (suc zero) la lb lc lm ln h = absurd (omega (arith, h))
swap-bit a b c (suc (suc m)) n la lb lc lm ln h = absurd (omega (arith, lm))
swap-bit a b c m (suc (suc n)) la lb lc lm ln h = absurd (omega (arith, ln))

at-choice : (f : ℕ → ℕ) (p q : Bool) (x y z : ℕ) → (if p then f x else if q then f y else f z) ≡ f (if p then x else if q then y else z)
at-choice f true q x y z = refl
at-choice f false true x y z = refl
at-choice f false false x y z = refl

module _ (w mask d : ℕ) (within : mask * 2 ^ d < 2 ^ 64) (apart : bit_and mask (mask * 2 ^ d) ≡ 0) where
  abbrev odd : ℕ
  odd = bit_and (bit_xor w (w / 2 ^ d)) mask

  odd-bit : (i : ℕ) → bit_at odd i ≡ min ((bit_at w i + bit_at w (i + d)) % 2) (bit_at mask i)
  odd-bit i =
      bit_at_and (bit_xor w (w / 2 ^ d)) mask i
      ∙ ap (λ z. min z (bit_at mask i)) (bit_at_xor w (w / 2 ^ d) i ∙ ap (λ z. (bit_at w i + z) % 2) (bit-shr w d i))

  odd-fits : odd * 2 ^ d < 2 ^ 64
  odd-fits =
      let less : odd * 2 ^ d ≤ mask * 2 ^ d = mul-le odd (2 ^ d) mask (2 ^ d) (and_le_r (bit_xor w (w / 2 ^ d)) mask) (omega arith) in
      omega (arith, less, within)

  above-bit : (i : ℕ) → bit_at (odd * 2 ^ d % 2 ^ 64) i ≡ min ((bit_at w (i - d) + bit_at w i) % 2) (bit_at (mask * 2 ^ d) i)
  above-bit i =
      let whole : odd * 2 ^ d % 2 ^ 64 ≡ odd * 2 ^ d = (let fits = odd-fits in omega (arith, fits)) in
      ap (λ z. bit_at z i) whole ∙ elim (cases_lt i d) [
        | inl low ↦ (let z = shl-low odd d i low in let m = shl-low mask d i low in omega (arith, z, m))
        | inr high ↦ (let back : i - d + d ≡ i = omega (arith, high) in
            shl-high odd d i high ∙ odd-bit (i - d) ∙ ap (λ z. min ((bit_at w (i - d) + bit_at w z) % 2) (bit_at mask (i - d))) back
            ∙ ap (λ z. min ((bit_at w (i - d) + bit_at w i) % 2) z) (sym (shl-high mask d i high)))
      ]

  pub exchanged-bits : (i : ℕ) → bit_at (bit_xor (bit_xor w odd) (odd * 2 ^ d % 2 ^ 64)) i ≡ bit_at w (exchanged mask d i)
  exchanged-bits i =
      let both : min (bit_at mask i) (bit_at (mask * 2 ^ d) i) ≡ 0 = sym (bit_at_and mask (mask * 2 ^ d) i) ∙ ap (λ z. bit_at z i) apart ∙ bit_at-zero i in
      bit_at_xor (bit_xor w odd) (odd * 2 ^ d % 2 ^ 64) i
      ∙ ap (λ z. (z + bit_at (odd * 2 ^ d % 2 ^ 64) i) % 2) (bit_at_xor w odd i ∙ ap (λ z. (bit_at w i + z) % 2) (odd-bit i))
      ∙ ap (λ z. ((bit_at w i + min ((bit_at w i + bit_at w (i + d)) % 2) (bit_at mask i)) % 2 + z) % 2) (above-bit i)
      ∙ swap-bit (bit_at w i) (bit_at w (i + d)) (bit_at w (i - d)) (bit_at mask i) (bit_at (mask * 2 ^ d) i) (bit_at-lt w i) (bit_at-lt w (i + d))
      (bit_at-lt w (i - d)) (bit_at-lt mask i) (bit_at-lt (mask * 2 ^ d) i) both
      ∙ at-choice (bit_at w) (bit_at mask i == 1) (bit_at (mask * 2 ^ d) i == 1) (i + d) (i - d) i

pub equal : (a b : ℕ) → (a == b) ≡ true → a ≡ b
equal a b h = grind (arith, nat_tests)

-- where a bit of the quarters comes from, and one of the rows
abbrev quarter_from : ℕ → ℕ
quarter_from p = exchanged 0x0000F0F00000F0F0 12 (exchanged 0x00F000F000F000F0 4 (exchanged 0x0C0C0C0C0C0C0C0C 2 p))

abbrev row_from : ℕ → ℕ
row_from p = exchanged 0x0C0C0C0C0C0C0C0C 2 (exchanged 0x00F000F000F000F0 4 (exchanged 0x0000F0F00000F0F0 12 p))

-- by a test of each of the 64
quarters_test : (r i : ℕ) → Bool
quarters_test r i = quarter_from (63 - place_in_leaf r i) == 63 - (8 * r + i)

each_quarter : all_below 8 (λ r. all_below 8 (quarters_test r)) ≡ true
unfolding quarters_test
each_quarter = refl

pub quarters-place : (r i : ℕ) → r < 8 → i < 8 → quarter_from (63 - place_in_leaf r i) ≡ 63 - (8 * r + i)
unfolding quarters_test
quarters-place r i lr li = equal _ _ (all_below_at 8 (quarters_test r) i (all_below_at 8 (λ r. all_below 8 (quarters_test r)) r each_quarter lr) li)

rows_test : (r i : ℕ) → Bool
rows_test r i = row_from (63 - (8 * r + i)) == 63 - place_in_leaf r i

each_row : all_below 8 (λ r. all_below 8 (rows_test r)) ≡ true
unfolding rows_test
each_row = refl

pub rows-place : (r i : ℕ) → r < 8 → i < 8 → row_from (63 - (8 * r + i)) ≡ 63 - place_in_leaf r i
unfolding rows_test
rows-place r i lr li = equal _ _ (all_below_at 8 (rows_test r) i (all_below_at 8 (λ r. all_below 8 (rows_test r)) r each_row lr) li)
