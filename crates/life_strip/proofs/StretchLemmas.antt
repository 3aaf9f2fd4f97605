-- Facts about the squares of level 2 before the first cell of four words, and after the last.
use Rattle.std.proofs.Common.{◌≡◌, ℕ, zero, suc, ◌+◌, ◌-◌, ◌*◌, ◌/◌, ◌%◌, ◌^◌, ◌≤◌, ◌<◌, refl, sym, ◌∙◌, ap, subst, arith, bit_or}
use Rattle.std.specs.Int.{bit_at}
use Rattle.std.specs.Int.Count.{count_leading_zeros, count_trailing_zeros, under}
use Rattle.std.proofs.lemmas.Nat.{mod-pow-add, leading_length, trailing_le}
use Rattle.std.proofs.lemmas.Nat.Bits.{bit_at_above, bit_at_or, bit_at-zero}
use Rattle.life_base.specs.Tree.{Tree, blank}
use Rattle.life_lanes.proofs.WordLemmas.{bit-mod}
use Rattle.life_strip.specs.declared.words.TwoWords.{TwoWords}
use Rattle.life_strip.specs.Band.{square_of_words}
use Rattle.life_strip.proofs.WordLemmas.{square-blank}

-- a bit that none of four words has
none-of-four : (a b c d j : ℕ) → bit_at (bit_or (bit_or (bit_or a b) c) d) j ≡ 0
    → (bit_at a j ≡ 0) × (bit_at b j ≡ 0) × (bit_at c j ≡ 0) × (bit_at d j ≡ 0)
none-of-four a b c d j none =
    let last = sym (bit_at_or (bit_or (bit_or a b) c) d j) ∙ none in
    let three : bit_at (bit_or (bit_or a b) c) j ≡ 0 = omega (arith, last) in
    let third = sym (bit_at_or (bit_or a b) c j) ∙ three in
    let two : bit_at (bit_or a b) j ≡ 0 = omega (arith, third) in
    let second = sym (bit_at_or a b j) ∙ two in
    (omega (arith, second), omega (arith, second), omega (arith, third), omega (arith, last))

module _ (upper lower : TwoWords) (all : ℕ) (same : all ≡ bit_or (bit_or (bit_or upper.north upper.south) lower.north) lower.south) where
  -- a square in whose columns there is no bit
  without-bits : (i : ℕ) → ((column : ℕ) → 4 * i ≤ column → column < 4 * i + 4 → bit_at all (63 - column) ≡ 0) → square_of_words upper lower i ≡ blank 2
  without-bits i none =
      square-blank upper lower i (λ k lt column e. none-of-four upper.north upper.south lower.north lower.south (63 - column)
      (ap (λ n. bit_at n (63 - column)) (sym same) ∙ none column (omega (arith, e)) (omega (arith, e, lt))))

  pub blank-before : all < 2 ^ 64 → (i : ℕ) → i < count_leading_zeros 64 all / 4 → square_of_words upper lower i ≡ blank 2
  blank-before short i before =
      let l = leading_length 64 all short in
      let whole = l.1 in
      without-bits i (λ column from to. bit_at_above all l.0 (63 - column) l.2 (omega (arith, whole, before, to)))

-- as many of the lowest digits as there are trailing zeros make no number
low-zeros : (k n : ℕ) → n % 2 ^ count_trailing_zeros k n ≡ 0
unfolding count_trailing_zeros
low-zeros zero n = omega arith
low-zeros (suc k) n = by (n % 2) refl (low-zeros k (n / 2))
  where
    by : (d : ℕ) → n % 2 ≡ d → n / 2 % 2 ^ count_trailing_zeros k (n / 2) ≡ 0 → n % 2 ^ under d (count_trailing_zeros k (n / 2)) ≡ 0
    by (suc d) odd half = omega arith
    by zero even half =
        let t = count_trailing_zeros k (n / 2) in
        let next : t + 1 ≡ suc t = omega arith in
        let split = mod-pow-add n t 1 in
        subst (λ z. n % 2 ^ z ≡ 0) next (omega (arith, split, half, even))

module _ (upper lower : TwoWords) (all : ℕ) (same : all ≡ bit_or (bit_or (bit_or upper.north upper.south) lower.north) lower.south) where
  pub blank-behind : (i : ℕ) → 16 - count_trailing_zeros 64 all / 4 ≤ i → i < 16 → square_of_words upper lower i ≡ blank 2
  blank-behind i from within =
      let t = count_trailing_zeros 64 all in
      let most = trailing_le 64 all in
      without-bits upper lower all same i (λ column le lt. sym (bit-mod all t (63 - column) (omega (arith, most, from, within, le, lt)))
      ∙ ap (λ n. bit_at n (63 - column)) (low-zeros 64 all) ∙ bit_at-zero (63 - column))

-- the columns of squares without cells are blank
pub blank-columns : (want : ℕ → Tree) (upper lower : TwoWords) (block from after : ℕ) → after ≤ 16
    → ((i : ℕ) → i < 16 → want (16 * block + i) ≡ square_of_words upper lower i)
    → ((i : ℕ) → from ≤ i → i < after → square_of_words upper lower i ≡ blank 2)
    → (c : ℕ) → 16 * block + from ≤ c → c < 16 * block + after → want c ≡ blank 2
blank-columns want upper lower block from after within squares none c le lt =
    let i = c - 16 * block in
    let place : c ≡ 16 * block + i = omega (arith, le) in
    ap want place ∙ squares i (omega (arith, lt, within, le)) ∙ none i (omega (arith, le)) (omega (arith, le, lt))
