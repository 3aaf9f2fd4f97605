-- Words put together: four rows of sixteen cells from squares.
use Rattle.std.proofs.Common.{◌≡◌, ℕ, zero, suc, ◌+◌, ◌*◌, ◌-◌, ◌/◌, ◌%◌, ◌^◌, ◌<◌, ℤ, pos, ◌+ℤ◌, ◌∙◌, ap, arith}
use Rattle.std.specs.Int.{bit_at}
use Rattle.std.proofs.lemmas.Int.{ints}
use Rattle.std.proofs.lemmas.Nat.Bits.{bit_at_cat_low, bit_at_cat_high}
use Rattle.life_lanes.specs.Places.{place_in}
use Rattle.life_pieces.specs.Bits.{HasSquareBits, HasBand}
use Rattle.life_pieces.specs.Pieces.{step_ahead}
use Rattle.life_pieces.proofs.SquareLemmas.{place-small}

-- the bits of a word after another one
pub behind : (low high n m i : ℕ) → low < 2 ^ n → i ≡ n + m → bit_at (high * 2 ^ n + low) i ≡ bit_at high m
behind low high n m i small is =
    let back : i - n ≡ m = omega arith in
    bit_at_cat_high high n low i small (omega arith) ∙ ap (bit_at high) back

module _ (a b c d : ℕ) (lb : b < 65536) (lc : c < 65536) (ld : d < 65536) where
  abbrev together : ℕ
  together = ((a * 65536 + b) * 65536 + c) * 65536 + d

  abbrev one_of : ℕ → ℕ
  one_of zero = a
  one_of (suc zero) = b
  one_of (suc (suc zero)) = c
  one_of (suc (suc (suc q))) = d

  bit-of_one : (q p : ℕ) → q < 4 → p < 16 → bit_at together (63 - (16 * q + p)) ≡ bit_at (one_of q) (15 - p)
  bit-of_one zero p lq lp =
      behind d ((a * 65536 + b) * 65536 + c) 16 (47 - p) (63 - (16 * 0 + p)) ld (omega (arith, lp))
      ∙ behind c (a * 65536 + b) 16 (31 - p) (47 - p) lc (omega (arith, lp)) ∙ behind b a 16 (15 - p) (31 - p) lb (omega (arith, lp))
  bit-of_one (suc zero) p lq lp =
      behind d ((a * 65536 + b) * 65536 + c) 16 (31 - p) (63 - (16 * 1 + p)) ld (omega (arith, lp))
      ∙ behind c (a * 65536 + b) 16 (15 - p) (31 - p) lc (omega (arith, lp)) ∙ bit_at_cat_low a 16 b (15 - p) (omega arith)
  bit-of_one (suc (suc zero)) p lq lp =
      behind d ((a * 65536 + b) * 65536 + c) 16 (15 - p) (63 - (16 * 2 + p)) ld (omega (arith, lp)) ∙ bit_at_cat_low (a * 65536 + b) 16 c (15 - p) (omega arith)
  bit-of_one (suc (suc (suc zero))) p lq lp =
      let at : 63 - (16 * 3 + p) ≡ 15 - p = omega (arith, lp) in
      ap (bit_at together) at ∙ bit_at_cat_low ((a * 65536 + b) * 65536 + c) 16 d (15 - p) (omega arith)
  bit-of_one (suc (suc (suc (suc q)))) p lq lp = absurd (omega (arith, lq))

  module _ (cells : ℤ → ℤ → ℕ) (x y : ℤ) (ha : HasSquareBits cells x y a) (hb : HasSquareBits cells (step_ahead x 4) y b)
      (hc : HasSquareBits cells (step_ahead x 8) y c)
      (hd : HasSquareBits cells (step_ahead x 12) y d) where
    in-square : (r q i : ℕ) → r < 4 → q < 4 → i < 4 → bit_at (one_of q) (15 - place_in r i) ≡ cells (x +ℤ pos (4 * q + i)) (y +ℤ pos r)
    in-square r zero i lr lq li = let at : x +ℤ pos i ≡ x +ℤ pos (4 * 0 + i) = omega (arith, ints) in ha r i lr li ∙ ap (λ z. cells z (y +ℤ pos r)) at
    in-square r (suc zero) i lr lq li =
        let at : step_ahead x 4 +ℤ pos i ≡ x +ℤ pos (4 * 1 + i) = omega (arith, ints) in hb r i lr li ∙ ap (λ z. cells z (y +ℤ pos r)) at
    in-square r (suc (suc zero)) i lr lq li =
        let at : step_ahead x 8 +ℤ pos i ≡ x +ℤ pos (4 * 2 + i) = omega (arith, ints) in hc r i lr li ∙ ap (λ z. cells z (y +ℤ pos r)) at
    in-square r (suc (suc (suc zero))) i lr lq li =
        let at : step_ahead x 12 +ℤ pos i ≡ x +ℤ pos (4 * 3 + i) = omega (arith, ints) in hd r i lr li ∙ ap (λ z. cells z (y +ℤ pos r)) at
    in-square r (suc (suc (suc (suc q)))) i lr lq li = absurd (omega (arith, lq))

    pub band-of_squares : (rows : ℕ)
        → ((r q i : ℕ) → r < 4 → q < 4 → i < 4 → bit_at rows (63 - (16 * r + 4 * q + i)) ≡ bit_at together (63 - (16 * q + place_in r i)))
        → HasBand cells x y rows
    band-of_squares rows order r i lr li =
        let q = i / 4 in
        let k = i % 4 in
        let lq : q < 4 = omega (arith, li) in
        let lk : k < 4 = omega arith in
        let at : 63 - (16 * r + i) ≡ 63 - (16 * r + 4 * q + k) = omega arith in
        let column : x +ℤ pos (4 * q + k) ≡ x +ℤ pos i = omega (arith, ints) in
        ap (bit_at rows) at ∙ order r q k lr lq lk ∙ bit-of_one q (place_in r k) lq (place-small r k lr lk) ∙ in-square r q k lr lq lk
        ∙ ap (λ z. cells z (y +ℤ pos r)) column
