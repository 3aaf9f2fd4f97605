-- Eight rows of eight cells as a word: from squares, and of two words by a mask.
use Rattle.std.proofs.Common.{◌≡◌, ℕ, zero, suc, ◌+◌, ◌*◌, ◌-◌, ◌/◌, ◌%◌, ◌^◌, ◌<◌, min, max, ℤ, pos, ◌+ℤ◌, ◌∙◌, ap, arith, if◌then◌else◌, ◌==◌, w64}
use Rattle.std.specs.Int.{bit_at, bit_not}
use Rattle.std.specs.Int.Bits.{bit_and, bit_or}
use Rattle.std.proofs.lemmas.Int.{ints}
use Rattle.std.proofs.lemmas.Nat.Bits.{bit_at-lt, bit_at_and, bit_at_or, bit_at_not, bit_at_cat_low}
use Rattle.life_lanes.specs.Places.{place_in, place_in_leaf}
use Rattle.life_pieces.specs.Bits.{HasSquareBits, HasRows}
use Rattle.life_pieces.specs.Pieces.{step_ahead, IsPiece}
use Rattle.life_pieces.proofs.BandLemmas.{behind}
use Rattle.life_quad.specs.Store.{eight}
use Rattle.life_pieces.proofs.SquareLemmas.{place-small, square-of_piece}

-- ---- four squares of level 2, two by two

module _ (a b c d : ℕ) (lb : b < 65536) (lc : c < 65536) (ld : d < 65536) where
  abbrev together : ℕ
  together = ((a * 65536 + b) * 65536 + c) * 65536 + d

  bit-first : (p : ℕ) → p < 16 → bit_at together (63 - p) ≡ bit_at a (15 - p)
  bit-first p lp =
      behind d ((a * 65536 + b) * 65536 + c) 16 (47 - p) (63 - p) ld (omega (arith, lp))
      ∙ behind c (a * 65536 + b) 16 (31 - p) (47 - p) lc (omega (arith, lp)) ∙ behind b a 16 (15 - p) (31 - p) lb (omega (arith, lp))

  bit-second : (p : ℕ) → p < 16 → bit_at together (63 - (16 + p)) ≡ bit_at b (15 - p)
  bit-second p lp =
      behind d ((a * 65536 + b) * 65536 + c) 16 (31 - p) (63 - (16 + p)) ld (omega (arith, lp))
      ∙ behind c (a * 65536 + b) 16 (15 - p) (31 - p) lc (omega (arith, lp)) ∙ bit_at_cat_low a 16 b (15 - p) (omega arith)

  bit-third : (p : ℕ) → p < 16 → bit_at together (63 - (32 + p)) ≡ bit_at c (15 - p)
  bit-third p lp =
      behind d ((a * 65536 + b) * 65536 + c) 16 (15 - p) (63 - (32 + p)) ld (omega (arith, lp)) ∙ bit_at_cat_low (a * 65536 + b) 16 c (15 - p) (omega arith)

  bit-fourth : (p : ℕ) → p < 16 → bit_at together (63 - (48 + p)) ≡ bit_at d (15 - p)
  bit-fourth p lp =
      let at : 63 - (48 + p) ≡ 15 - p = omega (arith, lp) in
      ap (bit_at together) at ∙ bit_at_cat_low ((a * 65536 + b) * 65536 + c) 16 d (15 - p) (omega arith)

  module _ (cells : ℤ → ℤ → ℕ) (x y : ℤ) (ha : HasSquareBits cells x y a) (hb : HasSquareBits cells (step_ahead x 4) y b)
      (hc : HasSquareBits cells x (step_ahead y 4) c)
      (hd : HasSquareBits cells (step_ahead x 4) (step_ahead y 4) d) where
    -- the cell of one of the four, by its square and its place there
    in-square : (s q r i : ℕ) → s < 2 → q < 2 → r < 4 → i < 4
        → bit_at together (63 - (16 * (2 * s + q) + place_in r i)) ≡ cells (x +ℤ pos (4 * q + i)) (y +ℤ pos (4 * s + r))
    in-square zero zero r i ls lq lr li =
        let at : 63 - (16 * (2 * 0 + 0) + place_in r i) ≡ 63 - place_in r i = omega arith in
        let ex : x +ℤ pos i ≡ x +ℤ pos (4 * 0 + i) = omega (arith, ints) in
        let ey : y +ℤ pos r ≡ y +ℤ pos (4 * 0 + r) = omega (arith, ints) in
        ap (bit_at together) at ∙ bit-first (place_in r i) (place-small r i lr li) ∙ ha r i lr li ∙ (λ j. cells (ex j) (ey j))
    in-square zero (suc zero) r i ls lq lr li =
        let at : 63 - (16 * (2 * 0 + 1) + place_in r i) ≡ 63 - (16 + place_in r i) = omega arith in
        let ex : step_ahead x 4 +ℤ pos i ≡ x +ℤ pos (4 * 1 + i) = omega (arith, ints) in
        let ey : y +ℤ pos r ≡ y +ℤ pos (4 * 0 + r) = omega (arith, ints) in
        ap (bit_at together) at ∙ bit-second (place_in r i) (place-small r i lr li) ∙ hb r i lr li ∙ (λ j. cells (ex j) (ey j))
    in-square (suc zero) zero r i ls lq lr li =
        let at : 63 - (16 * (2 * 1 + 0) + place_in r i) ≡ 63 - (32 + place_in r i) = omega arith in
        let ex : x +ℤ pos i ≡ x +ℤ pos (4 * 0 + i) = omega (arith, ints) in
        let ey : step_ahead y 4 +ℤ pos r ≡ y +ℤ pos (4 * 1 + r) = omega (arith, ints) in
        ap (bit_at together) at ∙ bit-third (place_in r i) (place-small r i lr li) ∙ hc r i lr li ∙ (λ j. cells (ex j) (ey j))
    in-square (suc zero) (suc zero) r i ls lq lr li =
        let at : 63 - (16 * (2 * 1 + 1) + place_in r i) ≡ 63 - (48 + place_in r i) = omega arith in
        let ex : step_ahead x 4 +ℤ pos i ≡ x +ℤ pos (4 * 1 + i) = omega (arith, ints) in
        let ey : step_ahead y 4 +ℤ pos r ≡ y +ℤ pos (4 * 1 + r) = omega (arith, ints) in
        ap (bit_at together) at ∙ bit-fourth (place_in r i) (place-small r i lr li) ∙ hd r i lr li ∙ (λ j. cells (ex j) (ey j))
    in-square (suc (suc s)) q r i ls lq lr li = absurd (omega (arith, ls))
    in-square s (suc (suc q)) r i ls lq lr li = absurd (omega (arith, lq))

    pub rows-of_squares : (rows : ℕ)
        → ((r i : ℕ) → r < 8 → i < 8 → bit_at rows (63 - (8 * r + i)) ≡ bit_at together (63 - place_in_leaf r i))
        → HasRows cells x y rows
    rows-of_squares rows order r i lr li =
        let column : x +ℤ pos (4 * (i / 4) + i % 4) ≡ x +ℤ pos i = omega (arith, ints) in
        let row : y +ℤ pos (4 * (r / 4) + r % 4) ≡ y +ℤ pos r = omega (arith, ints) in
        order r i lr li ∙ in-square (r / 4) (i / 4) (r % 4) (i % 4) (omega (arith, lr)) (omega (arith, li)) (omega arith) (omega arith)
        ∙ (λ j. cells (column j) (row j))

-- a square of level 3 by its cells
pub rows-of_leaf : (cells : ℤ → ℤ → ℕ) (x y : ℤ) (n rows : ℕ) → n < 2 ^ 64 → IsPiece cells x y (eight n)
    → ((r i : ℕ) → r < 8 → i < 8 → bit_at rows (63 - (8 * r + i)) ≡ bit_at n (63 - place_in_leaf r i)) → HasRows cells x y rows
rows-of_leaf cells x y n rows l h order =
    let a = n / 281474976710656 in
    let b = n / 4294967296 % 65536 in
    let c = n / 65536 % 65536 in
    let d = n % 65536 in
    let is : n ≡ ((a * 65536 + b) * 65536 + c) * 65536 + d = omega arith in
    rows-of_squares a b c d (omega arith) (omega arith) (omega arith) cells x y
    (square-of_piece cells x y a (omega (arith, l)) h.0)
    (square-of_piece cells (step_ahead x 4) y b (omega arith) h.1)
    (square-of_piece cells x (step_ahead y 4) c (omega arith) h.2)
    (square-of_piece cells (step_ahead x 4) (step_ahead y 4) d (omega arith) h.3)
    rows (λ r i lr li. order r i lr li ∙ ap (λ m. bit_at m (63 - place_in_leaf r i)) is)

-- ---- two words by a mask

picked-of : (m a b : ℕ) → m < 2 → a < 2 → b < 2 → max (min a m) (min b (1 - m)) ≡ if m == 1 then a else b
picked-of zero a b lm la lb = omega (arith, la, lb)
picked-of (suc zero) a b lm la lb = omega (arith, la, lb)
picked-of (suc (suc m)) a b lm la lb = absurd (omega (arith, lm))

-- a bit of one word or of another, by a mask
pub blended : (mask ones zeros i : ℕ) → mask < 2 ^ 64 → i < 64
    → bit_at (bit_or (bit_and ones mask) (bit_and zeros (bit_not w64 mask))) i ≡ if bit_at mask i == 1 then bit_at ones i else bit_at zeros i
blended mask ones zeros i fits l =
    bit_at_or (bit_and ones mask) (bit_and zeros (bit_not w64 mask)) i
    ∙ (λ j. max (bit_at_and ones mask i j) ((bit_at_and zeros (bit_not w64 mask) i ∙ ap (min (bit_at zeros i)) (bit_at_not w64 mask i fits l)) j))
    ∙ picked-of (bit_at mask i) (bit_at ones i) (bit_at zeros i) (bit_at-lt mask i) (bit_at-lt ones i) (bit_at-lt zeros i)
