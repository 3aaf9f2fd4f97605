-- The rows of a leaf in a word, by its squares of level 2.
use Rattle.std.proofs.Common.{◌≡◌, ◌+◌, ◌-◌, ◌*◌, ◌/◌, ◌%◌, ◌^◌, ◌<◌, ℕ, zero, suc, List, [], ◌∷◌, ◌++◌, Bool, true, ◌&&◌, w64, refl, sym, ap, ◌∙◌, arith, ◌==◌}
use Rattle.std.specs.Int.{bit_at, to_be_bytes}
use Rattle.life_base.proofs.RoundTrip.{all_below, all_below_at}
use Rattle.life_base.proofs.Basics.{left_of_and, right_of_and}
use Rattle.life_lanes.specs.Places.{place_in, place_in_leaf}
use Rattle.life_lanes.proofs.PlaceLemmas.{equal}
use Rattle.life_lanes.proofs.WordLemmas.{bit-shr}
use Rattle.life_quad.specs.Store.{four}
use Rattle.life_writer.specs.Rows.{row_of_four, rows_side_by_side}
use Rattle.life_pattern.specs.Bits.{square_of_bits}
use Rattle.life_pattern.proofs.Bits.{sixteenth, small}

-- four numbers of sixteen bits in a word
pub in-word : (a b c d : ℕ) → a < 65536 → b < 65536 → c < 65536 → d < 65536 → (let word = (a * 65536 + b) * 4294967296 + (c * 65536 + d) in
    (a ≡ word / 2 ^ 48 % 2 ^ 16) × (b ≡ word / 2 ^ 32 % 2 ^ 16) × (c ≡ word / 2 ^ 16 % 2 ^ 16) × (d ≡ word / 2 ^ 0 % 2 ^ 16))
in-word a b c d la lb lc ld = (omega (arith, la, lb, lc, ld), omega (arith, la, lb, lc, ld), omega (arith, la, lb, lc, ld), omega (arith, la, lb, lc, ld))

-- ---- from squares of level 2 to rows

-- a byte by its bits
byte-sum : (m : ℕ) → m % 256 ≡ 128 * (m / 128 % 2) + 64 * (m / 64 % 2) + 32 * (m / 32 % 2) + 16 * (m / 16 % 2) + 8 * (m / 8 % 2) + 4 * (m / 4 % 2)
    + 2 * (m / 2 % 2) + m % 2
byte-sum m = omega arith

-- a row of a square of level 2 by the bits of its cells
row-is : (q y : ℕ) → q < 65536 → y < 4 → row_of_four (four q) y ≡ 8 * bit_at q (15 - place_in y 0) + 4 * bit_at q (15 - place_in y 1)
    + 2 * bit_at q (15 - place_in y 2) + bit_at q (15 - place_in y 3)
row-is q zero l h = omega (arith, l)
row-is q (suc zero) l h = omega (arith, l)
row-is q (suc (suc zero)) l h = omega (arith, l)
row-is q (suc (suc (suc zero))) l h = omega (arith, l)
row-is q (suc (suc (suc (suc y)))) l h = absurd (omega (arith, h))

of_halves : (x a b c d e f g h i j k l m n o p ra rb : ℕ) → x ≡ 128 * a + 64 * b + 32 * c + 16 * d + 8 * e + 4 * f + 2 * g + h
    → a ≡ i → b ≡ j → c ≡ k → d ≡ l → e ≡ m → f ≡ n → g ≡ o → h ≡ p
    → ra ≡ 8 * i + 4 * j + 2 * k + l → rb ≡ 8 * m + 4 * n + 2 * o + p → x ≡ 16 * ra + rb
of_halves x a b c d e f g h i j k l m n o p ra rb sum ea eb ec ed ee ef eg eh west east = omega
    (arith, sum, ea, eb, ec, ed, ee, ef, eg, eh, west, east)

-- a place of a row in the north or in the south, by its western and by its eastern square
abbrev place_test : ℕ → ℕ → ℕ → Bool
place_test half y i =
    (63 - place_in_leaf (4 * half + y) i == 15 - place_in y i + (48 - 32 * half))
    && (63 - place_in_leaf (4 * half + y) (4 + i) == 15 - place_in y i + (32 - 32 * half))

each_place : all_below 2 (λ half. all_below 4 (λ y. all_below 4 (place_test half y))) ≡ true
each_place = refl

module _ (word cells : ℕ) (order : (r i : ℕ) → r < 8 → i < 8 → bit_at word (63 - (8 * r + i)) ≡ bit_at cells (63 - place_in_leaf r i)) where
  module _ (half y : ℕ) (lh : half < 2) (ly : y < 4) where
    tested : (i : ℕ) → i < 4 → place_test half y i ≡ true
    tested i li =
        all_below_at 4 (place_test half y) i
        (all_below_at 4 (λ y. all_below 4 (place_test half y)) y
        (all_below_at 2 (λ half. all_below 4 (λ y. all_below 4 (place_test half y))) half each_place lh) ly) li

    abbrev row : ℕ
    row = 4 * half + y

    bit-of : (i : ℕ) → i < 8 → word / 2 ^ (8 * (7 - row)) / 2 ^ (7 - i) % 2 ≡ bit_at cells (63 - place_in_leaf row i)
    bit-of i li =
        let at : 7 - i + 8 * (7 - (4 * half + y)) ≡ 63 - (8 * (4 * half + y) + i) = omega (arith, lh, ly, li) in
        bit-shr word (8 * (7 - (4 * half + y))) (7 - i) ∙ ap (bit_at word) at ∙ order (4 * half + y) i (omega (arith, lh, ly)) li

    western : (i : ℕ) → i < 4 → bit_at cells (63 - place_in_leaf row i) ≡ bit_at (cells / 2 ^ (48 - 32 * half) % 2 ^ 16) (15 - place_in y i)
    western i li = ap (bit_at cells) (equal _ _ (left_of_and _ _ (tested i li))) ∙ sym (sixteenth cells (48 - 32 * half) (place_in y i))

    eastern : (i : ℕ) → i < 4 → bit_at cells (63 - place_in_leaf row (4 + i)) ≡ bit_at (cells / 2 ^ (32 - 32 * half) % 2 ^ 16) (15 - place_in y i)
    eastern i li = ap (bit_at cells) (equal _ _ (right_of_and _ _ (tested i li))) ∙ sym (sixteenth cells (32 - 32 * half) (place_in y i))

    row-of_squares : word / 2 ^ (8 * (7 - row)) % 256 ≡ 16 * row_of_four (square_of_bits cells (48 - 32 * half)) y
        + row_of_four (square_of_bits cells (32 - 32 * half)) y
    row-of_squares =
        of_halves _ _ _ _ _ _ _ _ _ _ _ _ _ _ _ _ _ _ _ (byte-sum (word / 2 ^ (8 * (7 - row))))
        (bit-of 0 (omega arith) ∙ western 0 (omega arith)) (bit-of 1 (omega arith) ∙ western 1 (omega arith))
        (bit-of 2 (omega arith) ∙ western 2 (omega arith)) (bit-of 3 (omega arith) ∙ western 3 (omega arith))
        (bit-of 4 (omega arith) ∙ eastern 0 (omega arith)) (bit-of 5 (omega arith) ∙ eastern 1 (omega arith))
        (bit-of 6 (omega arith) ∙ eastern 2 (omega arith)) (lowest _ _ (bit-of 7 (omega arith)) ∙ eastern 3 (omega arith))
        (row-is (cells / 2 ^ (48 - 32 * half) % 2 ^ 16) y (small _) ly) (row-is (cells / 2 ^ (32 - 32 * half) % 2 ^ 16) y (small _) ly)
      where
        lowest : (m b : ℕ) → m / 2 ^ 0 % 2 ≡ b → m % 2 ≡ b
        lowest m b h = omega (arith, h)

  eight_bytes : {p0 p1 p2 p3 p4 p5 p6 p7 q0 q1 q2 q3 q4 q5 q6 q7 : ℕ} → p0 ≡ q0 → p1 ≡ q1 → p2 ≡ q2 → p3 ≡ q3 → p4 ≡ q4 → p5 ≡ q5 → p6 ≡ q6 → p7 ≡ q7
      → ◌≡◌ {A = List ℕ} (p0 ∷ p1 ∷ p2 ∷ p3 ∷ p4 ∷ p5 ∷ p6 ∷ p7 ∷ []) (q0 ∷ q1 ∷ q2 ∷ q3 ∷ q4 ∷ q5 ∷ q6 ∷ q7 ∷ [])
  eight_bytes a b c d e f g h = cc

  whole : (m : ℕ) → m % 256 ≡ m / 2 ^ 0 % 256
  whole m = omega arith

  pub rows-of_word : to_be_bytes w64 word ≡ rows_side_by_side (square_of_bits cells 48) (square_of_bits cells 32)
      ++ rows_side_by_side (square_of_bits cells 16) (square_of_bits cells 0)
  rows-of_word =
      eight_bytes
      (row-of_squares 0 0 (omega arith) (omega arith)) (row-of_squares 0 1 (omega arith) (omega arith))
      (row-of_squares 0 2 (omega arith) (omega arith)) (row-of_squares 0 3 (omega arith) (omega arith))
      (row-of_squares 1 0 (omega arith) (omega arith)) (row-of_squares 1 1 (omega arith) (omega arith))
      (row-of_squares 1 2 (omega arith) (omega arith)) (whole word ∙ row-of_squares 1 3 (omega arith) (omega arith))
