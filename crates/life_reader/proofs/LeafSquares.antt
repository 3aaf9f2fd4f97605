-- The squares of level 2 of a leaf, by the rows that are its bytes.
use Rattle.std.proofs.Common.{◌≡◌, ◌+◌, ◌-◌, ◌*◌, ◌/◌, ◌%◌, ◌^◌, ◌<◌, ◌≤◌, ℕ, zero, suc, List, Bool, true, w64, refl, sym, ap, ◌∙◌, arith, slice_index, ◌==◌}
use Rattle.std.specs.Int.{bit_at, to_be_bytes}
use Rattle.life_base.specs.Tree.{Tree, point, quad}
use Rattle.life_base.proofs.RoundTrip.{all_below, all_below_at}
use Rattle.life_lanes.specs.Places.{place_in_leaf}
use Rattle.life_lanes.proofs.PlaceLemmas.{equal}
use Rattle.life_lanes.proofs.WordLemmas.{bit-mod, bit-shr}
use Rattle.life_mc.specs.Cells.{leaf_cell}
use Rattle.life_mc.specs.Squares.{tree_at}
use Rattle.life_quad.specs.Store.{two, four}
use Rattle.life_pattern.specs.Bits.{square_of_bits}
use Rattle.life_pattern.proofs.Bits.{sixteenth, small}

-- ---- a word and its bytes

-- a byte of a word, the highest first
byte-of : (n r : ℕ) → r < 8 → slice_index (to_be_bytes w64 n) r ≡ n / 2 ^ (8 * (7 - r)) % 2 ^ 8
byte-of n zero l = refl
byte-of n (suc zero) l = refl
byte-of n (suc (suc zero)) l = refl
byte-of n (suc (suc (suc zero))) l = refl
byte-of n (suc (suc (suc (suc zero)))) l = refl
byte-of n (suc (suc (suc (suc (suc zero))))) l = refl
byte-of n (suc (suc (suc (suc (suc (suc zero)))))) l = refl
byte-of n (suc (suc (suc (suc (suc (suc (suc zero))))))) l = omega arith
byte-of n (suc (suc (suc (suc (suc (suc (suc (suc r)))))))) l = absurd (omega (arith, l))

-- a cell of the rows that are the bytes of a word
pub cell-bit : (rows : List ℕ) (n r i : ℕ) → to_be_bytes w64 n ≡ rows → r < 8 → i < 8 → bit_at n (63 - (8 * r + i)) ≡ leaf_cell rows i r
cell-bit rows n r i e lr li =
    let k = 8 * (7 - r) in
    let at : 7 - i + k ≡ 63 - (8 * r + i) = omega (arith, lr, li) in
    let byte : slice_index rows r ≡ n / 2 ^ k % 2 ^ 8 = ap (λ t. slice_index t r) (sym e) ∙ byte-of n r lr in
    sym (ap (λ v. v / 2 ^ (7 - i) % 2) byte ∙ bit-mod (n / 2 ^ k) 8 (7 - i) (omega arith) ∙ bit-shr n k (7 - i) ∙ ap (bit_at n) at)

-- ---- from rows to squares of level 2

-- the column and the row of each of the sixteen cells of a square of level 2, in the order of its bits
abbrev column_of : ℕ → ℕ
column_of p = 2 * (p / 4 % 2) + p % 2

abbrev row_of : ℕ → ℕ
row_of p = 2 * (p / 8) + p / 2 % 2

-- the square of level 2 of these states, in the order of its bits
abbrev square : (ℕ → ℕ) → Tree
square s =
    quad (quad (point (s 0)) (point (s 1)) (point (s 2)) (point (s 3))) (quad (point (s 4)) (point (s 5)) (point (s 6)) (point (s 7)))
    (quad (point (s 8)) (point (s 9)) (point (s 10)) (point (s 11))) (quad (point (s 12)) (point (s 13)) (point (s 14)) (point (s 15)))

two-of : (d a b c e : ℕ) → d / 8 ≡ a → d / 4 % 2 ≡ b → d / 2 % 2 ≡ c → d % 2 ≡ e → two d ≡ quad (point a) (point b) (point c) (point e)
two-of d a b c e h i j k = λ t. quad (point (h t)) (point (i t)) (point (j t)) (point (k t))

four-of : (q : ℕ) (s : ℕ → ℕ) → q < 65536 → ((p : ℕ) → p < 16 → bit_at q (15 - p) ≡ s p) → four q ≡ square s
four-of q s l h =
    let nw = two-of (q / 4096) (s 0) (s 1) (s 2) (s 3) (omega (arith, l, h 0 (omega arith))) (omega (arith, h 1 (omega arith)))
    (omega (arith, h 2 (omega arith))) (omega (arith, h 3 (omega arith))) in
    let ne = two-of (q / 256 % 16) (s 4) (s 5) (s 6) (s 7) (omega (arith, h 4 (omega arith))) (omega (arith, h 5 (omega arith)))
    (omega (arith, h 6 (omega arith))) (omega (arith, h 7 (omega arith))) in
    let sw = two-of (q / 16 % 16) (s 8) (s 9) (s 10) (s 11) (omega (arith, h 8 (omega arith))) (omega (arith, h 9 (omega arith)))
    (omega (arith, h 10 (omega arith))) (omega (arith, h 11 (omega arith))) in
    let se = two-of (q % 16) (s 12) (s 13) (s 14) (s 15) (omega (arith, h 12 (omega arith))) (omega (arith, h 13 (omega arith)))
    (omega (arith, h 14 (omega arith))) (omega (arith, h 15 (omega arith))) in
    λ t. quad (nw t) (ne t) (sw t) (se t)

-- a place of the square whose first cell is in this column and row of a leaf, and whose lowest bit is this one of its word
abbrev quarter_test : ℕ → ℕ → ℕ → ℕ → Bool
quarter_test x y k p = 63 - place_in_leaf (y + row_of p) (x + column_of p) == 15 - p + k

module _ (rows : List ℕ) (cells : ℕ) (bits : (r i : ℕ) → r < 8 → i < 8 → bit_at cells (63 - place_in_leaf r i) ≡ leaf_cell rows i r) where
  quarter-of : (x y k : ℕ) → x ≤ 4 → y ≤ 4 → all_below 16 (quarter_test x y k) ≡ true
      → square_of_bits cells k ≡ square (λ p. leaf_cell rows (x + column_of p) (y + row_of p))
  quarter-of x y k lx ly t =
      four-of (cells / 2 ^ k % 2 ^ 16) (λ p. leaf_cell rows (x + column_of p) (y + row_of p)) (small (cells / 2 ^ k)) (λ p l.
      let at : 63 - place_in_leaf (y + row_of p) (x + column_of p) ≡ 15 - p + k = equal _ _ (all_below_at 16 (quarter_test x y k) p t l) in
      sixteenth cells k p ∙ ap (bit_at cells) (sym at)
      ∙ bits (y + row_of p) (x + column_of p) (omega (arith, ly, l)) (omega (arith, lx, l)))

  pub leaf-nw : square_of_bits cells 48 ≡ tree_at (leaf_cell rows) 2 0 0
  leaf-nw = quarter-of 0 0 48 (omega arith) (omega arith) refl

  pub leaf-ne : square_of_bits cells 32 ≡ tree_at (leaf_cell rows) 2 4 0
  leaf-ne = quarter-of 4 0 32 (omega arith) (omega arith) refl

  pub leaf-sw : square_of_bits cells 16 ≡ tree_at (leaf_cell rows) 2 0 4
  leaf-sw = quarter-of 0 4 16 (omega arith) (omega arith) refl

  pub leaf-se : square_of_bits cells 0 ≡ tree_at (leaf_cell rows) 2 4 4
  leaf-se = quarter-of 4 4 0 (omega arith) (omega arith) refl
