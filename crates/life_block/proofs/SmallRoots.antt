-- A square of level 2 or 3 about the middle of the plane, in words of eight rows of eight cells.
use Rattle.std.proofs.Common.{◌≡◌, ℕ, ◌+◌, ◌*◌, ◌-◌, ◌/◌, ◌%◌, ◌^◌, ◌<◌, ◌≤◌, inl, inr, ℤ, pos, neg_ℤ, ◌+ℤ◌, ◌≤ℤ◌, refl, sym, ◌∙◌, ap, arith}
use Rattle.std.specs.Int.{bit_at}
use Rattle.std.proofs.lemmas.Int.{ints}
use Rattle.std.proofs.lemmas.Bool.{cases_lt}
use Rattle.std.proofs.lemmas.Nat.Bits.{bit_at-zero, bit_at_above}
use Rattle.life_base.specs.Tree.{tree_cell, IsFull}
use Rattle.life_quad.specs.Store.{two, four, eight}
use Rattle.life_lanes.specs.Places.{place_in_leaf}
use Rattle.life_lanes.proofs.WordLemmas.{bit-shr}
use Rattle.life_pieces.specs.declared.grid.Three.{Three}
use Rattle.life_pieces.specs.Bits.{HasSquareBits, HasRows}
use Rattle.life_block.specs.Bits.{AreNineRows, AreFourRows, AreSixteenRows}
use Rattle.life_pieces.specs.Pieces.{IsPiece, step_ahead, four_of}
use Rattle.life_pieces.proofs.LeafWordLemmas.{rows-of_squares}
use Rattle.life_pieces.proofs.RootLemmas.{IsAlone, alone-root, piece-of_root}
use Rattle.life_pieces.proofs.SquareLemmas.{square-of_piece}

-- squares of the states 0 and 1 are full
full-two : (n : ℕ) → n < 16 → IsFull (two n)
full-two n l = (omega (arith, l), omega arith, omega arith, omega arith, refl, refl, refl)

pub full-four : (n : ℕ) → n < 65536 → IsFull (four n)
full-four n l =
    (full-two _ (omega (arith, l)), full-two _ (omega arith), full-two _ (omega arith), full-two _ (omega arith), refl, refl, refl)

pub full-eight : (n : ℕ) → n < 2 ^ 64 → IsFull (eight n)
full-eight n l =
    (full-four _ (omega (arith, l)), full-four _ (omega arith), full-four _ (omega arith), full-four _ (omega arith), refl, refl, refl)

-- three words side by side
abbrev pub three_of : {T : Type 0} → T → T → T → Three T
three_of a b c = record { before = a; here = b; after = c }

-- the word has the bits of another one, which is a leaf by its quarters, row by row
abbrev pub IsByRows : ℕ → ℕ → Type 0
IsByRows leaf rows = (r i : ℕ) → r < 8 → i < 8 → bit_at rows (63 - (8 * r + i)) ≡ bit_at leaf (63 - place_in_leaf r i)

-- no cell beside the square
module _ (f : ℤ → ℤ → ℕ) (start : ℤ) (half : ℕ) (alone : IsAlone f start half) where
  abbrev end : ℤ
  end = step_ahead (step_ahead start half) half

  rows-west : (x y : ℤ) → step_ahead x 8 ≤ℤ start → HasRows f x y 0
  rows-west x y l r i lr li = bit_at-zero (63 - (8 * r + i)) ∙ sym (alone.west (x +ℤ pos i) (y +ℤ pos r) (omega (arith, ints, l, li)))

  rows-east : (x y : ℤ) → end ≤ℤ x → HasRows f x y 0
  rows-east x y l r i lr li = bit_at-zero (63 - (8 * r + i)) ∙ sym (alone.east (x +ℤ pos i) (y +ℤ pos r) (omega (arith, ints, l)))

  rows-north : (x y : ℤ) → step_ahead y 8 ≤ℤ start → HasRows f x y 0
  rows-north x y l r i lr li = bit_at-zero (63 - (8 * r + i)) ∙ sym (alone.north (x +ℤ pos i) (y +ℤ pos r) (omega (arith, ints, l, lr)))

  rows-south : (x y : ℤ) → end ≤ℤ y → HasRows f x y 0
  rows-south x y l r i lr li = bit_at-zero (63 - (8 * r + i)) ∙ sym (alone.south (x +ℤ pos i) (y +ℤ pos r) (omega (arith, ints, l)))

  square-west : (x y : ℤ) → step_ahead x 4 ≤ℤ start → HasSquareBits f x y 0
  square-west x y l r i lr li = bit_at-zero _ ∙ sym (alone.west (x +ℤ pos i) (y +ℤ pos r) (omega (arith, ints, l, li)))

  square-east : (x y : ℤ) → end ≤ℤ x → HasSquareBits f x y 0
  square-east x y l r i lr li = bit_at-zero _ ∙ sym (alone.east (x +ℤ pos i) (y +ℤ pos r) (omega (arith, ints, l)))

  square-north : (x y : ℤ) → step_ahead y 4 ≤ℤ start → HasSquareBits f x y 0
  square-north x y l r i lr li = bit_at-zero _ ∙ sym (alone.north (x +ℤ pos i) (y +ℤ pos r) (omega (arith, ints, l, lr)))

  square-south : (x y : ℤ) → end ≤ℤ y → HasSquareBits f x y 0
  square-south x y l r i lr li = bit_at-zero _ ∙ sym (alone.south (x +ℤ pos i) (y +ℤ pos r) (omega (arith, ints, l)))

-- ---- level 2

-- the first column and row of the square
abbrev two_back : ℤ
two_back = neg_ℤ (pos 2)

module _ (f : ℤ → ℤ → ℕ) (alone : IsAlone f two_back 2) (n rows : ℕ) (small : n < 65536) (fits : rows < 2 ^ 64)
    (by_rows : IsByRows (n * 2 ^ 48 % 2 ^ 64) rows) (square : HasSquareBits f two_back two_back n) where
  -- eight rows that begin with the square
  rows_from : HasRows f two_back two_back rows
  rows_from =
      let whole : n * 2 ^ 48 % 2 ^ 64 ≡ ((n * 65536 + 0) * 65536 + 0) * 65536 + 0 = omega (arith, small) in
      rows-of_squares n 0 0 0 (omega arith) (omega arith) (omega arith) f two_back two_back square
      (square-east f two_back 2 alone (pos 2) two_back (omega (arith, ints)))
      (square-south f two_back 2 alone two_back (pos 2) (omega (arith, ints)))
      (square-south f two_back 2 alone (pos 2) (pos 2) (omega (arith, ints)))
      rows (λ r i lr li. by_rows r i lr li ∙ ap (λ m. bit_at m (63 - place_in_leaf r i)) whole)

  -- where the end of the row before is, which is east of the square
  before_row : (r i : ℕ) → 2 ≤ r → r < 8 → i < 2 → bit_at rows (63 - (8 * r + i) + 18) ≡ 0
  before_row r i south lr west = elim (cases_lt r 3) [
    | inl first ↦ bit_at_above rows 64 (63 - (8 * r + i) + 18) fits (omega (arith, south, first, west))
    | inr later ↦
        (let at : 63 - (8 * r + i) + 18 ≡ 63 - (8 * (r - 3) + (i + 6)) = omega (arith, lr, later, west) in
        ap (bit_at rows) at ∙ rows_from (r - 3) (i + 6) (omega (arith, lr)) (omega (arith, west))
        ∙ alone.east (two_back +ℤ pos (i + 6)) (two_back +ℤ pos (r - 3)) (omega (arith, ints)))
  ]

  -- those that begin two rows and two columns before it
  rows_before : HasRows f (neg_ℤ (pos 4)) (neg_ℤ (pos 4)) (rows / 2 ^ 18)
  rows_before r i lr li = bit-shr rows 18 (63 - (8 * r + i)) ∙ elim (cases_lt r 2) [
    | inl north ↦
        bit_at_above rows 64 (63 - (8 * r + i) + 18) fits (omega (arith, north, li))
        ∙ sym (alone.north (neg_ℤ (pos 4) +ℤ pos i) (neg_ℤ (pos 4) +ℤ pos r) (omega (arith, ints, north)))
    | inr south ↦ elim (cases_lt i 2) [
      | inl west ↦ before_row r i south lr west ∙ sym (alone.west (neg_ℤ (pos 4) +ℤ pos i) (neg_ℤ (pos 4) +ℤ pos r) (omega (arith, ints, west)))
      | inr east ↦
          (let at : 63 - (8 * r + i) + 18 ≡ 63 - (8 * (r - 2) + (i - 2)) = omega (arith, lr, li, south, east) in
          let column : two_back +ℤ pos (i - 2) ≡ neg_ℤ (pos 4) +ℤ pos i = omega (arith, ints, east) in
          let row : two_back +ℤ pos (r - 2) ≡ neg_ℤ (pos 4) +ℤ pos r = omega (arith, ints, south) in
          ap (bit_at rows) at ∙ rows_from (r - 2) (i - 2) (omega (arith, lr)) (omega (arith, li)) ∙ (λ j. f (column j) (row j)))
    ]
  ]

  nine_around : AreNineRows f 8 (neg_ℤ (pos 4)) (neg_ℤ (pos 4)) (three_of (three_of 0 0 0) (three_of 0 (rows / 2 ^ 18) 0) (three_of 0 0 0))
  nine_around =
      let north : (x : ℤ) → HasRows f x (neg_ℤ (pos 12)) 0 = (λ x. rows-north f two_back 2 alone x (neg_ℤ (pos 12)) (omega (arith, ints))) in
      let south : (x : ℤ) → HasRows f x (pos 4) 0 = (λ x. rows-south f two_back 2 alone x (pos 4) (omega (arith, ints))) in
      record {
        before = record { before = north (neg_ℤ (pos 12)); here = north (neg_ℤ (pos 4)); after = north (pos 4) };
        here = record {
          before = rows-west f two_back 2 alone (neg_ℤ (pos 12)) (neg_ℤ (pos 4)) (omega (arith, ints));
          here = rows_before;
          after = rows-east f two_back 2 alone (pos 4) (neg_ℤ (pos 4)) (omega (arith, ints));
        };
        after = record { before = south (neg_ℤ (pos 12)); here = south (neg_ℤ (pos 4)); after = south (pos 4) };
      }

pub nine-of_four : (n rows : ℕ) → n < 65536 → rows < 2 ^ 64 → IsByRows (n * 2 ^ 48 % 2 ^ 64) rows
    → AreNineRows (tree_cell (four n)) 8 (neg_ℤ (pos 4)) (neg_ℤ (pos 4))
    (three_of (three_of 0 0 0) (three_of 0 (rows / 2 ^ 18) 0) (three_of 0 0 0))
nine-of_four n rows small fits by_rows =
    nine_around (tree_cell (four n)) (alone-root (four n)) n rows small fits by_rows
    (square-of_piece (tree_cell (four n)) two_back two_back n small (piece-of_root (four n) (full-four n small) (omega arith)))

-- ---- level 3

-- the first column and row of the square, and of the sixteen
abbrev four_back : ℤ
four_back = neg_ℤ (pos 4)

abbrev eight_back : ℤ
eight_back = neg_ℤ (pos 8)

module _ (f : ℤ → ℤ → ℕ) (alone : IsAlone f four_back 4) where
  -- rows and squares without a cell
  none_north : (x : ℤ) → HasSquareBits f x eight_back 0
  none_north x = square-north f four_back 4 alone x eight_back (omega (arith, ints))

  none_south : (x : ℤ) → HasSquareBits f x (pos 4) 0
  none_south x = square-south f four_back 4 alone x (pos 4) (omega (arith, ints))

  none_west : (y : ℤ) → HasSquareBits f eight_back y 0
  none_west y = square-west f four_back 4 alone eight_back y (omega (arith, ints))

  none_east : (y : ℤ) → HasSquareBits f (pos 4) y 0
  none_east y = square-east f four_back 4 alone (pos 4) y (omega (arith, ints))

  -- each quarter in a corner of a square of level 3
  module _ (leaf rows a : ℕ) (by_rows : IsByRows leaf rows) where
    rows_nw : leaf ≡ a → HasSquareBits f four_back four_back a → a < 65536 → HasRows f eight_back eight_back rows
    rows_nw is square small =
        let whole : leaf ≡ ((0 * 65536 + 0) * 65536 + 0) * 65536 + a = omega (arith, is) in
        rows-of_squares 0 0 0 a (omega arith) (omega arith) small f eight_back eight_back (none_north eight_back) (none_north four_back)
        (none_west four_back) square
        rows (λ r i lr li. by_rows r i lr li ∙ ap (λ m. bit_at m (63 - place_in_leaf r i)) whole)

    rows_ne : leaf ≡ a * 65536 → HasSquareBits f (pos 0) four_back a → a < 65536 → HasRows f (pos 0) eight_back rows
    rows_ne is square small =
        let whole : leaf ≡ ((0 * 65536 + 0) * 65536 + a) * 65536 + 0 = omega (arith, is) in
        rows-of_squares 0 0 a 0 (omega arith) small (omega arith) f (pos 0) eight_back (none_north (pos 0)) (none_north (pos 4)) square
        (none_east four_back)
        rows (λ r i lr li. by_rows r i lr li ∙ ap (λ m. bit_at m (63 - place_in_leaf r i)) whole)

    rows_sw : leaf ≡ a * 65536 * 65536 → HasSquareBits f four_back (pos 0) a → a < 65536 → HasRows f eight_back (pos 0) rows
    rows_sw is square small =
        let whole : leaf ≡ ((0 * 65536 + a) * 65536 + 0) * 65536 + 0 = omega (arith, is) in
        rows-of_squares 0 a 0 0 small (omega arith) (omega arith) f eight_back (pos 0) (none_west (pos 0)) square (none_south eight_back)
        (none_south four_back)
        rows (λ r i lr li. by_rows r i lr li ∙ ap (λ m. bit_at m (63 - place_in_leaf r i)) whole)

    rows_se : leaf ≡ a * 65536 * 65536 * 65536 → HasSquareBits f (pos 0) (pos 0) a → HasRows f (pos 0) (pos 0) rows
    rows_se is square =
        let whole : leaf ≡ ((a * 65536 + 0) * 65536 + 0) * 65536 + 0 = omega (arith, is) in
        rows-of_squares a 0 0 0 (omega arith) (omega arith) (omega arith) f (pos 0) (pos 0) square (none_east (pos 0)) (none_south (pos 0))
        (none_south (pos 4))
        rows (λ r i lr li. by_rows r i lr li ∙ ap (λ m. bit_at m (63 - place_in_leaf r i)) whole)

  -- a row of sixteen without a cell, and one with two words in the middle
  no_north : AreFourRows f eight_back (neg_ℤ (pos 16)) (four_of 0 0 0 0)
  no_north =
      let at : (x : ℤ) → HasRows f x (neg_ℤ (pos 16)) 0 = (λ x. rows-north f four_back 4 alone x (neg_ℤ (pos 16)) (omega (arith, ints))) in
      record { first = at (neg_ℤ (pos 16)); second = at eight_back; third = at (pos 0); fourth = at (pos 8) }

  no_south : AreFourRows f eight_back (pos 8) (four_of 0 0 0 0)
  no_south =
      let at : (x : ℤ) → HasRows f x (pos 8) 0 = (λ x. rows-south f four_back 4 alone x (pos 8) (omega (arith, ints))) in
      record { first = at (neg_ℤ (pos 16)); second = at eight_back; third = at (pos 0); fourth = at (pos 8) }

  between : (y : ℤ) (a b : ℕ) → HasRows f eight_back y a → HasRows f (pos 0) y b → AreFourRows f eight_back y (four_of 0 a b 0)
  between y a b ha hb =
      record {
        first = rows-west f four_back 4 alone (neg_ℤ (pos 16)) y (omega (arith, ints));
        second = ha;
        third = hb;
        fourth = rows-east f four_back 4 alone (pos 8) y (omega (arith, ints));
      }

  sixteen_around : (nw ne sw se : ℕ) → HasRows f eight_back eight_back nw → HasRows f (pos 0) eight_back ne → HasRows f eight_back (pos 0) sw
      → HasRows f (pos 0) (pos 0) se
      → AreSixteenRows f eight_back eight_back (four_of (four_of 0 0 0 0) (four_of 0 nw ne 0) (four_of 0 sw se 0) (four_of 0 0 0 0))
  sixteen_around nw ne sw se a b c d =
      record { first = no_north; second = between eight_back nw ne a b; third = between (pos 0) sw se c d; fourth = no_south }

pub sixteen-of_eight : (n nw ne sw se : ℕ) → n < 2 ^ 64 → IsByRows (n / 2 ^ 48) nw → IsByRows (n / 2 ^ 32 % 65536 * 2 ^ 16 % 2 ^ 64) ne
    → IsByRows (n / 2 ^ 16 % 65536 * 2 ^ 32 % 2 ^ 64) sw → IsByRows (n * 2 ^ 48 % 2 ^ 64) se
    → AreSixteenRows (tree_cell (eight n)) eight_back eight_back (four_of (four_of 0 0 0 0) (four_of 0 nw ne 0) (four_of 0 sw se 0) (four_of 0 0 0 0))
sixteen-of_eight n nw ne sw se fits by_nw by_ne by_sw by_se =
    let f = tree_cell (eight n) in
    let alone = alone-root (eight n) in
    let piece : IsPiece f four_back four_back (eight n) = piece-of_root (eight n) (full-eight n fits) (omega arith) in
    let a = n / 281474976710656 in
    let b = n / 4294967296 % 65536 in
    let c = n / 65536 % 65536 in
    let d = n % 65536 in
    let la : a < 65536 = omega (arith, fits) in
    sixteen_around f alone nw ne sw se
    (rows_nw f alone _ nw a by_nw (omega arith) (square-of_piece f four_back four_back a la piece.0) la)
    (rows_ne f alone _ ne b by_ne (omega arith) (square-of_piece f (pos 0) four_back b (omega arith) piece.1) (omega arith))
    (rows_sw f alone _ sw c by_sw (omega arith) (square-of_piece f four_back (pos 0) c (omega arith) piece.2) (omega arith))
    (rows_se f alone _ se d by_se (omega arith) (square-of_piece f (pos 0) (pos 0) d (omega arith) piece.3))
