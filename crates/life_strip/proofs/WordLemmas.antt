-- Facts about words of cells.
use Rattle.std.proofs.Common.{◌≡◌, ℕ, suc, ◌+◌, ◌-◌, ◌*◌, ◌/◌, ◌%◌, ◌^◌, ◌≤◌, ◌<◌, ◌⊎◌, inl, inr, Bool, true, ◌==◌, List, length, get_or, drop, Some, None, refl, sym, ◌∙◌, ap, arith}
use Rattle.std.specs.Int.{bit_at}
use Rattle.std.proofs.lemmas.Nat.Bits.{bit_at_cat_high, bit_at_cat_low, bit_at_ones, bit_at-zero}
use Rattle.std.proofs.Math.Seq.{drop-cons}
use Rattle.std.proofs.Math.ListN.{drop_of_length-le}
use Rattle.life_base.proofs.RoundTrip.{all_below, all_below_at}
use Rattle.life_base.specs.Tree.{blank, point, quad}
use Rattle.life_lanes.specs.Places.{exchanged, place_in}
use Rattle.life_lanes.proofs.PlaceLemmas.{equal}
use Rattle.life_lanes.proofs.WordLemmas.{bit-mod, bit-shr}
use Rattle.life_quad.specs.Store.{four}
use Rattle.life_strip.specs.declared.blocks.Block.{Block}
use Rattle.life_strip.specs.declared.spans.Span.{Span}
use Rattle.life_strip.specs.declared.words.TwoWords.{TwoWords}
use Rattle.life_strip.specs.Strip.{id_at, IsPast}
use Rattle.life_strip.specs.Blocks.{cell_in_word, cells_at_block, cell_in_blocks, two_in, four_in}
use Rattle.life_strip.specs.Band.{cells_among_four, square_of_words, two_of}
use Rattle.life_strip.proofs.SpanLemmas.{id_at-in, id_at-none, id_at-after}

module _ (row : List Span) (index column : ℕ) (d : Span) (past : IsPast row index column) (within : index < length row) where
  -- the square in the columns of a span
  pub span-at : (c : ℕ) → column ≤ c → (get_or row index d).start ≤ c → c < (get_or row index d).end → id_at row c ≡ Some (get_or row index d).square
  span-at c le from lt =
      past c le ∙ ap (λ z. id_at z c) (drop-cons row index d within) ∙ id_at-in (get_or row index d) (drop (suc index) row) c from lt

  -- nothing before them
  pub gap-at : (c : ℕ) → column ≤ c → c < (get_or row index d).start → c < (get_or row index d).end → id_at row c ≡ None
  gap-at c le before lt =
      past c le ∙ ap (λ z. id_at z c) (drop-cons row index d within) ∙ id_at-none (get_or row index d) (drop (suc index) row) c before lt

  -- the columns after a span
  pub past-next : (later : ℕ) → column ≤ later → (get_or row index d).end ≤ later → IsPast row (index + 1) later
  past-next later from end c le =
      let next : suc index ≡ index + 1 = omega arith in
      past c (omega (arith, from, le)) ∙ ap (λ z. id_at z c) (drop-cons row index d within)
      ∙ id_at-after (get_or row index d) (drop (suc index) row) c (omega (arith, end, le)) ∙ ap (λ k. id_at (drop k row) c) next

-- after the last span stands nothing
pub past-none : (row : List Span) (index column : ℕ) → IsPast row index column → length row ≤ index → (c : ℕ) → column ≤ c → id_at row c ≡ None
past-none row index column past over c le = past c le ∙ ap (λ z. id_at z c) (drop_of_length-le row over)

-- the cell of a row in one of the four columns of a square of level 2, by the word of its block
cell-at : (row : List Block) (word c k : ℕ) → cells_at_block row (c / 16) ≡ word → k < 4 → (column place : ℕ) → column ≡ 4 * c + k → place ≡ 4 * (c % 16) + k
    → cell_in_blocks row column ≡ cell_in_word word place
cell-at row word c k e small column place at there =
    let number : column / 64 ≡ c / 16 = omega (arith, at, small) in
    let inside : column % 64 ≡ place = omega (arith, at, there, small) in
    (λ i. cell_in_word (cells_at_block row (number i)) (inside i)) ∙ ap (λ w. cell_in_word w place) e

-- the squares of level 1 of two rows, by the words of a block
two-words : (north south : List Block) (rows : TwoWords) (c : ℕ) → cells_at_block north (c / 16) ≡ rows.north → cells_at_block south (c / 16) ≡ rows.south
    → (two_in north south (2 * c) ≡ two_of rows (4 * (c % 16))) × (two_in north south (2 * c + 1) ≡ two_of rows (4 * (c % 16) + 2))
two-words north south rows c n s =
    let k = c % 16 in
    let n0 = cell-at north rows.north c 0 n (omega arith) (2 * (2 * c)) (4 * k) (omega arith) (omega arith) in
    let n1 = cell-at north rows.north c 1 n (omega arith) (2 * (2 * c) + 1) (4 * k + 1) (omega arith) (omega arith) in
    let n2 = cell-at north rows.north c 2 n (omega arith) (2 * (2 * c + 1)) (4 * k + 2) (omega arith) (omega arith) in
    let n3 = cell-at north rows.north c 3 n (omega arith) (2 * (2 * c + 1) + 1) (4 * k + 2 + 1) (omega arith) (omega arith) in
    let s0 = cell-at south rows.south c 0 s (omega arith) (2 * (2 * c)) (4 * k) (omega arith) (omega arith) in
    let s1 = cell-at south rows.south c 1 s (omega arith) (2 * (2 * c) + 1) (4 * k + 1) (omega arith) (omega arith) in
    let s2 = cell-at south rows.south c 2 s (omega arith) (2 * (2 * c + 1)) (4 * k + 2) (omega arith) (omega arith) in
    let s3 = cell-at south rows.south c 3 s (omega arith) (2 * (2 * c + 1) + 1) (4 * k + 2 + 1) (omega arith) (omega arith) in (
      λ i. quad (point (n0 i)) (point (n1 i)) (point (s0 i)) (point (s1 i)),
      λ i. quad (point (n2 i)) (point (n3 i)) (point (s2 i)) (point (s3 i)),
    )

-- the square of level 2 of four rows, by the words of a block
pub four-words : (first second third fourth : List Block) (upper lower : TwoWords) (c : ℕ) → cells_at_block first (c / 16) ≡ upper.north
    → cells_at_block second (c / 16) ≡ upper.south → cells_at_block third (c / 16) ≡ lower.north → cells_at_block fourth (c / 16) ≡ lower.south
    → four_in first second third fourth c ≡ square_of_words upper lower (c % 16)
four-words first second third fourth upper lower c ea eb ec ed =
    let n = two-words first second upper c ea eb in
    let s = two-words third fourth lower c ec ed in
    λ i. quad (n.0 i) (n.1 i) (s.0 i) (s.1 i)

-- a square of level 2 where each row has one cell four times
square-rows : (upper lower : TwoWords) (square a b c d : ℕ)
    → ((k : ℕ) → k < 4 → (column : ℕ) → column ≡ 4 * square + k → (cell_in_word upper.north column ≡ a) × (cell_in_word upper.south column ≡ b)
    × (cell_in_word lower.north column ≡ c) × (cell_in_word lower.south column ≡ d))
    → square_of_words upper lower square ≡ quad (quad (point a) (point a) (point b) (point b)) (quad (point a) (point a) (point b) (point b))
    (quad (point c) (point c) (point d) (point d)) (quad (point c) (point c) (point d) (point d))
square-rows upper lower square a b c d same =
    let p = same 0 (omega arith) (4 * square) (omega arith) in
    let q = same 1 (omega arith) (4 * square + 1) (omega arith) in
    let r = same 2 (omega arith) (4 * square + 2) (omega arith) in
    let s = same 3 (omega arith) (4 * square + 2 + 1) (omega arith) in
    λ i. quad (quad (point (p.0 i)) (point (q.0 i)) (point (p.1 i)) (point (q.1 i))) (quad (point (r.0 i)) (point (s.0 i)) (point (r.1 i)) (point (s.1 i)))
    (quad (point (p.2 i)) (point (q.2 i)) (point (p.3 i)) (point (q.3 i))) (quad (point (r.2 i)) (point (s.2 i)) (point (r.3 i)) (point (s.3 i)))

-- without cells it is blank
pub square-blank : (upper lower : TwoWords) (square : ℕ)
    → ((k : ℕ) → k < 4 → (column : ℕ) → column ≡ 4 * square + k → (cell_in_word upper.north column ≡ 0) × (cell_in_word upper.south column ≡ 0)
    × (cell_in_word lower.north column ≡ 0) × (cell_in_word lower.south column ≡ 0))
    → square_of_words upper lower square ≡ blank 2
square-blank upper lower square none = square-rows upper lower square 0 0 0 0 none

-- where the rows have no cell it is blank
pub four-blank : (first second third fourth : List Block) (c : ℕ) → cells_at_block first (c / 16) ≡ 0 → cells_at_block second (c / 16) ≡ 0
    → cells_at_block third (c / 16) ≡ 0 → cells_at_block fourth (c / 16) ≡ 0 → four_in first second third fourth c ≡ blank 2
four-blank first second third fourth c ea eb ec ed =
    let none : TwoWords = record { north = 0; south = 0 } in
    four-words first second third fourth none none c ea eb ec ed
    ∙ square-blank none none (c % 16) (λ k lt column e. let z = bit_at-zero (63 - column) in (z, z, z, z))

-- a word of one cell 64 times has it everywhere
cell-alike : (word column : ℕ) → column < 64 → (word ≡ 0) ⊎ (word ≡ 2 ^ 64 - 1) → cell_in_word word column ≡ cell_in_word word 0
cell-alike word column lt (inl none) =
    ap (λ w. cell_in_word w column) none ∙ bit_at-zero (63 - column) ∙ sym (ap (λ w. cell_in_word w 0) none ∙ bit_at-zero 63)
cell-alike word column lt (inr all) =
    ap (λ w. cell_in_word w column) all ∙ bit_at_ones 64 (63 - column) (omega arith) ∙ sym (ap (λ w. cell_in_word w 0) all ∙ bit_at_ones 64 63 (omega arith))

-- so the squares of such words are alike
pub squares-alike : (upper lower : TwoWords) (square : ℕ) → square < 16 → (upper.north ≡ 0) ⊎ (upper.north ≡ 2 ^ 64 - 1)
    → (upper.south ≡ 0) ⊎ (upper.south ≡ 2 ^ 64 - 1) → (lower.north ≡ 0) ⊎ (lower.north ≡ 2 ^ 64 - 1) → (lower.south ≡ 0) ⊎ (lower.south ≡ 2 ^ 64 - 1)
    → square_of_words upper lower square ≡ square_of_words upper lower 0
squares-alike upper lower square lt ha hb hc hd =
    let a = cell_in_word upper.north 0 in
    let b = cell_in_word upper.south 0 in
    let c = cell_in_word lower.north 0 in
    let d = cell_in_word lower.south 0 in
    square-rows upper lower square a b c d (same square lt) ∙ sym (square-rows upper lower 0 a b c d (same 0 (omega arith)))
  where
    same : (i : ℕ) → i < 16 → (k : ℕ) → k < 4 → (column : ℕ) → column ≡ 4 * i + k → (cell_in_word upper.north column ≡ cell_in_word upper.north 0)
        × (cell_in_word upper.south column ≡ cell_in_word upper.south 0) × (cell_in_word lower.north column ≡ cell_in_word lower.north 0)
        × (cell_in_word lower.south column ≡ cell_in_word lower.south 0)
    same i small k few column e =
        let inside : column < 64 = omega (arith, small, few, e) in (
          cell-alike upper.north column inside ha,
          cell-alike upper.south column inside hb,
          cell-alike lower.north column inside hc,
          cell-alike lower.south column inside hd,
        )

-- where a bit of four squares comes from
abbrev square_from : ℕ → ℕ
square_from p = exchanged 0x00000000FF00FF00 24 (exchanged 0x0000F0F00000F0F0 12 (exchanged 0x0C0C0C0C0C0C0C0C 2 p))

-- by a test of each of the 64
place_test : (i r c : ℕ) → Bool
place_test i r c = square_from (63 - (16 * i + place_in r c)) == 63 - (16 * r + 4 * i + c)

each_place : all_below 4 (λ i. all_below 4 (λ r. all_below 4 (place_test i r))) ≡ true
unfolding place_test
each_place = refl

pub squares-place : (i r c : ℕ) → i < 4 → r < 4 → c < 4 → square_from (63 - (16 * i + place_in r c)) ≡ 63 - (16 * r + 4 * i + c)
unfolding place_test
squares-place i r c li lr lc =
    equal _ _ (all_below_at 4 (place_test i r) c
    (all_below_at 4 (λ r. all_below 4 (place_test i r)) r (all_below_at 4 (λ i. all_below 4 (λ r. all_below 4 (place_test i r))) i each_place li) lr) lc)

-- the sixteen columns of a part of a word
pub part-bits : (word part k : ℕ) → part < 4 → k < 16 → bit_at (word / 2 ^ (48 - 16 * part) % 2 ^ 16) (15 - k) ≡ cell_in_word word (16 * part + k)
part-bits word part k lp lk =
    let place : 15 - k + (48 - 16 * part) ≡ 63 - (16 * part + k) = omega (arith, lp, lk) in
    bit-mod (word / 2 ^ (48 - 16 * part)) 16 (15 - k) (omega arith) ∙ bit-shr word (48 - 16 * part) (15 - k) ∙ ap (bit_at word) place

-- four numbers of sixteen bits, one after the other
pub rows-bits : (a b c d : ℕ) → b < 2 ^ 16 → c < 2 ^ 16 → d < 2 ^ 16 → (k : ℕ) → k < 16 → let all = ((a * 65536 + b) * 65536 + c) * 65536 + d in
    (bit_at all (63 - k) ≡ bit_at a (15 - k)) × (bit_at all (47 - k) ≡ bit_at b (15 - k)) × (bit_at all (31 - k) ≡ bit_at c (15 - k))
    × (bit_at all (15 - k) ≡ bit_at d (15 - k))
rows-bits a b c d lb lc ld k lk =
    let x = a * 65536 + b in
    let y = x * 65536 + c in
    let p1 : 63 - k - 16 ≡ 47 - k = omega (arith, lk) in
    let p2 : 47 - k - 16 ≡ 31 - k = omega (arith, lk) in
    let p3 : 31 - k - 16 ≡ 15 - k = omega (arith, lk) in
    let first = λ (j : ℕ) (le : 16 ≤ j). bit_at_cat_high y 16 d j ld le in
    let second = λ (j : ℕ) (le : 16 ≤ j). bit_at_cat_high x 16 c j lc le in
    let third = λ (j : ℕ) (le : 16 ≤ j). bit_at_cat_high a 16 b j lb le in (
      first (63 - k) (omega (arith, lk)) ∙ ap (bit_at y) p1 ∙ second (47 - k) (omega (arith, lk)) ∙ ap (bit_at x) p2 ∙ third (31 - k) (omega (arith, lk))
          ∙ ap (bit_at a) p3,
      first (47 - k) (omega (arith, lk)) ∙ ap (bit_at y) p2 ∙ second (31 - k) (omega (arith, lk)) ∙ ap (bit_at x) p3
          ∙ bit_at_cat_low a 16 b (15 - k) (omega arith),
      first (31 - k) (omega (arith, lk)) ∙ ap (bit_at y) p3 ∙ bit_at_cat_low x 16 c (15 - k) (omega arith),
      bit_at_cat_low y 16 d (15 - k) (omega arith),
    )

-- one bit of one of four squares, by the cell that is there
square-bit : (squares i place j : ℕ) → i < 4 → j + place ≡ 15 → bit_at (cells_among_four squares i) j ≡ bit_at squares (63 - (16 * i + place))
square-bit squares i place j li e =
    let at : j + (48 - 16 * i) ≡ 63 - (16 * i + place) = omega (arith, li, e) in
    bit-mod (squares / 2 ^ (48 - 16 * i)) 16 j (omega (arith, e)) ∙ bit-shr squares (48 - 16 * i) j ∙ ap (bit_at squares) at

-- a square of level 2 by its sixteen bits
four-bits : (n : ℕ) → n < 2 ^ 16 → four n
    ≡ quad (quad (point (bit_at n 15)) (point (bit_at n 14)) (point (bit_at n 13)) (point (bit_at n 12)))
    (quad (point (bit_at n 11)) (point (bit_at n 10)) (point (bit_at n 9)) (point (bit_at n 8)))
    (quad (point (bit_at n 7)) (point (bit_at n 6)) (point (bit_at n 5)) (point (bit_at n 4)))
    (quad (point (bit_at n 3)) (point (bit_at n 2)) (point (bit_at n 1)) (point (bit_at n 0)))
four-bits n lt =
    let b15 : n / 4096 / 8 ≡ bit_at n 15 = omega (arith, lt) in
    let b14 : n / 4096 / 4 % 2 ≡ bit_at n 14 = omega arith in
    let b13 : n / 4096 / 2 % 2 ≡ bit_at n 13 = omega arith in
    let b12 : n / 4096 % 2 ≡ bit_at n 12 = omega arith in
    let b11 : n / 256 % 16 / 8 ≡ bit_at n 11 = omega arith in
    let b10 : n / 256 % 16 / 4 % 2 ≡ bit_at n 10 = omega arith in
    let b9 : n / 256 % 16 / 2 % 2 ≡ bit_at n 9 = omega arith in
    let b8 : n / 256 % 16 % 2 ≡ bit_at n 8 = omega arith in
    let b7 : n / 16 % 16 / 8 ≡ bit_at n 7 = omega arith in
    let b6 : n / 16 % 16 / 4 % 2 ≡ bit_at n 6 = omega arith in
    let b5 : n / 16 % 16 / 2 % 2 ≡ bit_at n 5 = omega arith in
    let b4 : n / 16 % 16 % 2 ≡ bit_at n 4 = omega arith in
    let b3 : n % 16 / 8 ≡ bit_at n 3 = omega arith in
    let b2 : n % 16 / 4 % 2 ≡ bit_at n 2 = omega arith in
    let b1 : n % 16 / 2 % 2 ≡ bit_at n 1 = omega arith in
    let b0 : n % 16 % 2 ≡ bit_at n 0 = omega arith in
    λ i. quad (quad (point (b15 i)) (point (b14 i)) (point (b13 i)) (point (b12 i))) (quad (point (b11 i)) (point (b10 i)) (point (b9 i)) (point (b8 i)))
    (quad (point (b7 i)) (point (b6 i)) (point (b5 i)) (point (b4 i))) (quad (point (b3 i)) (point (b2 i)) (point (b1 i)) (point (b0 i)))

-- four rows of sixteen columns, and the squares that were made of them
module _ (upper lower : TwoWords) (part rows squares : ℕ)
    (first : (k : ℕ) → k < 16 → bit_at rows (63 - k) ≡ cell_in_word upper.north (16 * part + k))
    (second : (k : ℕ) → k < 16 → bit_at rows (47 - k) ≡ cell_in_word upper.south (16 * part + k))
    (third : (k : ℕ) → k < 16 → bit_at rows (31 - k) ≡ cell_in_word lower.north (16 * part + k))
    (fourth : (k : ℕ) → k < 16 → bit_at rows (15 - k) ≡ cell_in_word lower.south (16 * part + k))
    (moved : (i r c : ℕ) → i < 4 → r < 4 → c < 4 → bit_at squares (63 - (16 * i + place_in r c)) ≡ bit_at rows (63 - (16 * r + 4 * i + c)))
    (i : ℕ) (lt : i < 4) where
  -- the cell in one of the columns of a row, at its place in the square
  in-first : (c j column : ℕ) → c < 4 → j + place_in 0 c ≡ 15 → column ≡ 4 * (4 * part + i) + c
      → bit_at (cells_among_four squares i) j ≡ cell_in_word upper.north column
  in-first c j column lc e at =
      let from : 63 - (16 * 0 + 4 * i + c) ≡ 63 - (4 * i + c) = omega arith in
      let there : 16 * part + (4 * i + c) ≡ column = omega (arith, at) in
      square-bit squares i (place_in 0 c) j lt e ∙ moved i 0 c lt (omega arith) lc ∙ ap (bit_at rows) from ∙ first (4 * i + c) (omega (arith, lt, lc))
      ∙ ap (cell_in_word upper.north) there

  in-second : (c j column : ℕ) → c < 4 → j + place_in 1 c ≡ 15 → column ≡ 4 * (4 * part + i) + c
      → bit_at (cells_among_four squares i) j ≡ cell_in_word upper.south column
  in-second c j column lc e at =
      let from : 63 - (16 * 1 + 4 * i + c) ≡ 47 - (4 * i + c) = omega arith in
      let there : 16 * part + (4 * i + c) ≡ column = omega (arith, at) in
      square-bit squares i (place_in 1 c) j lt e ∙ moved i 1 c lt (omega arith) lc ∙ ap (bit_at rows) from ∙ second (4 * i + c) (omega (arith, lt, lc))
      ∙ ap (cell_in_word upper.south) there

  in-third : (c j column : ℕ) → c < 4 → j + place_in 2 c ≡ 15 → column ≡ 4 * (4 * part + i) + c
      → bit_at (cells_among_four squares i) j ≡ cell_in_word lower.north column
  in-third c j column lc e at =
      let from : 63 - (16 * 2 + 4 * i + c) ≡ 31 - (4 * i + c) = omega arith in
      let there : 16 * part + (4 * i + c) ≡ column = omega (arith, at) in
      square-bit squares i (place_in 2 c) j lt e ∙ moved i 2 c lt (omega arith) lc ∙ ap (bit_at rows) from ∙ third (4 * i + c) (omega (arith, lt, lc))
      ∙ ap (cell_in_word lower.north) there

  in-fourth : (c j column : ℕ) → c < 4 → j + place_in 3 c ≡ 15 → column ≡ 4 * (4 * part + i) + c
      → bit_at (cells_among_four squares i) j ≡ cell_in_word lower.south column
  in-fourth c j column lc e at =
      let from : 63 - (16 * 3 + 4 * i + c) ≡ 15 - (4 * i + c) = omega arith in
      let there : 16 * part + (4 * i + c) ≡ column = omega (arith, at) in
      square-bit squares i (place_in 3 c) j lt e ∙ moved i 3 c lt (omega arith) lc ∙ ap (bit_at rows) from ∙ fourth (4 * i + c) (omega (arith, lt, lc))
      ∙ ap (cell_in_word lower.south) there

  pub square-among : four (cells_among_four squares i) ≡ square_of_words upper lower (4 * part + i)
  square-among =
      let s = 4 * (4 * part + i) in
      let a0 = in-first 0 15 s (omega arith) refl (omega arith) in
      let a1 = in-first 1 14 (s + 1) (omega arith) refl (omega arith) in
      let a2 = in-first 2 11 (s + 2) (omega arith) refl (omega arith) in
      let a3 = in-first 3 10 (s + 2 + 1) (omega arith) refl (omega arith) in
      let b0 = in-second 0 13 s (omega arith) refl (omega arith) in
      let b1 = in-second 1 12 (s + 1) (omega arith) refl (omega arith) in
      let b2 = in-second 2 9 (s + 2) (omega arith) refl (omega arith) in
      let b3 = in-second 3 8 (s + 2 + 1) (omega arith) refl (omega arith) in
      let c0 = in-third 0 7 s (omega arith) refl (omega arith) in
      let c1 = in-third 1 6 (s + 1) (omega arith) refl (omega arith) in
      let c2 = in-third 2 3 (s + 2) (omega arith) refl (omega arith) in
      let c3 = in-third 3 2 (s + 2 + 1) (omega arith) refl (omega arith) in
      let d0 = in-fourth 0 5 s (omega arith) refl (omega arith) in
      let d1 = in-fourth 1 4 (s + 1) (omega arith) refl (omega arith) in
      let d2 = in-fourth 2 1 (s + 2) (omega arith) refl (omega arith) in
      let d3 = in-fourth 3 0 (s + 2 + 1) (omega arith) refl (omega arith) in
      four-bits (cells_among_four squares i) (omega arith)
      ∙ (λ j. quad (quad (point (a0 j)) (point (a1 j)) (point (b0 j)) (point (b1 j))) (quad (point (a2 j)) (point (a3 j)) (point (b2 j)) (point (b3 j)))
      (quad (point (c0 j)) (point (c1 j)) (point (d0 j)) (point (d1 j))) (quad (point (c2 j)) (point (c3 j)) (point (d2 j)) (point (d3 j))))
