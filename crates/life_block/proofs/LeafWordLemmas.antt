-- Eight rows of eight cells as a word: from squares, moved, and a generation later.
use Rattle.std.proofs.Common.{◌≡◌, ℕ, zero, suc, ◌+◌, ◌*◌, ◌-◌, ◌/◌, ◌%◌, ◌^◌, ◌<◌, ◌≤◌, Bool, true, min, inl, inr, ℤ, pos, ◌+ℤ◌, refl, sym, ◌∙◌, ap, arith, if◌then◌else◌, ◌==◌, eqb-true}
use Rattle.std.specs.Int.{bit_at}
use Rattle.std.proofs.lemmas.Int.{ints}
use Rattle.std.proofs.lemmas.Bool.{cases_lt}
use Rattle.std.proofs.lemmas.Nat.Bits.{bit_at_cat_low, bit_at_cat_high}
use Rattle.life_base.specs.Sets.{OuterTotalistic}
use Rattle.life_base.proofs.RoundTrip.{all_below, all_below_at}
use Rattle.life_next.specs.Generation.{one_before, one_after, next_by_count, next_life, live_in}
use Rattle.life_lanes.specs.Places.{place_in, place_in_leaf}
use Rattle.life_lanes.proofs.WordLemmas.{bit-mod, bit-shr, shl-high}
use Rattle.life_next.specs.Counts.{NineWords, counted_in}
use Rattle.life_pieces.specs.Bits.{HasSquareBits, HasRows}
use Rattle.life_block.specs.Bits.{AreNineRows}
use Rattle.life_pieces.specs.Pieces.{step_ahead, step_back}
use Rattle.life_next.proofs.NextLemmas.{next-of_bits}
use Rattle.life_pieces.proofs.SquareLemmas.{place-small}

pub HasRows-moved : (cells : ℤ → ℤ → ℕ) (x y z : ℤ) (word : ℕ) → y ≡ z → HasRows cells x y word → HasRows cells x z word
HasRows-moved cells x y z word e h r i lr li = h r i lr li ∙ ap (λ u. cells (x +ℤ pos i) (u +ℤ pos r)) e

-- ---- rows of two words

pub eight-between : (cells : ℤ → ℤ → ℕ) (x y : ℤ) (a b n k m : ℕ) → n ≤ 8 → k ≡ 8 * n → m + k ≡ 64 → b / 2 ^ k < 2 ^ m → HasRows cells x y a
    → HasRows cells x (step_ahead y 8) b → HasRows cells x (step_ahead y (8 - n)) (a % 2 ^ k * 2 ^ m + b / 2 ^ k)
eight-between cells x y a b n k m ln ek em small ha hb r i lr li = elim (cases_lt r n) [
  | inl less ↦
      (let at : 63 - (8 * r + i) - m ≡ 63 - (8 * (r + (8 - n)) + i) = omega (arith, ln, ek, em, less, li) in
      let row : y +ℤ pos (r + (8 - n)) ≡ step_ahead y (8 - n) +ℤ pos r = omega (arith, ints) in
      bit_at_cat_high (a % 2 ^ k) m (b / 2 ^ k) (63 - (8 * r + i)) small (omega (arith, ek, em, less, li))
      ∙ bit-mod a k (63 - (8 * r + i) - m) (omega (arith, ek, em, less, li)) ∙ ap (bit_at a) at ∙ ha (r + (8 - n)) i (omega (arith, less, ln)) li
      ∙ ap (λ z. cells (x +ℤ pos i) z) row)
  | inr more ↦
      (let at : 63 - (8 * r + i) + k ≡ 63 - (8 * (r - n) + i) = omega (arith, ek, more, li, lr) in
      let row : step_ahead y 8 +ℤ pos (r - n) ≡ step_ahead y (8 - n) +ℤ pos r = omega (arith, ints, more, ln) in
      bit_at_cat_low (a % 2 ^ k) m (b / 2 ^ k) (63 - (8 * r + i)) (omega (arith, ek, em, more, li)) ∙ bit-shr b k (63 - (8 * r + i)) ∙ ap (bit_at b) at
      ∙ hb (r - n) i (omega (arith, lr)) li ∙ ap (λ z. cells (x +ℤ pos i) z) row)
]

-- ---- columns of two words

-- the masks, by a test of each of the 64 places: 0 in the first column, and 0 in the last
west_test : (r i : ℕ) → Bool
west_test r i = bit_at 0x7F7F7F7F7F7F7F7F (63 - (8 * r + i)) == min i 1

each_west : all_below 8 (λ r. all_below 8 (west_test r)) ≡ true
unfolding west_test
each_west = refl

west-mask : (r i : ℕ) → r < 8 → i < 8 → bit_at 0x7F7F7F7F7F7F7F7F (63 - (8 * r + i)) ≡ min i 1
unfolding west_test
west-mask r i lr li = eqb-true _ _ (all_below_at 8 (west_test r) i (all_below_at 8 (λ r. all_below 8 (west_test r)) r each_west lr) li)

east_test : (r i : ℕ) → Bool
east_test r i = bit_at 0xFEFEFEFEFEFEFEFE (63 - (8 * r + i)) == min (7 - i) 1

each_east : all_below 8 (λ r. all_below 8 (east_test r)) ≡ true
unfolding east_test
each_east = refl

east-mask : (r i : ℕ) → r < 8 → i < 8 → bit_at 0xFEFEFEFEFEFEFEFE (63 - (8 * r + i)) ≡ min (7 - i) 1
unfolding east_test
east-mask r i lr li = eqb-true _ _ (all_below_at 8 (east_test r) i (all_below_at 8 (λ r. all_below 8 (east_test r)) r each_east lr) li)

module _ (cells : ℤ → ℤ → ℕ) (x y : ℤ) (word : ℕ) where
  pub column-west : (west here : ℕ)
      → ((p : ℕ) → p < 64 → bit_at word p ≡ if bit_at 0x7F7F7F7F7F7F7F7F p == 1 then bit_at (here / 2 ^ 1) p else bit_at (west * 2 ^ 7 % 2 ^ 64) p)
      → HasRows cells (step_back x 8) y west → HasRows cells x y here → HasRows cells (one_before x) y word
  column-west west here pick hw hh r zero lr li =
      let p = 63 - (8 * r + 0) in
      let at : p - 7 ≡ 63 - (8 * r + 7) = omega (arith, lr) in
      let column : step_back x 8 +ℤ pos 7 ≡ one_before x +ℤ pos 0 = omega (arith, ints) in
      pick p (omega arith) ∙ ap (λ m. if m == 1 then bit_at (here / 2 ^ 1) p else bit_at (west * 2 ^ 7 % 2 ^ 64) p) (west-mask r 0 lr li)
      ∙ bit-mod (west * 2 ^ 7) 64 p (omega arith) ∙ shl-high west 7 p (omega (arith, lr)) ∙ ap (bit_at west) at ∙ hw r 7 lr (omega arith)
      ∙ ap (λ z. cells z (y +ℤ pos r)) column
  column-west west here pick hw hh r (suc i) lr li =
      let p = 63 - (8 * r + suc i) in
      let one : min (suc i) 1 ≡ 1 = omega arith in
      let at : p + 1 ≡ 63 - (8 * r + i) = omega (arith, lr, li) in
      let column : x +ℤ pos i ≡ one_before x +ℤ pos (suc i) = omega (arith, ints) in
      pick p (omega arith) ∙ ap (λ m. if m == 1 then bit_at (here / 2 ^ 1) p else bit_at (west * 2 ^ 7 % 2 ^ 64) p) (west-mask r (suc i) lr li ∙ one)
      ∙ bit-shr here 1 p ∙ ap (bit_at here) at ∙ hh r i lr (omega (arith, li)) ∙ ap (λ z. cells z (y +ℤ pos r)) column

  pub column-east : (here east : ℕ)
      → ((p : ℕ) → p < 64 → bit_at word p ≡ if bit_at 0xFEFEFEFEFEFEFEFE p == 1 then bit_at (here * 2 ^ 1 % 2 ^ 64) p else bit_at (east / 2 ^ 7) p)
      → HasRows cells x y here → HasRows cells (step_ahead x 8) y east → HasRows cells (one_after x) y word
  column-east here east pick hh he r i lr li = elim (cases_lt i 7) [
    | inl less ↦
        (let p = 63 - (8 * r + i) in
        let one : min (7 - i) 1 ≡ 1 = omega (arith, less) in
        let at : p - 1 ≡ 63 - (8 * r + (i + 1)) = omega (arith, lr, less) in
        let column : x +ℤ pos (i + 1) ≡ one_after x +ℤ pos i = omega (arith, ints) in
        pick p (omega arith) ∙ ap (λ m. if m == 1 then bit_at (here * 2 ^ 1 % 2 ^ 64) p else bit_at (east / 2 ^ 7) p) (east-mask r i lr li ∙ one)
        ∙ bit-mod (here * 2 ^ 1) 64 p (omega arith) ∙ shl-high here 1 p (omega (arith, lr, less)) ∙ ap (bit_at here) at ∙ hh r (i + 1) lr (omega (arith, less))
        ∙ ap (λ z. cells z (y +ℤ pos r)) column)
    | inr more ↦
        (let p = 63 - (8 * r + i) in
        let none : min (7 - i) 1 ≡ 0 = omega (arith, more) in
        let at : p + 7 ≡ 63 - (8 * r + 0) = omega (arith, lr, li, more) in
        let column : step_ahead x 8 +ℤ pos 0 ≡ one_after x +ℤ pos i = omega (arith, ints, li, more) in
        pick p (omega arith) ∙ ap (λ m. if m == 1 then bit_at (here * 2 ^ 1 % 2 ^ 64) p else bit_at (east / 2 ^ 7) p) (east-mask r i lr li ∙ none)
        ∙ bit-shr east 7 p ∙ ap (bit_at east) at ∙ he r 0 lr (omega arith) ∙ ap (λ z. cells z (y +ℤ pos r)) column)
  ]

-- ---- the next states

pub next-rows : (rule : OuterTotalistic) (cells : ℤ → ℤ → ℕ) (x y : ℤ) (w : NineWords) (word : ℕ) → AreNineRows cells 1 x y w
    → ((i : ℕ) → i < 64 → bit_at word i ≡ next_by_count rule.sets (bit_at w.here.here i) (live_in (counted_in rule.near w i)))
    → HasRows (next_life rule cells) x y word
next-rows rule cells x y w word h next r i lr li =
    let p = 63 - (8 * r + i) in
    let column = x +ℤ pos i in
    let row = y +ℤ pos r in
    let up : one_before y +ℤ pos r ≡ one_before row = omega (arith, ints) in
    let down : one_after y +ℤ pos r ≡ one_after row = omega (arith, ints) in
    let west : one_before x +ℤ pos i ≡ one_before column = omega (arith, ints) in
    let east : one_after x +ℤ pos i ≡ one_after column = omega (arith, ints) in
    next p (omega arith) ∙ next-of_bits rule cells column row w p
    (h.before.before r i lr li ∙ (λ j. cells (west j) (up j))) (h.before.here r i lr li ∙ ap (cells column) up)
    (h.before.after r i lr li ∙ (λ j. cells (east j) (up j))) (h.here.before r i lr li ∙ ap (λ z. cells z row) west) (h.here.here r i lr li)
    (h.here.after r i lr li ∙ ap (λ z. cells z row) east) (h.after.before r i lr li ∙ (λ j. cells (west j) (down j)))
    (h.after.here r i lr li ∙ ap (cells column) down) (h.after.after r i lr li ∙ (λ j. cells (east j) (down j)))

-- a square of level 2 of eight rows, by the word whose quarters it is one of
pub quarter-bits : (f : ℤ → ℤ → ℕ) (x y : ℤ) (rows quarters : ℕ) → HasRows f x y rows
    → ((r i : ℕ) → r < 8 → i < 8 → bit_at quarters (63 - place_in_leaf r i) ≡ bit_at rows (63 - (8 * r + i)))
    → (s q k : ℕ) → s < 2 → q < 2 → k + 16 * (2 * s + q) ≡ 48 → HasSquareBits f (step_ahead x (4 * q)) (step_ahead y (4 * s)) (quarters / 2 ^ k % 2 ^ 16)
quarter-bits f x y rows quarters h order s q k ls lq ek r i lr li =
    let p = place_in r i in
    let lp = place-small r i lr li in
    let row_part : (4 * s + r) / 4 ≡ s = omega (arith, lr) in
    let row_rest : (4 * s + r) % 4 ≡ r = omega (arith, lr) in
    let column_part : (4 * q + i) / 4 ≡ q = omega (arith, li) in
    let column_rest : (4 * q + i) % 4 ≡ i = omega (arith, li) in
    let place : place_in_leaf (4 * s + r) (4 * q + i) ≡ 16 * (2 * s + q) + p =
    (λ j. 16 * (2 * row_part j + column_part j) + place_in (row_rest j) (column_rest j)) in
    let at : 15 - p + k ≡ 63 - (16 * (2 * s + q) + p) = omega (arith, ek, lp) in
    let column : x +ℤ pos (4 * q + i) ≡ step_ahead x (4 * q) +ℤ pos i = omega (arith, ints) in
    let row : y +ℤ pos (4 * s + r) ≡ step_ahead y (4 * s) +ℤ pos r = omega (arith, ints) in
    bit-mod (quarters / 2 ^ k) 16 (15 - p) (omega arith) ∙ bit-shr quarters k (15 - p) ∙ ap (bit_at quarters) at
    ∙ ap (λ z. bit_at quarters (63 - z)) (sym place) ∙ order (4 * s + r) (4 * q + i) (omega (arith, ls, lr)) (omega (arith, lq, li))
    ∙ h (4 * s + r) (4 * q + i) (omega (arith, ls, lr)) (omega (arith, lq, li)) ∙ (λ j. f (column j) (row j))
