-- The cells of a leaf in one word, turned.
use Rattle.std.proofs.Common.{◌≡◌, ℕ, ◌+◌, ◌-◌, ◌^◌, ◌<◌, Bool, true, false, ℤ, pos, nat_abs, refl, sym, ◌∙◌, ap, arith, ◌==◌}
use Rattle.std.specs.Int.{bit_at}
use Rattle.life_base.proofs.RoundTrip.{all_below, all_below_at}
use Rattle.life_lanes.specs.Places.{exchanged, place_in_leaf}
use Rattle.life_lanes.proofs.PlaceLemmas.{equal}
use Rattle.life_pieces.specs.Pieces.{square_from}
use Rattle.life_quad.specs.Store.{eight}
use Rattle.life_quad.specs.Turning.{turned_tree}
use Rattle.life_slide.proofs.LeafLemmas.{leaf-of_bits}
use Rattle.life_forms.specs.Turns.{turn_of}

-- the plane of a word's cells, of which those of the leaf begin at (0, 0)
abbrev cells_of : ℕ → ℤ → ℤ → ℕ
cells_of n x y = bit_at n (63 - place_in_leaf (nat_abs y) (nat_abs x))

own-cells : (n : ℕ) → n < 2 ^ 64 → eight n ≡ square_from (cells_of n) 3 (pos 0) (pos 0)
own-cells n fits = leaf-of_bits (cells_of n) (pos 0) (pos 0) n fits
    (λ r i lr li. let er : r ≡ 0 + r = omega arith in let ei : i ≡ 0 + i = omega arith in (λ j. bit_at n (63 - place_in_leaf (er j) (ei j))))

-- ---- with columns counted from the other side

abbrev columns_from : ℕ → ℕ
columns_from p = exchanged 0x0000FFFF0000FFFF 16 (exchanged 0x0F0F0F0F0F0F0F0F 4 (exchanged 0x5555555555555555 1 p))

columns_test : (r i : ℕ) → Bool
columns_test r i = columns_from (63 - place_in_leaf r i) == 63 - place_in_leaf r (7 - i)

each_columns : all_below 8 (λ r. all_below 8 (columns_test r)) ≡ true
unfolding columns_test
each_columns = refl

columns-place : (r i : ℕ) → r < 8 → i < 8 → columns_from (63 - place_in_leaf r i) ≡ 63 - place_in_leaf r (7 - i)
unfolding columns_test
columns-place r i lr li = equal _ _ (all_below_at 8 (columns_test r) i (all_below_at 8 (λ r. all_below 8 (columns_test r)) r each_columns lr) li)

columns-square : (f : ℤ → ℤ → ℕ)
    → square_from (λ x y. f (pos (7 - nat_abs x)) y) 3 (pos 0) (pos 0) ≡ turned_tree (turn_of false true false) (square_from f 3 (pos 0) (pos 0))
unfolding square_from
columns-square f = refl

pub columns-turned : (n m : ℕ) → n < 2 ^ 64 → m < 2 ^ 64 → ((p : ℕ) → bit_at m p ≡ bit_at n (columns_from p))
    → eight m ≡ turned_tree (turn_of false true false) (eight n)
columns-turned n m ln lm bits =
    let f = cells_of n in
    leaf-of_bits (λ x y. f (pos (7 - nat_abs x)) y) (pos 0) (pos 0) m lm
    (λ r i lr li. let er : r ≡ 0 + r = omega arith in let ei : i ≡ 0 + i = omega arith in
    bits (63 - place_in_leaf r i) ∙ ap (bit_at n) (columns-place r i lr li) ∙ (λ j. bit_at n (63 - place_in_leaf (er j) (7 - ei j))))
    ∙ columns-square f ∙ ap (turned_tree (turn_of false true false)) (sym (own-cells n ln))

-- ---- with rows

abbrev rows_from : ℕ → ℕ
rows_from p = exchanged 0x00000000FFFFFFFF 32 (exchanged 0x00FF00FF00FF00FF 8 (exchanged 0x3333333333333333 2 p))

rows_test : (r i : ℕ) → Bool
rows_test r i = rows_from (63 - place_in_leaf r i) == 63 - place_in_leaf (7 - r) i

each_rows : all_below 8 (λ r. all_below 8 (rows_test r)) ≡ true
unfolding rows_test
each_rows = refl

rows-place : (r i : ℕ) → r < 8 → i < 8 → rows_from (63 - place_in_leaf r i) ≡ 63 - place_in_leaf (7 - r) i
unfolding rows_test
rows-place r i lr li = equal _ _ (all_below_at 8 (rows_test r) i (all_below_at 8 (λ r. all_below 8 (rows_test r)) r each_rows lr) li)

rows-square : (f : ℤ → ℤ → ℕ)
    → square_from (λ x y. f x (pos (7 - nat_abs y))) 3 (pos 0) (pos 0) ≡ turned_tree (turn_of false false true) (square_from f 3 (pos 0) (pos 0))
unfolding square_from
rows-square f = refl

pub rows-turned : (n m : ℕ) → n < 2 ^ 64 → m < 2 ^ 64 → ((p : ℕ) → bit_at m p ≡ bit_at n (rows_from p))
    → eight m ≡ turned_tree (turn_of false false true) (eight n)
rows-turned n m ln lm bits =
    let f = cells_of n in
    leaf-of_bits (λ x y. f x (pos (7 - nat_abs y))) (pos 0) (pos 0) m lm
    (λ r i lr li. let er : r ≡ 0 + r = omega arith in let ei : i ≡ 0 + i = omega arith in
    bits (63 - place_in_leaf r i) ∙ ap (bit_at n) (rows-place r i lr li) ∙ (λ j. bit_at n (63 - place_in_leaf (7 - er j) (ei j))))
    ∙ rows-square f ∙ ap (turned_tree (turn_of false false true)) (sym (own-cells n ln))

-- ---- with columns and rows exchanged

abbrev exchange_from : ℕ → ℕ
exchange_from p = exchanged 0x00000000FFFF0000 16 (exchanged 0x00F000F000F000F0 4 (exchanged 0x2222222222222222 1 p))

exchange_test : (r i : ℕ) → Bool
exchange_test r i = exchange_from (63 - place_in_leaf r i) == 63 - place_in_leaf i r

each_exchange : all_below 8 (λ r. all_below 8 (exchange_test r)) ≡ true
unfolding exchange_test
each_exchange = refl

exchange-place : (r i : ℕ) → r < 8 → i < 8 → exchange_from (63 - place_in_leaf r i) ≡ 63 - place_in_leaf i r
unfolding exchange_test
exchange-place r i lr li = equal _ _ (all_below_at 8 (exchange_test r) i (all_below_at 8 (λ r. all_below 8 (exchange_test r)) r each_exchange lr) li)

exchange-square : (f : ℤ → ℤ → ℕ)
    → square_from (λ x y. f y x) 3 (pos 0) (pos 0) ≡ turned_tree (turn_of true false false) (square_from f 3 (pos 0) (pos 0))
unfolding square_from
exchange-square f = refl

pub exchange-turned : (n m : ℕ) → n < 2 ^ 64 → m < 2 ^ 64 → ((p : ℕ) → bit_at m p ≡ bit_at n (exchange_from p))
    → eight m ≡ turned_tree (turn_of true false false) (eight n)
exchange-turned n m ln lm bits =
    let f = cells_of n in
    leaf-of_bits (λ x y. f y x) (pos 0) (pos 0) m lm
    (λ r i lr li. let er : r ≡ 0 + r = omega arith in let ei : i ≡ 0 + i = omega arith in
    bits (63 - place_in_leaf r i) ∙ ap (bit_at n) (exchange-place r i lr li) ∙ (λ j. bit_at n (63 - place_in_leaf (ei j) (er j))))
    ∙ exchange-square f ∙ ap (turned_tree (turn_of true false false)) (sym (own-cells n ln))

-- ---- one after the other

pub all-turned : (exchange columns rows : Bool) (n : ℕ)
    → turned_tree (turn_of exchange false false) (turned_tree (turn_of false false rows) (turned_tree (turn_of false columns false) (eight n)))
    ≡ turned_tree (turn_of exchange columns rows) (eight n)
all-turned false false false n = refl
all-turned false true false n = refl
all-turned false false true n = refl
all-turned false true true n = refl
all-turned true false false n = refl
all-turned true true false n = refl
all-turned true false true n = refl
all-turned true true true n = refl
