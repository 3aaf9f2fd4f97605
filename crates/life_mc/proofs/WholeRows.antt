-- The first eight bytes of a row, looked at together.
use Rattle.std.proofs.Common.{◌≡◌, ℕ, zero, suc, ◌+◌, ◌-◌, ◌*◌, ◌/◌, ◌%◌, ◌<◌, ◌≤◌, List, [], ◌∷◌, ◌++◌, length, take, get_or, map, Bool, true, false, not, cond, ◌&&◌, refl, ap, ◌∙◌, arith, ◌==◌, ◌^◌, nat_le, nat_lt, le-leb, eqb-true, replicate, bit_or, bit_and, Fits, w8}
use Rattle.std.specs.List.{list_all, prefix_len}
use Rattle.std.specs.Simd.Lanes.{mask_l, top, zip2}
use Rattle.std.proofs.lemmas.Bool.Decides.{nat_tests}
use mathlib.Core.Bool.{and-false}
use Rattle.life_base.proofs.RoundTrip.{all_below, all_below_at}
use Rattle.life_mc.specs.Reading.{byte_of_row}
use Rattle.life_mc.specs.Grammar.{is_cell, is_row}
use Rattle.life_mc.specs.Standing.{first_row, leading_cells}
use Rattle.life_mc.proofs.Leaves.{fits}
use Rattle.life_mc.proofs.TestFacts.{weigh, at_most_one}

-- ---- marks of bytes

-- with the bit of 4 set the cells are `.`
abbrev is_dot_with_four : ℕ → Bool
is_dot_with_four b = bit_or b 4 == 46

abbrev tells_cell : ℕ → Bool
tells_cell b = cond (is_cell b) (is_dot_with_four b) (not (is_dot_with_four b))

each_byte_reported : all_below 256 tells_cell ≡ true
each_byte_reported = refl

cell_reported : (b : ℕ) → b < 256 → is_dot_with_four b ≡ is_cell b
cell_reported b h = by (is_cell b) (is_dot_with_four b) (all_below_at 256 tells_cell b each_byte_reported h)
  where
    by : (v w : Bool) → cond v w (not w) ≡ true → w ≡ v
    by true w h = h
    by false true h = cc
    by false false h = refl

pub dots_are_cells : (n : ℕ) (text : List ℕ) → ((i : ℕ) → Fits w8 (get_or text i 0))
    → map (λ b. b == 46) (zip2 bit_or (take n text) (replicate n 4)) ≡ map is_cell (take n text)
dots_are_cells zero text h = refl
dots_are_cells (suc n) [] h = refl
dots_are_cells (suc n) (b ∷ text) h =
    ap (λ v. v ∷ map (λ b. b == 46) (zip2 bit_or (take n text) (replicate n 4))) (cell_reported b (omega (arith, h 0)))
    ∙ ap (λ (vs : List Bool). is_cell b ∷ vs) (dots_are_cells n text (λ i. h (suc i)))

pub as_many_dots : (n : ℕ) (text : List ℕ) → n ≤ length text → length (zip2 bit_or (take n text) (replicate n 4)) ≡ n
as_many_dots zero text h = refl
as_many_dots (suc n) [] h = absurd (omega (arith, h))
as_many_dots (suc n) (b ∷ text) h = ap (λ k. suc k) (as_many_dots n text (omega (arith, h)))

abbrev all_marks : ℕ → ℕ
all_marks zero = 2
all_marks (suc n) = 2 * all_marks n

-- what is left are the marks of the others, and one after all of them
abbrev pub others : List ℕ → List Bool
others text = map (λ b. not (is_cell b)) (text ++ 36 ∷ [])

others_marked : (text : List ℕ) → mask_l (map is_cell text) + mask_l (others text) + 1 ≡ all_marks (length text)
others_marked [] = refl
others_marked (b ∷ text) = by (is_cell b) (mask_l (map is_cell text)) (mask_l (others text)) (all_marks (length text)) (others_marked text)
  where
    by : (v : Bool) (x y z : ℕ) → x + y + 1 ≡ z → (cond v 1 0 + 2 * x) + (cond (not v) 1 0 + 2 * y) + 1 ≡ 2 * z
    by true x y z h = omega (arith, h)
    by false x y z h = omega (arith, h)

pub marks_left : (text : List ℕ) → length text ≡ 8 → mask_l (map is_cell text) + mask_l (others text) ≡ 511
marks_left text l =
    let e : all_marks (length text) ≡ 512 = ap all_marks l in
    omega (arith, others_marked text, e)

pub some_other : (text : List ℕ) → 0 < mask_l (others text)
some_other [] = omega arith
some_other (b ∷ text) = by (cond (not (is_cell b)) 1 0) (mask_l (others text)) (some_other text)
  where
    by : (x y : ℕ) → 0 < y → 0 < x + 2 * y
    by x y h = omega (arith, h)

one_more : (a b : ℕ) → a ≡ b → 1 + a ≡ suc b
one_more a b h = omega (arith, h)

-- the first mark is after the cells at the beginning
pub first_other : (n : ℕ) (text : List ℕ) → prefix_len (λ b. not (not (is_cell b))) (take n text ++ 36 ∷ []) ≡ leading_cells n text
first_other zero text = refl
first_other (suc n) [] = refl
first_other (suc n) (b ∷ text) = by (is_cell b) (first_other n text)
  where
    by : (v : Bool) → prefix_len (λ b. not (not (is_cell b))) (take n text ++ 36 ∷ []) ≡ leading_cells n text
        → cond (not (not v)) (1 + prefix_len (λ b. not (not (is_cell b))) (take n text ++ 36 ∷ [])) 0 ≡ cond v (suc (leading_cells n text)) 0
    by true h = one_more _ _ h
    by false h = refl

-- ---- eight bytes as a row

abbrev mark : Bool → ℕ
mark v = cond (top 7 (cond v 255 0)) 1 0

mark_is : (v : Bool) → mark v ≡ cond v 1 0
mark_is true = refl
mark_is false = refl

abbrev weighed : Bool → Bool → Bool → Bool → Bool → Bool → Bool → Bool → ℕ
weighed a b c d e f g h = 0 + cond a 128 0 + cond b 64 0 + cond c 32 0 + cond d 16 0 + cond e 8 0 + cond f 4 0 + cond g 2 0 + cond h 1 0

marks_weighed : (a b c d e f g h : Bool)
    → (mark h + 2 * (mark g + 2 * (mark f + 2 * (mark e + 2 * (mark d + 2 * (mark c + 2 * (mark b + 2 * (mark a + 0)))))))) % 18446744073709551616
    ≡ weighed a b c d e f g h
marks_weighed a b c d e f g h = omega (
  arith,
  mark_is a,
  mark_is b,
  mark_is c,
  mark_is d,
  mark_is e,
  mark_is f,
  mark_is g,
  mark_is h,
  weigh a 128,
  weigh b 64,
  weigh c 32,
  weigh d 16,
  weigh e 8,
  weigh f 4,
  weigh g 2,
  at_most_one a,
  at_most_one b,
  at_most_one c,
  at_most_one d,
  at_most_one e,
  at_most_one f,
  at_most_one g,
  at_most_one h,
)

abbrev mark_at : List ℕ → ℕ → ℕ
mark_at text k = cond (top 7 (cond (get_or (take 8 text ++ take 8 text) k 0 == 42) 255 0)) 1 0

pub eight_marked : (text : List ℕ) → 8 ≤ length text
    → (mark_at text 7 + 2 * (mark_at text 6
    + 2 * (mark_at text 5 + 2 * (mark_at text 4 + 2 * (mark_at text 3 + 2 * (mark_at text 2 + 2 * (mark_at text 1 + 2 * (mark_at text 0 + 0))))))))
    % 18446744073709551616 ≡ byte_of_row (take 8 text)
eight_marked [] l = absurd (omega (arith, l))
eight_marked (a ∷ []) l = absurd (omega (arith, l))
eight_marked (a ∷ b ∷ []) l = absurd (omega (arith, l))
eight_marked (a ∷ b ∷ c ∷ []) l = absurd (omega (arith, l))
eight_marked (a ∷ b ∷ c ∷ d ∷ []) l = absurd (omega (arith, l))
eight_marked (a ∷ b ∷ c ∷ d ∷ e ∷ []) l = absurd (omega (arith, l))
eight_marked (a ∷ b ∷ c ∷ d ∷ e ∷ f ∷ []) l = absurd (omega (arith, l))
eight_marked (a ∷ b ∷ c ∷ d ∷ e ∷ f ∷ g ∷ []) l = absurd (omega (arith, l))
eight_marked (a ∷ b ∷ c ∷ d ∷ e ∷ f ∷ g ∷ h ∷ text) l = marks_weighed (a == 42) (b == 42) (c == 42) (d == 42) (e == 42) (f == 42) (g == 42) (h == 42)

-- ---- the columns at the beginning

-- the bits of a row without the last n
abbrev without : ℕ → ℕ → ℕ
without row n = row - row % n

columns_of : (k a b c d e f g h : ℕ) (text : List ℕ) → k ≤ 8
    → without (weighed (a == 42) (b == 42) (c == 42) (d == 42) (e == 42) (f == 42) (g == 42) (h == 42)) (2 ^ (8 - k))
    ≡ byte_of_row (take k (a ∷ b ∷ c ∷ d ∷ e ∷ f ∷ g ∷ h ∷ text))
columns_of k a b c d e f g h text l = by k l (weigh (a == 42) 128) (weigh (b == 42) 64) (weigh (c == 42) 32) (weigh (d == 42) 16) (weigh (e == 42) 8)
    (weigh (f == 42) 4) (weigh (g == 42) 2)
    (at_most_one (a == 42)) (at_most_one (b == 42)) (at_most_one (c == 42)) (at_most_one (d == 42)) (at_most_one (e == 42)) (at_most_one (f == 42))
    (at_most_one (g == 42)) (at_most_one (h == 42))
  where
    by : (k : ℕ) → k ≤ 8
        → cond (a == 42) 128 0 ≡ 128 * cond (a == 42) 1 0 → cond (b == 42) 64 0 ≡ 64 * cond (b == 42) 1 0 → cond (c == 42) 32 0 ≡ 32 * cond (c == 42) 1 0
        → cond (d == 42) 16 0 ≡ 16 * cond (d == 42) 1 0
        → cond (e == 42) 8 0 ≡ 8 * cond (e == 42) 1 0 → cond (f == 42) 4 0 ≡ 4 * cond (f == 42) 1 0 → cond (g == 42) 2 0 ≡ 2 * cond (g == 42) 1 0
        → cond (a == 42) 1 0 ≤ 1 → cond (b == 42) 1 0 ≤ 1 → cond (c == 42) 1 0 ≤ 1 → cond (d == 42) 1 0 ≤ 1
        → cond (e == 42) 1 0 ≤ 1 → cond (f == 42) 1 0 ≤ 1 → cond (g == 42) 1 0 ≤ 1 → cond (h == 42) 1 0 ≤ 1
        → without (weighed (a == 42) (b == 42) (c == 42) (d == 42) (e == 42) (f == 42) (g == 42) (h == 42)) (2 ^ (8 - k))
        ≡ byte_of_row (take k (a ∷ b ∷ c ∷ d ∷ e ∷ f ∷ g ∷ h ∷ text))
    by zero l wa wb wc wd we wf wg ma mb mc md me mf mg mh = omega (arith, wa, wb, wc, wd, we, wf, wg, ma, mb, mc, md, me, mf, mg, mh)
    by (suc zero) l wa wb wc wd we wf wg ma mb mc md me mf mg mh = omega (arith, wa, wb, wc, wd, we, wf, wg, ma, mb, mc, md, me, mf, mg, mh)
    by (suc (suc zero)) l wa wb wc wd we wf wg ma mb mc md me mf mg mh = omega (arith, wa, wb, wc, wd, we, wf, wg, ma, mb, mc, md, me, mf, mg, mh)
    by (suc (suc (suc zero))) l wa wb wc wd we wf wg ma mb mc md me mf mg mh = omega (arith, wa, wb, wc, wd, we, wf, wg, ma, mb, mc, md, me, mf, mg, mh)
    by (suc (suc (suc (suc zero)))) l wa wb wc wd we wf wg ma mb mc md me mf mg mh = omega (arith, wa, wb, wc, wd, we, wf, wg, ma, mb, mc, md, me, mf, mg, mh)
    by (suc (suc (suc (suc (suc zero))))) l wa wb wc wd we wf wg ma mb mc md me mf mg mh = omega
        (arith, wa, wb, wc, wd, we, wf, wg, ma, mb, mc, md, me, mf, mg, mh)
    by (suc (suc (suc (suc (suc (suc zero)))))) l wa wb wc wd we wf wg ma mb mc md me mf mg mh = omega
        (arith, wa, wb, wc, wd, we, wf, wg, ma, mb, mc, md, me, mf, mg, mh)
    by (suc (suc (suc (suc (suc (suc (suc zero))))))) l wa wb wc wd we wf wg ma mb mc md me mf mg mh = omega
        (arith, wa, wb, wc, wd, we, wf, wg, ma, mb, mc, md, me, mf, mg, mh)
    by (suc (suc (suc (suc (suc (suc (suc (suc zero)))))))) l wa wb wc wd we wf wg ma mb mc md me mf mg mh = omega
        (arith, wa, wb, wc, wd, we, wf, wg, ma, mb, mc, md, me, mf, mg, mh)
    by (suc (suc (suc (suc (suc (suc (suc (suc (suc k))))))))) l wa wb wc wd we wf wg ma mb mc md me mf mg mh = absurd (omega (arith, l))

pub columns_in_prefix : (k : ℕ) (text : List ℕ) → k ≤ 8 → 8 ≤ length text → byte_of_row (take 8 text) - byte_of_row (take 8 text) % 2 ^ (8 - k)
    ≡ byte_of_row (take k text)
columns_in_prefix k ([]) l m = absurd (omega (arith, m))
columns_in_prefix k (a ∷ []) l m = absurd (omega (arith, m))
columns_in_prefix k (a ∷ b ∷ []) l m = absurd (omega (arith, m))
columns_in_prefix k (a ∷ b ∷ c ∷ []) l m = absurd (omega (arith, m))
columns_in_prefix k (a ∷ b ∷ c ∷ d ∷ []) l m = absurd (omega (arith, m))
columns_in_prefix k (a ∷ b ∷ c ∷ d ∷ e ∷ []) l m = absurd (omega (arith, m))
columns_in_prefix k (a ∷ b ∷ c ∷ d ∷ e ∷ f ∷ []) l m = absurd (omega (arith, m))
columns_in_prefix k (a ∷ b ∷ c ∷ d ∷ e ∷ f ∷ g ∷ []) l m = absurd (omega (arith, m))
columns_in_prefix k (a ∷ b ∷ c ∷ d ∷ e ∷ f ∷ g ∷ h ∷ text) l m = columns_of k a b c d e f g h text l

-- the bits of the columns before one
abbrev columns_before : List ℕ
columns_before = 0 ∷ 128 ∷ 192 ∷ 224 ∷ 240 ∷ 248 ∷ 252 ∷ 254 ∷ 255 ∷ []

abbrev keeps_columns : ℕ → ℕ → Bool
keeps_columns k row = bit_and row (get_or columns_before k 0) == without row (2 ^ (8 - k))

pub columns_kept : (k row : ℕ) → k ≤ 8 → row < 256 → bit_and row (get_or columns_before k 0) ≡ without row (2 ^ (8 - k))
columns_kept zero row l h = eqb-true _ _ (all_below_at 256 (keeps_columns 0) row refl h)
columns_kept (suc zero) row l h = eqb-true _ _ (all_below_at 256 (keeps_columns 1) row refl h)
columns_kept (suc (suc zero)) row l h = eqb-true _ _ (all_below_at 256 (keeps_columns 2) row refl h)
columns_kept (suc (suc (suc zero))) row l h = eqb-true _ _ (all_below_at 256 (keeps_columns 3) row refl h)
columns_kept (suc (suc (suc (suc zero)))) row l h = eqb-true _ _ (all_below_at 256 (keeps_columns 4) row refl h)
columns_kept (suc (suc (suc (suc (suc zero))))) row l h = eqb-true _ _ (all_below_at 256 (keeps_columns 5) row refl h)
columns_kept (suc (suc (suc (suc (suc (suc zero)))))) row l h = eqb-true _ _ (all_below_at 256 (keeps_columns 6) row refl h)
columns_kept (suc (suc (suc (suc (suc (suc (suc zero))))))) row l h = eqb-true _ _ (all_below_at 256 (keeps_columns 7) row refl h)
columns_kept (suc (suc (suc (suc (suc (suc (suc (suc zero)))))))) row l h = eqb-true _ _ (all_below_at 256 (keeps_columns 8) row refl h)
columns_kept (suc (suc (suc (suc (suc (suc (suc (suc (suc k))))))))) row l h = absurd (omega (arith, l))

-- ---- the row

cell_goes_on : (b : ℕ) → is_cell b ≡ true → (b == 36) ≡ false
cell_goes_on b h = grind (arith, nat_tests, h)

no_end : (b : ℕ) → (b ≡ 36 → ⊥) → (b == 36) ≡ false
no_end b h = grind (arith, nat_tests)

is_end : (b : ℕ) → b ≡ 36 → (b == 36) ≡ true
is_end b h = grind (arith, nat_tests)

pub prefix_within : (n : ℕ) (text : List ℕ) → leading_cells n text ≤ n
prefix_within zero text = omega arith
prefix_within (suc n) [] = omega arith
prefix_within (suc n) (b ∷ text) = by (is_cell b) (prefix_within n text)
  where
    by : (v : Bool) → leading_cells n text ≤ n → cond v (suc (leading_cells n text)) 0 ≤ suc n
    by true h = omega (arith, h)
    by false h = omega arith

pub prefix_is_cells : (n : ℕ) (text : List ℕ) → list_all is_cell (take (leading_cells n text) text) ≡ true
prefix_is_cells zero text = refl
prefix_is_cells (suc n) [] = refl
prefix_is_cells (suc n) (b ∷ text) = by (is_cell b) refl (prefix_is_cells n text)
  where
    by : (v : Bool) → is_cell b ≡ v → list_all is_cell (take (leading_cells n text) text) ≡ true
        → list_all is_cell (take (cond v (suc (leading_cells n text)) 0) (b ∷ text)) ≡ true
    by true e h = ap (λ w. w && list_all is_cell (take (leading_cells n text) text)) e ∙ h
    by false e h = refl

-- where `$` is after the cells at the beginning, they are the row
pub row_in_prefix : (n : ℕ) (text : List ℕ) → n < length text → get_or text (leading_cells n text) 0 ≡ 36 → first_row text ≡ take (leading_cells n text) text
row_in_prefix n [] l h = absurd (omega (arith, l))
row_in_prefix zero (b ∷ text) l h = rw (is_end b h) refl
row_in_prefix (suc n) (b ∷ text) l h = by (is_cell b) refl h (row_in_prefix n text (omega (arith, l)))
  where
    by : (v : Bool) → is_cell b ≡ v → get_or (b ∷ text) (cond v (suc (leading_cells n text)) 0) 0 ≡ 36
        → (get_or text (leading_cells n text) 0 ≡ 36 → first_row text ≡ take (leading_cells n text) text)
        → first_row (b ∷ text) ≡ take (cond v (suc (leading_cells n text)) 0) (b ∷ text)
    by true e h ih = rw (cell_goes_on b e) (ap (λ (t : List ℕ). b ∷ t) (ih h))
    by false e h ih = rw (is_end b h) refl

shorter : (k : ℕ) (text : List ℕ) → length (take k text) ≤ k
shorter zero text = omega arith
shorter (suc k) [] = omega arith
shorter (suc k) (b ∷ text) = omega (arith, shorter k text)

-- and it is one of a leaf
pub prefix_is_row : (text : List ℕ) → is_row (take (leading_cells 8 text) text) ≡ true
prefix_is_row text =
    let row = take (leading_cells 8 text) text in
    ap (λ v. v && nat_le (length row) 8) (prefix_is_cells 8 text)
    ∙ le-leb (length row) 8 (omega (arith, shorter (leading_cells 8 text) text, prefix_within 8 text))

-- the bit of the first of the last n columns
abbrev pub last_bit : ℕ → ℕ
last_bit zero = 0
last_bit (suc zero) = 1
last_bit (suc (suc n)) = 2 * last_bit (suc n)

half_of : (n : ℕ) → last_bit (suc n) / 2 ≡ last_bit n
half_of zero = refl
half_of (suc n) = omega arith

-- where another byte is there, the row is none of a leaf
pub no_row_in_prefix : (n : ℕ) (text : List ℕ) → n < length text → (get_or text (leading_cells n text) 0 ≡ 36 → ⊥) → fits (last_bit n) (first_row text) ≡ false
no_row_in_prefix n [] l h = absurd (omega (arith, l))
no_row_in_prefix zero (b ∷ text) l h = rw (no_end b h) (ap (λ v. v && fits (0 / 2) (first_row text)) (and-false (is_cell b)))
no_row_in_prefix (suc n) (b ∷ text) l h = by (is_cell b) refl h (no_row_in_prefix n text (omega (arith, l)))
  where
    by : (v : Bool) → is_cell b ≡ v → (get_or (b ∷ text) (cond v (suc (leading_cells n text)) 0) 0 ≡ 36 → ⊥)
        → ((get_or text (leading_cells n text) 0 ≡ 36 → ⊥) → fits (last_bit n) (first_row text) ≡ false)
        → fits (last_bit (suc n)) (first_row (b ∷ text)) ≡ false
    by true e h ih =
        rw (cell_goes_on b e) (ap (λ k. (is_cell b && nat_lt 0 (last_bit (suc n))) && fits k (first_row text)) (half_of n)
        ∙ ap (λ v. (is_cell b && nat_lt 0 (last_bit (suc n))) && v) (ih h) ∙ and-false _)
    by false e h ih = rw (no_end b h) (ap (λ v. (v && nat_lt 0 (last_bit (suc n))) && fits (last_bit (suc n) / 2) (first_row text)) e)
