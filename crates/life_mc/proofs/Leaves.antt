-- The rows of a leaf.
use Rattle.std.proofs.Common.{◌≡◌, ℕ, zero, suc, ◌+◌, ◌-◌, ◌/◌, ◌<◌, ◌≤◌, List, [], ◌∷◌, ◌++◌, length, take, drop, map, Bool, true, false, cond, ◌&&◌, ◌||◌, refl, ap, sym, ◌∙◌, arith, add-one, set, ◌==◌, nat_le, nat_lt, replicate}
use Rattle.std.specs.List.{list_all}
use Rattle.std.proofs.lemmas.Bool.{lt-leb}
use mathlib.Core.Bool.{and-false, or-true, or-false}
use Rattle.life_base.specs.Text.{is_empty, onto_first}
use Rattle.life_mc.specs.Reading.{is_leaf, is_leaf_byte, leaf_rows, leaf_bytes, byte_of_row, is_at_end}
use Rattle.life_mc.specs.Grammar.{is_cell, is_row}
use Rattle.life_mc.specs.Standing.{first_row, are_rows, row_bytes}

and_assoc : (a b c : Bool) → ((a && b) && c) ≡ (a && (b && c))
and_assoc true b c = refl
and_assoc false b c = refl

and_mix : (a b c d : Bool) → ((a && b) && (c && d)) ≡ ((a && c) && (b && d))
and_mix false b c d = refl
and_mix true true c d = refl
and_mix true false true d = refl
and_mix true false false d = refl

-- ---- one row

-- cells that can stand from the column of this bit on
abbrev pub fits : ℕ → List ℕ → Bool
fits bit [] = true
fits bit (b ∷ row) = (is_cell b && nat_lt 0 bit) && fits (bit / 2) row

-- so many columns are from that of this bit on
abbrev has_space : ℕ → List ℕ → Bool
has_space bit [] = true
has_space bit (b ∷ row) = nat_lt 0 bit && has_space (bit / 2) row

cells_with_space : (bit : ℕ) (row : List ℕ) → fits bit row ≡ (list_all is_cell row && has_space bit row)
cells_with_space bit [] = refl
cells_with_space bit (b ∷ row) =
    ap (λ v. (is_cell b && nat_lt 0 bit) && v) (cells_with_space (bit / 2) row)
    ∙ and_mix (is_cell b) (nat_lt 0 bit) (list_all is_cell row) (has_space (bit / 2) row)

eight_columns : (row : List ℕ) → has_space 128 row ≡ nat_le (length row) 8
eight_columns [] = refl
eight_columns (a ∷ []) = refl
eight_columns (a ∷ b ∷ []) = refl
eight_columns (a ∷ b ∷ c ∷ []) = refl
eight_columns (a ∷ b ∷ c ∷ d ∷ []) = refl
eight_columns (a ∷ b ∷ c ∷ d ∷ e ∷ []) = refl
eight_columns (a ∷ b ∷ c ∷ d ∷ e ∷ f ∷ []) = refl
eight_columns (a ∷ b ∷ c ∷ d ∷ e ∷ f ∷ g ∷ []) = refl
eight_columns (a ∷ b ∷ c ∷ d ∷ e ∷ f ∷ g ∷ i ∷ []) = refl
eight_columns (a ∷ b ∷ c ∷ d ∷ e ∷ f ∷ g ∷ i ∷ j ∷ row) = sym (lt-leb (length (a ∷ b ∷ c ∷ d ∷ e ∷ f ∷ g ∷ i ∷ j ∷ row)) 8 (omega arith))

pub row_fits_all : (row : List ℕ) → fits 128 row ≡ is_row row
row_fits_all row = cells_with_space 128 row ∙ ap (λ v. list_all is_cell row && v) (eight_columns row)

-- ---- all rows

abbrev is_dollar : ℕ → Bool
is_dollar b = b == 36

-- the bytes of a text are those of its rows, and the `$` between them
bytes_step : (v : Bool) (b : ℕ) (text : List ℕ) (r : List ℕ) (rs : List (List ℕ)) → is_dollar b ≡ v → leaf_rows text ≡ r ∷ rs
    → list_all is_leaf_byte text ≡ list_all (list_all is_cell) (r ∷ rs)
    → (is_leaf_byte b && list_all is_leaf_byte text) ≡ list_all (list_all is_cell) (cond v ([] ∷ r ∷ rs) ((b ∷ r) ∷ rs))
bytes_step true b text r rs e f ih = ap (λ w. (is_cell b || w) && list_all is_leaf_byte text) e
    ∙ ap (λ w. w && list_all is_leaf_byte text) (or-true (is_cell b)) ∙ ih
bytes_step false b text r rs e f ih =
    ap (λ w. (is_cell b || w) && list_all is_leaf_byte text) e ∙ ap (λ w. w && list_all is_leaf_byte text) (or-false (is_cell b)) ∙ ap (λ w. is_cell b && w) ih
    ∙ sym (and_assoc (is_cell b) (list_all is_cell r) _)

abbrev head_of : List (List ℕ) → List ℕ
head_of [] = []
head_of (r ∷ rs) = r

abbrev tail_of : List (List ℕ) → List (List ℕ)
tail_of [] = []
tail_of (r ∷ rs) = rs

some_cond : (v : Bool) (b : ℕ) (rows : List (List ℕ)) → 0 < length (cond v ([] ∷ rows) (onto_first b rows))
some_cond true b rows = omega arith
some_cond false b [] = omega arith
some_cond false b (r ∷ rs) = omega arith

pub some_rows : (text : List ℕ) → 0 < length (leaf_rows text)
some_rows [] = omega arith
some_rows (b ∷ text) = some_cond (is_dollar b) b (leaf_rows text)

head_tail : (rows : List (List ℕ)) → 0 < length rows → rows ≡ head_of rows ∷ tail_of rows
head_tail [] h = absurd (omega arith)
head_tail (r ∷ rs) h = refl

cond_rows : (v : Bool) (b : ℕ) (rows : List (List ℕ)) (r : List ℕ) (rs : List (List ℕ)) → rows ≡ r ∷ rs
    → cond v ([] ∷ rows) (onto_first b rows) ≡ cond v ([] ∷ r ∷ rs) ((b ∷ r) ∷ rs)
cond_rows v b rows r rs h = ap (λ t. cond v ([] ∷ t) (onto_first b t)) h

bytes_of_rows : (text : List ℕ) → list_all is_leaf_byte text ≡ list_all (list_all is_cell) (leaf_rows text)
bytes_of_rows [] = refl
bytes_of_rows (b ∷ text) =
    let f = head_tail (leaf_rows text) (some_rows text) in
    bytes_step (is_dollar b) b text (head_of (leaf_rows text)) (tail_of (leaf_rows text)) refl f (bytes_of_rows text ∙ ap (list_all (list_all is_cell)) f)
    ∙ ap (list_all (list_all is_cell)) (sym (cond_rows (is_dollar b) b (leaf_rows text) (head_of (leaf_rows text)) (tail_of (leaf_rows text)) f))

abbrev is_short : List ℕ → Bool
is_short row = nat_le (length row) 8

both_all : (rows : List (List ℕ)) → (list_all (list_all is_cell) rows && list_all is_short rows) ≡ list_all is_row rows
both_all [] = refl
both_all (row ∷ rows) = and_mix (list_all is_cell row) (list_all (list_all is_cell) rows) (is_short row) (list_all is_short rows)
    ∙ ap (λ v. is_row row && v) (both_all rows)

last_empty : (rows : List (List ℕ)) → (list_all is_row rows && is_at_end rows) ≡ is_at_end rows
last_empty [] = refl
last_empty ([] ∷ []) = refl
last_empty ([] ∷ r ∷ rs) = and-false _
last_empty ((b ∷ r) ∷ []) = and-false _
last_empty ((b ∷ r) ∷ s ∷ rs) = and-false _

rows_in : (n : ℕ) (rows : List (List ℕ)) → (list_all is_row rows && is_at_end (drop n rows)) ≡ are_rows n rows
rows_in zero rows = last_empty rows
rows_in (suc n) [] = refl
rows_in (suc n) (row ∷ rows) = and_assoc (is_row row) (list_all is_row rows) (is_at_end (drop n rows)) ∙ ap (λ v. is_row row && v) (rows_in n rows)

pub leaf_is : (text : List ℕ) → is_leaf text ≡ are_rows 8 (leaf_rows text)
leaf_is text =
    ap (λ v. v && list_all is_short (leaf_rows text) && is_at_end (drop 8 (leaf_rows text))) (bytes_of_rows text)
    ∙ ap (λ v. v && is_at_end (drop 8 (leaf_rows text))) (both_all (leaf_rows text)) ∙ rows_in 8 (leaf_rows text)

pad : (n m : ℕ) (rows : List (List ℕ)) → n ≤ m → take n (map byte_of_row rows ++ replicate m 0) ≡ row_bytes n rows
pad zero m rows h = refl
pad (suc n) zero rows h = absurd (omega arith)
pad (suc n) (suc m) [] h = ap (λ (t : List ℕ). 0 ∷ t) (pad n m [] (omega arith))
pad (suc n) (suc m) (row ∷ rows) h = ap (λ (t : List ℕ). byte_of_row row ∷ t) (pad n (suc m) rows (omega arith))

pub leaf_bytes_are : (text : List ℕ) → leaf_bytes text ≡ row_bytes 8 (leaf_rows text)
leaf_bytes_are text = pad 8 8 (leaf_rows text) (omega arith)

-- ---- one row of several

-- a row that the end of its text ends is the same where `$` is there
ends-there : (n : ℕ) → n ≤ 8 → first_row (drop n (replicate 16 36)) ≡ []
ends-there zero h = refl
ends-there (suc zero) h = refl
ends-there (suc (suc zero)) h = refl
ends-there (suc (suc (suc zero))) h = refl
ends-there (suc (suc (suc (suc zero)))) h = refl
ends-there (suc (suc (suc (suc (suc zero))))) h = refl
ends-there (suc (suc (suc (suc (suc (suc zero)))))) h = refl
ends-there (suc (suc (suc (suc (suc (suc (suc zero))))))) h = refl
ends-there (suc (suc (suc (suc (suc (suc (suc (suc zero)))))))) h = refl
ends-there (suc (suc (suc (suc (suc (suc (suc (suc (suc n))))))))) h = absurd (omega (arith, h))

row-before : (text rest : List ℕ) → first_row rest ≡ [] → first_row (text ++ rest) ≡ first_row text
row-before [] rest h = h
row-before (b ∷ text) rest h = by (b == 36) (row-before text rest h)
  where
    by : (v : Bool) → first_row (text ++ rest) ≡ first_row text → cond v [] (b ∷ first_row (text ++ rest)) ≡ cond v [] (b ∷ first_row text)
    by true ih = refl
    by false ih = ap (λ (t : List ℕ). b ∷ t) ih

pub row-ended : (text : List ℕ) (n : ℕ) → n ≤ 8 → first_row (text ++ drop n (replicate 16 36)) ≡ first_row text
row-ended text n h = row-before text (drop n (replicate 16 36)) (ends-there n h)

-- ---- all rows of several

not_at_end : (text : List ℕ) → 0 < length text → is_at_end (leaf_rows text) ≡ false
not_at_end [] h = absurd (omega arith)
not_at_end (b ∷ text) h = by (is_dollar b) (leaf_rows text) (some_rows text)
  where
    by : (v : Bool) (rows : List (List ℕ)) → 0 < length rows → is_at_end (cond v ([] ∷ rows) (onto_first b rows)) ≡ false
    by v [] h = absurd (omega arith)
    by true (r ∷ rs) h = refl
    by false (r ∷ []) h = refl
    by false (r ∷ s ∷ rs) h = refl

pub at_end_is_empty : (text : List ℕ) → is_at_end (leaf_rows text) ≡ is_empty text
at_end_is_empty [] = refl
at_end_is_empty (b ∷ text) = not_at_end (b ∷ text) (omega arith)

pub none_left : (n : ℕ) → are_rows n [] ≡ true
none_left zero = refl
none_left (suc n) = refl

blank_left : (n : ℕ) → row_bytes n [] ≡ replicate n 0
blank_left zero = refl
blank_left (suc n) = ap (λ (t : List ℕ). 0 ∷ t) (blank_left n)

pub row_within : (text : List ℕ) → length (first_row text) ≤ length text
row_within [] = omega arith
row_within (b ∷ text) = by (b == 36) (row_within text)
  where
    by : (v : Bool) → length (first_row text) ≤ length text → length (cond v [] (b ∷ first_row text)) ≤ suc (length text)
    by true h = omega arith
    by false h = omega (arith, h)

rows_begin : (text : List ℕ) → leaf_rows text ≡ first_row text ∷ tail_of (leaf_rows text)
rows_begin [] = refl
rows_begin (b ∷ text) = by (b == 36) (rows_begin text)
  where
    by : (v : Bool) → leaf_rows text ≡ first_row text ∷ tail_of (leaf_rows text)
        → cond v ([] ∷ leaf_rows text) (onto_first b (leaf_rows text)) ≡ cond v [] (b ∷ first_row text)
        ∷ tail_of (cond v ([] ∷ leaf_rows text) (onto_first b (leaf_rows text)))
    by true ih = refl
    by false ih = ap (onto_first b) ih ∙ ap (λ rows. (b ∷ first_row text) ∷ tail_of (onto_first b rows)) (sym ih)

more_rows : (text : List ℕ) → length (first_row text) < length text → leaf_rows text ≡ first_row text ∷ leaf_rows (drop (suc (length (first_row text))) text)
more_rows [] h = absurd (omega arith)
more_rows (b ∷ text) h = by (b == 36) h (more_rows text)
  where
    by : (v : Bool) → length (cond v [] (b ∷ first_row text)) < suc (length text)
        → (length (first_row text) < length text → leaf_rows text ≡ first_row text ∷ leaf_rows (drop (suc (length (first_row text))) text))
        → cond v ([] ∷ leaf_rows text) (onto_first b (leaf_rows text))
        ≡ cond v [] (b ∷ first_row text) ∷ leaf_rows (drop (suc (length (cond v [] (b ∷ first_row text)))) (b ∷ text))
    by true h ih = refl
    by false h ih = ap (onto_first b) (ih (omega (arith, h)))

-- after a row that ends before its text does come the rows of what is left
rows_go_on : (text : List ℕ) → length (first_row text) < length text → leaf_rows text ≡ first_row text ∷ leaf_rows (drop (length (first_row text) + 1) text)
rows_go_on text h = more_rows text h ∙ ap (λ j. first_row text ∷ leaf_rows (drop j text)) (sym (add-one (length (first_row text))))

one_row : (text : List ℕ) → length (first_row text) ≡ length text → leaf_rows text ≡ first_row text ∷ []
one_row [] h = refl
one_row (b ∷ text) h = by (b == 36) h (one_row text)
  where
    by : (v : Bool) → length (cond v [] (b ∷ first_row text)) ≡ suc (length text)
        → (length (first_row text) ≡ length text → leaf_rows text ≡ first_row text ∷ [])
        → cond v ([] ∷ leaf_rows text) (onto_first b (leaf_rows text)) ≡ cond v [] (b ∷ first_row text) ∷ []
    by true h ih = absurd (omega (arith, h))
    by false h ih = ap (onto_first b) (ih (omega (arith, h)))

fewer : (k : ℕ) → k < 8 → 8 - k ≡ suc (8 - (k + 1))
fewer k h = omega (arith, h)

-- whether the rows of a text end a leaf, of which k rows have come
pub bad_row : (k : ℕ) (text : List ℕ) → k < 8 → is_row (first_row text) ≡ false → are_rows (8 - k) (leaf_rows text) ≡ false
bad_row k text h e =
    ap (are_rows (8 - k)) (rows_begin text) ∙ ap (λ n. are_rows n (first_row text ∷ tail_of (leaf_rows text))) (fewer k h)
    ∙ ap (λ v. v && are_rows (8 - (k + 1)) (tail_of (leaf_rows text))) e

pub last_row : (k : ℕ) (text : List ℕ) → k < 8 → length (first_row text) ≡ length text → is_row (first_row text) ≡ true
    → are_rows (8 - k) (leaf_rows text) ≡ true
last_row k text h l e =
    ap (are_rows (8 - k)) (one_row text l) ∙ ap (λ n. are_rows n (first_row text ∷ [])) (fewer k h) ∙ ap (λ v. v && are_rows (8 - (k + 1)) []) e
    ∙ none_left (8 - (k + 1))

pub good_row : (k : ℕ) (text : List ℕ) → k < 8 → length (first_row text) < length text → is_row (first_row text) ≡ true
    → are_rows (8 - k) (leaf_rows text) ≡ are_rows (8 - (k + 1)) (leaf_rows (drop (length (first_row text) + 1) text))
good_row k text h l e =
    let more = leaf_rows (drop (length (first_row text) + 1) text) in
    ap (are_rows (8 - k)) (rows_go_on text l) ∙ ap (λ n. are_rows n (first_row text ∷ more)) (fewer k h) ∙ ap (λ v. v && are_rows (8 - (k + 1)) more) e

-- the bytes of a leaf whose first k rows have these bytes, and the others are these rows
abbrev pub with_rows : ℕ → List ℕ → List (List ℕ) → List ℕ
with_rows k bytes rows = take k bytes ++ row_bytes (8 - k) rows

abbrev tail_bytes : List ℕ → List ℕ
tail_bytes [] = []
tail_bytes (b ∷ bytes) = bytes

put_last : (k n row : ℕ) (bytes cells : List ℕ) → drop k bytes ≡ replicate (suc n) 0 → row ≡ byte_of_row cells → take k bytes ++ row_bytes (suc n) (cells ∷ [])
    ≡ set bytes k row
put_last zero n row [] cells h e = cc
put_last (suc k) n row [] cells h e = cc
put_last zero n row (b ∷ bytes) cells h e = ap (λ r. r ∷ row_bytes n []) (sym e) ∙ ap (λ (t : List ℕ). row ∷ t) (blank_left n ∙ sym (ap tail_bytes h))
put_last (suc k) n row (b ∷ bytes) cells h e = ap (λ (t : List ℕ). b ∷ t) (put_last k n row bytes cells h e)

put_next : (k n row : ℕ) (bytes cells : List ℕ) (more : List (List ℕ)) → k < length bytes → row ≡ byte_of_row cells
    → take k bytes ++ row_bytes (suc n) (cells ∷ more) ≡ take (suc k) (set bytes k row) ++ row_bytes n more
put_next k n row [] cells more h e = absurd (omega (arith, h))
put_next zero n row (b ∷ bytes) cells more h e = ap (λ r. r ∷ row_bytes n more) (sym e)
put_next (suc k) n row (b ∷ bytes) cells more h e = ap (λ (t : List ℕ). b ∷ t) (put_next k n row bytes cells more (omega (arith, h)) e)

blank_behind : (k n row : ℕ) (bytes : List ℕ) → drop k bytes ≡ replicate (suc n) 0 → drop (suc k) (set bytes k row) ≡ replicate n 0
blank_behind zero n row [] h = cc
blank_behind (suc k) n row [] h = cc
blank_behind zero n row (b ∷ bytes) h = ap tail_bytes h
blank_behind (suc k) n row (b ∷ bytes) h = blank_behind k n row bytes h

-- the byte of the last row is put in, and the rows after it are empty
pub put_last_row : (k row : ℕ) (bytes text : List ℕ) → k < 8 → drop k bytes ≡ replicate (8 - k) 0 → length (first_row text) ≡ length text
    → row ≡ byte_of_row (first_row text)
    → with_rows k bytes (leaf_rows text) ≡ set bytes k row
put_last_row k row bytes text h z l e =
    ap (with_rows k bytes) (one_row text l) ∙ ap (λ n. take k bytes ++ row_bytes n (first_row text ∷ [])) (fewer k h)
    ∙ put_last k (8 - (k + 1)) row bytes (first_row text) (z ∙ ap (λ n. replicate n 0) (fewer k h)) e

-- the byte of a row is put in, and more rows come
pub put_row : (k row : ℕ) (bytes text : List ℕ) → k < 8 → length bytes ≡ 8 → length (first_row text) < length text → row ≡ byte_of_row (first_row text)
    → with_rows k bytes (leaf_rows text) ≡ with_rows (k + 1) (set bytes k row) (leaf_rows (drop (length (first_row text) + 1) text))
put_row k row bytes text h w l e =
    let more = leaf_rows (drop (length (first_row text) + 1) text) in
    ap (with_rows k bytes) (rows_go_on text l) ∙ ap (λ n. take k bytes ++ row_bytes n (first_row text ∷ more)) (fewer k h)
    ∙ put_next k (8 - (k + 1)) row bytes (first_row text) more (omega (arith, h, w)) e
    ∙ ap (λ j. take j (set bytes k row) ++ row_bytes (8 - (k + 1)) more) (sym (add-one k))

pub still_blank : (k row : ℕ) (bytes : List ℕ) → k < 8 → drop k bytes ≡ replicate (8 - k) 0 → drop (k + 1) (set bytes k row) ≡ replicate (8 - (k + 1)) 0
still_blank k row bytes h z =
    ap (λ j. drop j (set bytes k row)) (add-one k) ∙ blank_behind k (8 - (k + 1)) row bytes (z ∙ ap (λ n. replicate n 0) (fewer k h))
