-- Leaf lines as rows of cells.
use Rattle.std.proofs.Common.{◌≡◌, ℕ, zero, suc, ◌+◌, ◌-◌, ◌*◌, ◌/◌, ◌%◌, ◌^◌, ◌<◌, ◌≤◌, List, [], ◌∷◌, ◌++◌, length, Bool, true, false, cond, not, ◌&&◌, refl, ap, sym, subst, ◌∙◌, arith, append_assoc, eqb-true, codes, slice_index, ◌==◌, nat_le, flat_map}
use Rattle.std.specs.List.{list_all, AllByRecursion, onto_first as onto_first_byte, slice_index_or}
use Rattle.std.proofs.lemmas.Bool.Decides.{nat_tests}
use Rattle.std.proofs.lemmas.Bool.{not-true}
use Rattle.life_base.proofs.NamesRead.{solid, all_pass}
use Rattle.life_base.proofs.RuleForms.{around_trim, trimmed_around}
use Rattle.life_base.proofs.Basics.{right_of_and, left_of_and}
use Rattle.life_base.specs.Text.{trim, IsAround}
use Rattle.life_mc.specs.Cells.{leaf_cell}
use Rattle.life_mc.specs.Grammar.{IsLeafLine, state_in_row, is_row, is_cell}
use Rattle.life_mc.specs.Reading.{is_leaf, is_leaf_byte, leaf_bytes, leaf_rows, byte_of_row, is_at_end}
use Rattle.life_mc.specs.Standing.{are_rows, row_bytes}
use Rattle.life_mc.proofs.Leaves.{leaf_is, leaf_bytes_are, some_rows, none_left}
use Rattle.life_mc.proofs.ReadBack.{row_ended, cell_no_dollar}
use Rattle.life_mc.proofs.Valid.{row_fits}
use Rattle.life_mc.proofs.TestFacts.{weigh, at_most_one}

-- ---- rows, and the text that they make

abbrev ended : List ℕ → List ℕ
ended row = row ++ codes "$"

no_dollars : (row : List ℕ) → is_row row ≡ true → list_all (λ b. not (b == 36)) row ≡ true
no_dollars row h = all_pass is_cell (λ b. not (b == 36)) cell_no_dollar row (left_of_and (list_all is_cell row) _ h)

one_row : (row : List ℕ) → list_all (λ b. not (b == 36)) row ≡ true → leaf_rows row ≡ row ∷ []
one_row [] h = refl
one_row (b ∷ row) h =
    let e : (b == 36) ≡ false = not-true (b == 36) (left_of_and _ _ h) in
    ap (λ v. cond v ([] ∷ leaf_rows row) (onto_first_byte b (leaf_rows row))) e ∙ ap (onto_first_byte b) (one_row row (right_of_and (not (b == 36)) _ h))

regroup : (row rest last : List ℕ) → (ended row ++ rest) ++ last ≡ row ++ 36 ∷ (rest ++ last)
regroup row rest last = ap (λ (t : List ℕ). t ++ last) (append_assoc row (36 ∷ []) rest) ∙ append_assoc row (36 ∷ rest) last

-- the rows of a text that rows make
split_again : (rows : List (List ℕ)) (last : List ℕ) → list_all is_row (rows ++ last ∷ []) ≡ true → leaf_rows (flat_map ended rows ++ last) ≡ rows
    ++ last ∷ []
split_again [] last h = one_row last (no_dollars last (left_of_and (is_row last) _ h))
split_again (row ∷ rows) last h =
    ap leaf_rows (regroup row (flat_map ended rows) last) ∙ row_ended row (flat_map ended rows ++ last) (no_dollars row (left_of_and (is_row row) _ h))
    ∙ ap (λ (t : List (List ℕ)). row ∷ t) (split_again rows last (right_of_and (is_row row) _ h))

-- all but the last of some rows, and the last
prefix_rows : List (List ℕ) → List (List ℕ)
prefix_rows [] = []
prefix_rows (row ∷ []) = []
prefix_rows (row ∷ next ∷ rows) = row ∷ prefix_rows (next ∷ rows)

last_row : List (List ℕ) → List ℕ
last_row [] = []
last_row (row ∷ []) = row
last_row (row ∷ next ∷ rows) = last_row (next ∷ rows)

rows_apart : (rows : List (List ℕ)) → 0 < length rows → rows ≡ prefix_rows rows ++ last_row rows ∷ []
unfolding prefix_rows last_row
rows_apart [] h = absurd (omega arith)
rows_apart (row ∷ []) h = refl
rows_apart (row ∷ next ∷ rows) h = ap (λ (t : List (List ℕ)). row ∷ t) (rows_apart (next ∷ rows) (omega arith))

joined : List (List ℕ) → List ℕ
joined rows = flat_map ended (prefix_rows rows) ++ last_row rows

joined_dollar : (rows : List (List ℕ)) → 0 < length rows → joined ([] ∷ rows) ≡ 36 ∷ joined rows
unfolding joined prefix_rows last_row
joined_dollar [] h = absurd (omega arith)
joined_dollar (row ∷ rows) h = refl

joined_byte : (b : ℕ) (rows : List (List ℕ)) → 0 < length rows → joined (onto_first_byte b rows) ≡ b ∷ joined rows
unfolding joined prefix_rows last_row
joined_byte b [] h = absurd (omega arith)
joined_byte b (row ∷ []) h = refl
joined_byte b (row ∷ next ∷ rows) h = refl

-- a text is its rows, joined
join_step : (v : Bool) (b : ℕ) (text : List ℕ) → (b == 36) ≡ v → joined (leaf_rows text) ≡ text
    → joined (cond v ([] ∷ leaf_rows text) (onto_first_byte b (leaf_rows text))) ≡ b ∷ text
join_step true b text e ih = joined_dollar (leaf_rows text) (some_rows text) ∙ ap (λ (t : List ℕ). 36 ∷ t) ih ∙ ap (λ c. c ∷ text) (sym (eqb-true b 36 e))
join_step false b text e ih = joined_byte b (leaf_rows text) (some_rows text) ∙ ap (λ (t : List ℕ). b ∷ t) ih

join_rows : (text : List ℕ) → joined (leaf_rows text) ≡ text
unfolding joined prefix_rows last_row
join_rows [] = refl
join_rows (b ∷ text) = join_step (b == 36) b text refl (join_rows text)

is_joined : (text : List ℕ) → text ≡ flat_map ended (prefix_rows (leaf_rows text)) ++ last_row (leaf_rows text)
unfolding joined
is_joined text = sym (join_rows text)

-- ---- at most eight rows

rows_may : (n : ℕ) (rows : List (List ℕ)) (last : List ℕ) → list_all is_row (rows ++ last ∷ []) ≡ true → length rows ≤ n → (length rows ≡ n → last ≡ [])
    → are_rows n (rows ++ last ∷ []) ≡ true
rows_may zero [] last h l e = ap (λ (t : List ℕ). is_at_end (t ∷ [])) (e refl)
rows_may zero (row ∷ rows) last h l e = absurd (omega arith)
rows_may (suc n) [] last h l e = ap (λ v. v && are_rows n []) (left_of_and (is_row last) _ h) ∙ none_left n
rows_may (suc n) (row ∷ rows) last h l e =
    ap (λ v. v && are_rows n (rows ++ last ∷ [])) (left_of_and (is_row row) _ h) ∙ rows_may n rows last (right_of_and (is_row row) _ h) (omega arith)
    (λ k. e (ap suc k))

record Rows (n : ℕ) (rows : List (List ℕ)) (last : List ℕ) : Type 0 where
  cells : list_all is_row (rows ++ last ∷ []) ≡ true
  at_most : length rows ≤ n
  full : length rows ≡ n → last ≡ []

not_end : (row : List ℕ) (rows : List (List ℕ)) (last : List ℕ) → is_at_end (row ∷ (rows ++ last ∷ [])) ≡ true → ⊥
not_end [] [] last h = cc
not_end [] (r ∷ rows) last h = cc
not_end (b ∷ row) [] last h = cc
not_end (b ∷ row) (r ∷ rows) last h = cc

rows_are : (n : ℕ) (rows : List (List ℕ)) (last : List ℕ) → are_rows n (rows ++ last ∷ []) ≡ true → Rows n rows last
rows_are zero [] [] h = record { cells = refl; at_most = omega arith; full = λ e. refl }
rows_are zero [] (b ∷ last) h = cc
rows_are zero (row ∷ rows) last h = absurd (not_end row rows last h)
rows_are (suc n) [] last h = record {
  cells = ap (λ v. v && true) (left_of_and (is_row last) _ h);
  at_most = omega arith;
  full = λ e. absurd (omega arith);
}
rows_are (suc n) (row ∷ rows) last h =
    let r = rows_are n rows last (right_of_and (is_row row) _ h) in
    record {
      cells = ap (λ v. v && list_all is_row (rows ++ last ∷ [])) (left_of_and (is_row row) _ h) ∙ r.cells;
      at_most = omega (arith, r.at_most);
      full = λ e. r.full (omega arith);
    }

-- ---- a row's byte and its cells

abbrev live : List ℕ → ℕ → Bool
live row c = slice_index row c == 42

abbrev weighed : List ℕ → ℕ
weighed row =
    128 * state_in_row row 0 + 64 * state_in_row row 1 + 32 * state_in_row row 2 + 16 * state_in_row row 3 + 8 * state_in_row row 4 + 4 * state_in_row row 5
    + 2 * state_in_row row 6
    + state_in_row row 7

row_weighed : (row : List ℕ) → byte_of_row row ≡ weighed row
row_weighed row = omega (
  arith,
  weigh (live row 0) 128,
  weigh (live row 1) 64,
  weigh (live row 2) 32,
  weigh (live row 3) 16,
  weigh (live row 4) 8,
  weigh (live row 5) 4,
  weigh (live row 6) 2,
  weigh (live row 7) 1,
)

abbrev IsStateAt : ℕ → List ℕ → ℕ → Type 0
IsStateAt byte row x = byte / 2 ^ (7 - x) % 2 ≡ state_in_row row x

bits_of_sum : (n a b c d e f g h : ℕ) → n ≡ 128 * a + 64 * b + 32 * c + 16 * d + 8 * e + 4 * f + 2 * g + h → a ≤ 1 → b ≤ 1 → c ≤ 1 → d ≤ 1 → e ≤ 1 → f ≤ 1
    → g ≤ 1 → h ≤ 1
    → (n / 128 % 2 ≡ a) × (n / 64 % 2 ≡ b) × (n / 32 % 2 ≡ c) × (n / 16 % 2 ≡ d) × (n / 8 % 2 ≡ e) × (n / 4 % 2 ≡ f) × (n / 2 % 2 ≡ g) × (n / 1 % 2 ≡ h)
bits_of_sum n a b c d e f g h s p q r t u v w x = (omega arith, omega arith, omega arith, omega arith, omega arith, omega arith, omega arith, omega arith)

sum_of_bits : (n : ℕ) → n < 256 → n ≡ 128 * (n / 128 % 2) + 64 * (n / 64 % 2) + 32 * (n / 32 % 2) + 16 * (n / 16 % 2) + 8 * (n / 8 % 2) + 4 * (n / 4 % 2)
    + 2 * (n / 2 % 2) + n / 1 % 2
sum_of_bits n h = omega arith

state_at : (row : List ℕ) (x : ℕ) → x < 8 → IsStateAt (byte_of_row row) row x
state_at row x h =
    let b = bits_of_sum (byte_of_row row) (state_in_row row 0) (state_in_row row 1) (state_in_row row 2) (state_in_row row 3) (state_in_row row 4)
    (state_in_row row 5) (state_in_row row 6)
    (state_in_row row 7) (row_weighed row)
    (at_most_one (live row 0)) (at_most_one (live row 1)) (at_most_one (live row 2)) (at_most_one (live row 3))
    (at_most_one (live row 4)) (at_most_one (live row 5)) (at_most_one (live row 6)) (at_most_one (live row 7)) in
    by x h b.0 b.1 b.2 b.3 b.4 b.5 b.6 b.7
  where
    by : (x : ℕ) → x < 8 → IsStateAt (byte_of_row row) row 0 → IsStateAt (byte_of_row row) row 1 → IsStateAt (byte_of_row row) row 2
        → IsStateAt (byte_of_row row) row 3
        → IsStateAt (byte_of_row row) row 4 → IsStateAt (byte_of_row row) row 5 → IsStateAt (byte_of_row row) row 6 → IsStateAt (byte_of_row row) row 7
        → IsStateAt (byte_of_row row) row x
    by zero h a b c d e f g i = a
    by (suc zero) h a b c d e f g i = b
    by (suc (suc zero)) h a b c d e f g i = c
    by (suc (suc (suc zero))) h a b c d e f g i = d
    by (suc (suc (suc (suc zero)))) h a b c d e f g i = e
    by (suc (suc (suc (suc (suc zero))))) h a b c d e f g i = f
    by (suc (suc (suc (suc (suc (suc zero)))))) h a b c d e f g i = g
    by (suc (suc (suc (suc (suc (suc (suc zero))))))) h a b c d e f g i = i
    by (suc (suc (suc (suc (suc (suc (suc (suc x)))))))) h a b c d e f g i = absurd (omega arith)

byte_is : (byte : ℕ) (row : List ℕ) → byte < 256 → ((x : ℕ) → x < 8 → IsStateAt byte row x) → byte ≡ byte_of_row row
byte_is byte row h s =
    omega (
      arith,
      sum_of_bits byte h,
      s 0 (omega arith),
      s 1 (omega arith),
      s 2 (omega arith),
      s 3 (omega arith),
      s 4 (omega arith),
      s 5 (omega arith),
      s 6 (omega arith),
      s 7 (omega arith),
      row_weighed row,
    )

-- ---- all bytes

bytes_are : (n : ℕ) (bytes : List ℕ) (rows : List (List ℕ)) → length bytes ≡ n → AllByRecursion (λ byte. byte < 256) bytes
    → ((y : ℕ) → y < n → (x : ℕ) → x < 8 → IsStateAt (slice_index bytes y) (slice_index_or rows y []) x) → bytes ≡ row_bytes n rows
bytes_are zero [] rows e f s = refl
bytes_are zero (byte ∷ bytes) rows e f s = absurd (omega arith)
bytes_are (suc n) [] rows e f s = absurd (omega arith)
bytes_are (suc n) (byte ∷ bytes) [] e f s =
    ap (λ b. b ∷ bytes) (byte_is byte [] f.0 (s 0 (omega arith)))
    ∙ ap (λ (t : List ℕ). 0 ∷ t) (bytes_are n bytes [] (omega arith) f.1 (λ y l. s (suc y) (omega arith)))
bytes_are (suc n) (byte ∷ bytes) (row ∷ rows) e f s =
    ap (λ b. b ∷ bytes) (byte_is byte row f.0 (s 0 (omega arith)))
    ∙ ap (λ (t : List ℕ). byte_of_row row ∷ t) (bytes_are n bytes rows (omega arith) f.1 (λ y l. s (suc y) (omega arith)))

bytes_at : (n : ℕ) (rows : List (List ℕ)) (y : ℕ) → y < n → slice_index (row_bytes n rows) y ≡ byte_of_row (slice_index_or rows y [])
bytes_at zero rows y h = absurd (omega arith)
bytes_at (suc n) [] zero h = refl
bytes_at (suc n) [] (suc y) h = bytes_at n [] y (omega arith)
bytes_at (suc n) (row ∷ rows) zero h = refl
bytes_at (suc n) (row ∷ rows) (suc y) h = bytes_at n rows y (omega arith)

bytes_long : (n : ℕ) (rows : List (List ℕ)) → length (row_bytes n rows) ≡ n
bytes_long zero rows = refl
bytes_long (suc n) [] = ap suc (bytes_long n [])
bytes_long (suc n) (row ∷ rows) = ap suc (bytes_long n rows)

bytes_fit : (n : ℕ) (rows : List (List ℕ)) → AllByRecursion (λ byte. byte < 256) (row_bytes n rows)
bytes_fit zero rows = tt
bytes_fit (suc n) [] = (omega arith, bytes_fit n [])
bytes_fit (suc n) (row ∷ rows) = (row_fits 0 row, bytes_fit n rows)

-- ---- a leaf line

leaf_byte_solid : (b : ℕ) → is_leaf_byte b ≡ true → solid b ≡ true
leaf_byte_solid b h = grind (arith, nat_tests)

leaf_alone : (text : List ℕ) → is_leaf text ≡ true → list_all is_leaf_byte text ≡ true
leaf_alone text h =
    left_of_and (list_all is_leaf_byte text) _ (left_of_and (list_all is_leaf_byte text && list_all (λ row. nat_le (length row) 8) (leaf_rows text)) _ h)

all_solid : (text : List ℕ) → is_leaf text ≡ true → list_all solid text ≡ true
all_solid text h = all_pass is_leaf_byte solid leaf_byte_solid text (leaf_alone text h)

some_text : (rows : List (List ℕ)) (last : List ℕ) → 0 < length rows + length last → 0 < length (flat_map ended rows ++ last)
some_text [] [] h = absurd (omega arith)
some_text [] (b ∷ last) h = omega arith
some_text ([] ∷ rows) last h = omega arith
some_text ((b ∷ row) ∷ rows) last h = omega arith

first_leaf_byte : (text : List ℕ) → 0 < length text → is_leaf text ≡ true → is_leaf_byte (slice_index text 0) ≡ true
first_leaf_byte [] l h = absurd (omega arith)
first_leaf_byte (b ∷ text) l h = left_of_and (is_leaf_byte b) _ (leaf_alone (b ∷ text) h)

-- what a leaf line says
pub record SaysLeaf (line bytes : List ℕ) : Type 0 where
  pub begins : is_leaf_byte (slice_index (trim line) 0) ≡ true
  pub leaf : is_leaf (trim line) ≡ true
  pub rows : bytes ≡ leaf_bytes (trim line)

pub leaf_says : (line bytes : List ℕ) → IsLeafLine line bytes → SaysLeaf line bytes
leaf_says line bytes h =
    let text : List ℕ = flat_map ended h.rows ++ h.last in
    let rows : leaf_rows text ≡ h.rows ++ h.last ∷ [] = split_again h.rows h.last h.cells in
    let leaf : is_leaf text ≡ true = leaf_is text ∙ ap (are_rows 8) rows ∙ rows_may 8 h.rows h.last h.cells h.at_most h.full in
    let long : 0 < length text = some_text h.rows h.last h.some in
    let same : trim line ≡ text = around_trim line text h.is long (all_solid text leaf) in
    let bytes_of : bytes ≡ leaf_bytes text =
    bytes_are 8 bytes (h.rows ++ h.last ∷ []) h.eight h.fit (λ y k x l. h.states x y l k) ∙ ap (row_bytes 8) (sym rows) ∙ sym (leaf_bytes_are text) in
    record {
      begins = ap (λ t. is_leaf_byte (slice_index t 0)) same ∙ first_leaf_byte text long leaf;
      leaf = ap is_leaf same ∙ leaf;
      rows = bytes_of ∙ ap leaf_bytes (sym same);
    }

byte_there : (text : List ℕ) → is_leaf_byte (slice_index text 0) ≡ true → 0 < length text
byte_there [] h = cc
byte_there (b ∷ text) h = omega arith

some_parts : (rows : List (List ℕ)) (last : List ℕ) → 0 < length (flat_map ended rows ++ last) → 0 < length rows + length last
some_parts [] last h = omega arith
some_parts (row ∷ rows) last h = omega arith

-- a line whose trimmed text is a leaf is a leaf line
pub is_leaf_line : (line : List ℕ) → is_leaf_byte (slice_index (trim line) 0) ≡ true → is_leaf (trim line) ≡ true → IsLeafLine line (leaf_bytes (trim line))
is_leaf_line line b h =
    let text : List ℕ = trim line in
    let rows : List (List ℕ) = prefix_rows (leaf_rows text) in
    let last : List ℕ = last_row (leaf_rows text) in
    let apart : leaf_rows text ≡ rows ++ last ∷ [] = rows_apart (leaf_rows text) (some_rows text) in
    let are : Rows 8 rows last = rows_are 8 rows last (sym (ap (are_rows 8) apart) ∙ sym (leaf_is text) ∙ h) in
    let bytes : leaf_bytes text ≡ row_bytes 8 (rows ++ last ∷ []) = leaf_bytes_are text ∙ ap (row_bytes 8) apart in
    let F : List ℕ → Type 0 = λ bs. AllByRecursion (λ byte. byte < 256) bs in
    let is : text ≡ flat_map ended rows ++ last = is_joined text in
    let A : List ℕ → Type 0 = λ t. IsAround line t in
    record {
      rows = rows;
      last = last;
      is = subst A is (trimmed_around line);
      some = some_parts rows last (let l : 0 < length text = byte_there text b in let e = ap length is in omega arith);
      cells = are.cells;
      at_most = are.at_most;
      full = are.full;
      eight = ap length bytes ∙ bytes_long 8 (rows ++ last ∷ []);
      fit = subst F (sym bytes) (bytes_fit 8 (rows ++ last ∷ []));
      states = λ x y h k.
          ap (λ bs. leaf_cell bs x y) bytes ∙ ap (λ byte. byte / 2 ^ (7 - x) % 2) (bytes_at 8 (rows ++ last ∷ []) y k)
          ∙ state_at (slice_index_or (rows ++ last ∷ []) y []) x h;
    }
