-- The text of a file, read back: the parts.
use Rattle.std.proofs.Common.{◌≡◌, ℕ, zero, suc, ◌<◌, List, [], ◌∷◌, ◌++◌, length, Bool, true, false, cond, not, ◌&&◌, refl, ap, ◌∙◌, arith, append_assoc, eqb-true, append-nil, sym, ◌==◌, flat_map, map}
use Rattle.std.specs.List.{list_all, AllByRecursion, onto_first as onto_first_byte}
use Rattle.std.proofs.lemmas.Bool.Decides.{nat_tests}
use Rattle.std.proofs.lemmas.Bool.{not-true}
use Rattle.life_base.specs.Text.{without_last, words_of}
use Rattle.life_mc.specs.Reading.{byte_of_row, leaf_rows, is_leaf, leaf_bytes}
use Rattle.life_mc.specs.Writing.{leaf_row_text, row_text}
use Rattle.life_mc.specs.Grammar.{is_cell, is_row}
use Rattle.life_mc.specs.Standing.{are_rows, row_bytes}
use Rattle.life_mc.proofs.Leaves.{leaf_is, leaf_bytes_are}
use Rattle.life_mc.proofs.Around.{first_word}
use Rattle.life_base.proofs.NamesRead.{all_pass, solid}
use Rattle.life_base.proofs.RoundTrip.{all_below, all_below_at}
use Rattle.life_base.proofs.Basics.{right_of_and, left_of_and}

abbrev pub has_no_feed : List ℕ → Bool
has_no_feed text = list_all (λ b. not (b == 10)) text

-- the cells of a row that are written
abbrev pub written : ℕ → List ℕ
written row = without_last (λ b. b == 46) (leaf_row_text row)

abbrev row_test : ℕ → Bool
row_test row = (byte_of_row (written row) == row) && is_row (written row)

each_row : all_below 256 row_test ≡ true
unfolding leaf_row_text
each_row = refl

-- a row's text says the row
pub row_again : (row : ℕ) → row < 256 → byte_of_row (written row) ≡ row
row_again row h = eqb-true _ _ (left_of_and _ _ (all_below_at 256 row_test row each_row h))

pub row_is_row : (row : ℕ) → row < 256 → is_row (written row) ≡ true
row_is_row row h = right_of_and (byte_of_row (written row) == row) _ (all_below_at 256 row_test row each_row h)

-- cells, ended by `$`, are the first row
pub row_ended : (cells rest : List ℕ) → list_all (λ b. not (b == 36)) cells ≡ true → leaf_rows (cells ++ 36 ∷ rest) ≡ cells ∷ leaf_rows rest
row_ended [] rest h = refl
row_ended (b ∷ cells) rest h =
    let e : (b == 36) ≡ false = not-true (b == 36) (left_of_and _ _ h) in
    ap (λ v. cond v ([] ∷ leaf_rows (cells ++ 36 ∷ rest)) (onto_first_byte b (leaf_rows (cells ++ 36 ∷ rest)))) e
    ∙ ap (onto_first_byte b) (row_ended cells rest (right_of_and (not (b == 36)) _ h))

pub cell_no_dollar : (b : ℕ) → is_cell b ≡ true → not (b == 36) ≡ true
cell_no_dollar b h = grind (arith, nat_tests)

no_dollar : (row : ℕ) → row < 256 → list_all (λ b. not (b == 36)) (written row) ≡ true
no_dollar row h = all_pass is_cell (λ b. not (b == 36)) cell_no_dollar (written row) (left_of_and (list_all is_cell (written row)) _ (row_is_row row h))

-- the rows of a leaf's text, and the empty one after the last `$`
rows_again : (rows : List ℕ) → AllByRecursion (λ row. row < 256) rows → leaf_rows (flat_map row_text rows) ≡ map written rows ++ [] ∷ []
rows_again [] h = refl
rows_again (row ∷ rows) h =
    ap leaf_rows (append_assoc (written row) (36 ∷ []) (flat_map row_text rows))
    ∙ row_ended (written row) (flat_map row_text rows) (no_dollar row h.0) ∙ ap (λ (t : List (List ℕ)). written row ∷ t) (rows_again rows h.1)

bytes_again : (n : ℕ) (rows : List ℕ) → length rows ≡ n → AllByRecursion (λ row. row < 256) rows → row_bytes n (map written rows ++ [] ∷ []) ≡ rows
bytes_again zero [] e h = refl
bytes_again zero (row ∷ rows) e h = absurd (omega arith)
bytes_again (suc n) [] e h = absurd (omega arith)
bytes_again (suc n) (row ∷ rows) e h =
    ap (λ b. b ∷ row_bytes n (map written rows ++ [] ∷ [])) (row_again row h.0) ∙ ap (λ (t : List ℕ). row ∷ t) (bytes_again n rows (omega arith) h.1)

are_rows_again : (n : ℕ) (rows : List ℕ) → length rows ≡ n → AllByRecursion (λ row. row < 256) rows → are_rows n (map written rows ++ [] ∷ []) ≡ true
are_rows_again zero [] e h = refl
are_rows_again zero (row ∷ rows) e h = absurd (omega arith)
are_rows_again (suc n) [] e h = absurd (omega arith)
are_rows_again (suc n) (row ∷ rows) e h =
    ap (λ v. v && are_rows n (map written rows ++ [] ∷ [])) (row_is_row row h.0) ∙ are_rows_again n rows (omega arith) h.1

-- the text of a leaf says the leaf
pub leaf_again : (rows : List ℕ) → length rows ≡ 8 → AllByRecursion (λ row. row < 256) rows
    → (is_leaf (flat_map row_text rows) ≡ true) × (leaf_bytes (flat_map row_text rows) ≡ rows)
leaf_again rows e h = (
  leaf_is (flat_map row_text rows) ∙ ap (are_rows 8) (rows_again rows h) ∙ are_rows_again 8 rows e h,
  leaf_bytes_are (flat_map row_text rows) ∙ ap (row_bytes 8) (rows_again rows h) ∙ bytes_again 8 rows e h,
)

-- ---- words with one space between them

pub word_then : (b : ℕ) (word rest : List ℕ) → list_all solid (b ∷ word) ≡ true → words_of ((b ∷ word) ++ 32 ∷ rest) ≡ (b ∷ word) ∷ words_of rest
word_then b word rest h = first_word b word (32 ∷ rest) h refl

pub word_alone : (b : ℕ) (word : List ℕ) → list_all solid (b ∷ word) ≡ true → words_of (b ∷ word) ≡ (b ∷ word) ∷ []
word_alone b word h = ap words_of (sym (append-nil (b ∷ word))) ∙ first_word b word [] h refl
