-- The texts of rows: the tables are held against their definition at each of the 256 rows, by computing.
use Rattle.std.proofs.Common.{◌≡◌, ◌∙◌, ◌+◌, ◌-◌, ◌<◌, ◌≤◌, ◌++◌, ℕ, List, [], ◌∷◌, length, take, map, get_or, codes, w64, refl, ap, sym, arith, slice_index}
use Rattle.std.specs.Int.{to_le_bytes}
use Rattle.std.specs.List.{range_with_len}
use Rattle.std.proofs.lemmas.List.FromFn.{get_or-map-range_with_len}
use Rattle.life_mc.specs.declared.line_writing.TheConstants.{ROW_LENGTHS, ROW_WORDS}
use Rattle.life_mc.specs.Writing.{leaf_row_text, row_text}

-- the cells up to the last live one in the table, and the end of the row
abbrev pub in_table : ℕ → List ℕ
in_table row = take (length (row_text row) - 1) (to_le_bytes w64 (slice_index ROW_WORDS row)) ++ codes "$"

texts : map in_table (range_with_len 0 256) ≡ map row_text (range_with_len 0 256)
unfolding leaf_row_text
texts = refl

lengths : map (slice_index ROW_LENGTHS) (range_with_len 0 256) ≡ map (λ row. length (row_text row)) (range_with_len 0 256)
unfolding leaf_row_text
lengths = refl

-- the bytes that are missing from the text of the longest row
whole : ℕ → ℕ
whole row = 9 - length (row_text row) + length (row_text row)

wholes : map whole (range_with_len 0 256) ≡ map (λ _. 9) (range_with_len 0 256)
unfolding leaf_row_text whole
wholes = refl

pub text_in_table : (row : ℕ) → row < 256 → in_table row ≡ row_text row
text_in_table row h =
    sym (get_or-map-range_with_len in_table 0 256 row row [] h (omega arith)) ∙ ap (λ (t : List (List ℕ)). get_or t row []) texts
    ∙ get_or-map-range_with_len row_text 0 256 row row [] h (omega arith)

pub length_in_table : (row : ℕ) → row < 256 → slice_index ROW_LENGTHS row ≡ length (row_text row)
length_in_table row h =
    sym (get_or-map-range_with_len (slice_index ROW_LENGTHS) 0 256 row row 0 h (omega arith)) ∙ ap (λ (t : List ℕ). get_or t row 0) lengths
    ∙ get_or-map-range_with_len (λ row. length (row_text row)) 0 256 row row 0 h (omega arith)

whole_text : (row : ℕ) → row < 256 → 9 - length (row_text row) + length (row_text row) ≡ 9
unfolding whole
whole_text row h =
    sym (get_or-map-range_with_len whole 0 256 row row 0 h (omega arith)) ∙ ap (λ (t : List ℕ). get_or t row 0) wholes
    ∙ get_or-map-range_with_len (λ _. 9) 0 256 row row 0 h (omega arith)

-- it has at most eight cells and its end
pub short_text : (row : ℕ) → row < 256 → length (row_text row) ≤ 9
short_text row h = omega (arith, whole_text row h)

ended : (cells : List ℕ) → 1 ≤ length (cells ++ 36 ∷ [])
ended [] = omega arith
ended (b ∷ cells) = omega arith

-- it has its end
pub some_text : (row : ℕ) → 1 ≤ length (row_text row)
some_text row = ended _
