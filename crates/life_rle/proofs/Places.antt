-- The sums after an item follow those before it: so places can be kept as running numbers.
use Rattle.std.proofs.Common.{◌≡◌, ℕ, ◌+◌, Bool, true, false, cond, List, [], ◌∷◌, ◌++◌, refl, ap, ◌∙◌, ℤ, pos, ◌+ℤ◌, arith, sym}
use Rattle.std.proofs.lemmas.Int.{ints}
use Rattle.std.specs.List.{list_any}
use Rattle.std.proofs.lemmas.List.Folds.{list_any-append}
use mathlib.Core.Bool.{or-false, or-true}
use Rattle.life_rle.specs.declared.item.Item.{Item}
use Rattle.life_rle.specs.declared.item.Item.TheVariants.{Cells, RowEnds}
use Rattle.life_rle.specs.declared.position.Position.{Position}
use Rattle.life_rle.specs.Pattern.{PlacedItem, placed_item, placed_after, rows_in, columns_in, is_row_end}

pub regroup : (z : ℤ) (a b : ℕ) → z +ℤ pos (a + b) ≡ (z +ℤ pos a) +ℤ pos b
regroup z a b = omega (arith, ints)

pub cond_zero : (p : Bool) (n : ℕ) → (p ≡ true → n ≡ 0) → cond p 0 n ≡ n
cond_zero true n h = sym (h refl)
cond_zero false n h = refl

pub rows_in-Cells : (before : List Item) (n s : ℕ) → rows_in (before ++ Cells n s ∷ []) ≡ rows_in before
rows_in-Cells [] n s = refl
rows_in-Cells (Cells m t ∷ before) n s = rows_in-Cells before n s
rows_in-Cells (RowEnds m ∷ before) n s = ap (λ k. m + k) (rows_in-Cells before n s)

pub rows_in-RowEnds : (before : List Item) (n : ℕ) → rows_in (before ++ RowEnds n ∷ []) ≡ rows_in before + n
rows_in-RowEnds [] n = omega arith
rows_in-RowEnds (Cells m t ∷ before) n = rows_in-RowEnds before n
rows_in-RowEnds (RowEnds m ∷ before) n = let more = rows_in-RowEnds before n in omega (arith, more)

columns_in-cond : (b : Bool) (m k n : ℕ) → cond b (k + n) (m + (k + n)) ≡ cond b k (m + k) + n
columns_in-cond true m k n = refl
columns_in-cond false m k n = omega arith

pub columns_in-Cells : (before : List Item) (n s : ℕ) → columns_in (before ++ Cells n s ∷ []) ≡ columns_in before + n
columns_in-Cells [] n s = omega arith
columns_in-Cells (Cells m t ∷ before) n s =
    let test : list_any is_row_end (before ++ Cells n s ∷ []) ≡ list_any is_row_end before = list_any-append is_row_end before (Cells n s ∷ [])
    ∙ or-false (list_any is_row_end before) in
    ap (λ b. cond b (columns_in (before ++ Cells n s ∷ [])) (m + columns_in (before ++ Cells n s ∷ []))) test
    ∙ ap (λ k. cond (list_any is_row_end before) k (m + k)) (columns_in-Cells before n s)
    ∙ columns_in-cond (list_any is_row_end before) m (columns_in before) n
columns_in-Cells (RowEnds m ∷ before) n s = columns_in-Cells before n s

pub columns_in-RowEnds : (before : List Item) (n : ℕ) → columns_in (before ++ RowEnds n ∷ []) ≡ 0
columns_in-RowEnds [] n = refl
columns_in-RowEnds (Cells m t ∷ before) n =
    let test : list_any is_row_end (before ++ RowEnds n ∷ []) ≡ true = list_any-append is_row_end before (RowEnds n ∷ [])
    ∙ or-true (list_any is_row_end before) in
    ap (λ b. cond b (columns_in (before ++ RowEnds n ∷ [])) (m + columns_in (before ++ RowEnds n ∷ []))) test
    ∙ columns_in-RowEnds before n
columns_in-RowEnds (RowEnds m ∷ before) n = columns_in-RowEnds before n

-- the items from a place on, rows beginning at the column `left`
abbrev pub placed_from : ℤ → ℤ → ℤ → List Item → List PlacedItem
placed_from left column row [] = []
placed_from left column row (Cells n s ∷ items) = record { row = row; column = column; item = Cells n s } ∷ placed_from left (column +ℤ pos n) row items
placed_from left column row (RowEnds n ∷ items) = record { row = row; column = column; item = RowEnds n } ∷ placed_from left left (row +ℤ pos n) items

-- the running places are those of the sums
pub placed_behind-from : (position : Position) (before items : List Item) → placed_after position before items ≡ placed_from position.x
    (position.x +ℤ pos (columns_in before)) (position.y +ℤ pos (rows_in before)) items
placed_behind-from position before [] = refl
placed_behind-from position before (Cells n s ∷ items) =
    ap (λ ps. placed_item position before (Cells n s) ∷ ps) (placed_behind-from position (before ++ Cells n s ∷ []) items
    ∙ ap (λ c. placed_from position.x (position.x +ℤ pos c) (position.y +ℤ pos (rows_in (before ++ Cells n s ∷ []))) items) (columns_in-Cells before n s)
    ∙ ap (λ c. placed_from position.x c (position.y +ℤ pos (rows_in (before ++ Cells n s ∷ []))) items) (regroup position.x (columns_in before) n)
    ∙ ap (λ r. placed_from position.x ((position.x +ℤ pos (columns_in before)) +ℤ pos n) (position.y +ℤ pos r) items) (rows_in-Cells before n s))
placed_behind-from position before (RowEnds n ∷ items) =
    ap (λ ps. placed_item position before (RowEnds n) ∷ ps) (placed_behind-from position (before ++ RowEnds n ∷ []) items
    ∙ ap (λ c. placed_from position.x (position.x +ℤ pos c) (position.y +ℤ pos (rows_in (before ++ RowEnds n ∷ []))) items) (columns_in-RowEnds before n)
    ∙ ap (λ c. placed_from position.x c (position.y +ℤ pos (rows_in (before ++ RowEnds n ∷ []))) items) (omega (arith, ints))
    ∙ ap (λ r. placed_from position.x position.x (position.y +ℤ pos r) items) (rows_in-RowEnds before n)
    ∙ ap (λ r. placed_from position.x position.x r items) (omega (arith, ints)))
