-- The items of extended RLE stand where they stand in the layer below, and so the cells are the same.
use Rattle.std.proofs.Common.{◌≡◌, ℕ, ◌+◌, List, [], ◌∷◌, ◌++◌, map, Bool, true, false, cond, not, ◌&&◌, refl, ap, ◌∙◌, sym, arith, nat_lt, Option, Some, None, Result, Ok, Err, ℤ, pos, ◌+ℤ◌, int_le, int_lt}
use Rattle.std.specs.Ordering.{int_eq}
use Rattle.std.specs.List.{list_any}
use Rattle.std.proofs.lemmas.Bool.Decides.{nat_tests}
use Rattle.std.proofs.lemmas.List.{map-append}
use Rattle.life_base.specs.declared.kind.Kind.{Kind}
use Rattle.life_base.specs.declared.kind.Kind.TheVariants as kinds
use Rattle.life_base.specs.declared.rule.Rule.{Rule as LayerRule}
use Rattle.life_base.specs.declared.rule.Rule.TheVariants.{Life, Named}
use Rattle.life_rle.specs.declared.item.Item.{Item as LayerItem}
use Rattle.life_rle.specs.declared.item.Item.TheVariants.{Cells, RowEnds}
use Rattle.life_rle.specs.declared.position.Position.{Position as LayerPosition}
use Rattle.life_rle.specs.States.{is_state_of}
use Rattle.life_rle.specs.Pattern.{Rle as LayerRle, is_row_end, placed_item, placed_after, cell_among, placed_fault, rows_in as layer_rows, columns_in as layer_columns, rle_cell as layer_cell}
use Rattle.claims.specs.Rules.{claimed_largest_state}
use Rattle.claims.specs.Pattern.{coordinate_bound}
use Rattle.claims.specs.Rle.{Item, run, row_ends, ClaimedRle, PositionFields, claimed_rows_in, ends_rows, claimed_columns_in, row_after, column_after, claimed_state_by, claimed_rle_cell, with_item}
use Rattle.claims.proofs.RuleLaw.{rule_in}

abbrev pub item_in : LayerItem → Item
item_in (Cells count state) = run count state
item_in (RowEnds count) = row_ends count

abbrev pub position_in : LayerPosition → PositionFields
position_in position = record { x = position.x; y = position.y; generation = position.generation }

abbrev pub file_in : LayerRle → ClaimedRle
file_in file = record { rule = rule_in file.rule; position = position_in file.position; items = map item_in file.items }

rows_are : (items : List LayerItem) → claimed_rows_in (map item_in items) ≡ layer_rows items
rows_are [] = refl
rows_are (Cells count state ∷ items) = rows_are items
rows_are (RowEnds count ∷ items) = ap (λ n. count + n) (rows_are items)

ends_are : (items : List LayerItem) → ends_rows (map item_in items) ≡ list_any is_row_end items
ends_are [] = refl
ends_are (Cells count state ∷ items) = ends_are items
ends_are (RowEnds count ∷ items) = refl

columns_are : (items : List LayerItem) → claimed_columns_in (map item_in items) ≡ layer_columns items
columns_are [] = refl
columns_are (Cells count state ∷ items) =
    ap (λ v. cond v (claimed_columns_in (map item_in items)) (count + claimed_columns_in (map item_in items))) (ends_are items)
    ∙ ap (λ n. cond (list_any is_row_end items) n (count + n)) (columns_are items)
columns_are (RowEnds count ∷ items) = columns_are items

row_is : (position : LayerPosition) (items : List LayerItem) → row_after (position_in position) (map item_in items) ≡ position.y +ℤ pos (layer_rows items)
row_is position items = ap (λ n. position.y +ℤ pos n) (rows_are items)

column_is : (position : LayerPosition) (items : List LayerItem)
    → column_after (position_in position) (map item_in items) ≡ position.x +ℤ pos (layer_columns items)
column_is position items = ap (λ n. position.x +ℤ pos n) (columns_are items)

state_is : (position : LayerPosition) (before items : List LayerItem) (x y : ℤ)
    → claimed_state_by (position_in position) (map item_in before) (map item_in items) x y ≡ cell_among (placed_after position before items) x y
state_is position before [] x y = refl
state_is position before (RowEnds count ∷ items) x y =
    ap (λ (b : List Item). claimed_state_by (position_in position) b (map item_in items) x y) (sym (map-append item_in before (RowEnds count ∷ [])))
    ∙ state_is position (before ++ RowEnds count ∷ []) items x y
state_is position before (Cells count state ∷ items) x y =
    let rest = claimed_state_by (position_in position) (map item_in before ++ run count state ∷ []) (map item_in items) x y in
    let b = map item_in before in
    ap (λ z. cond (int_eq y (row_after (position_in position) b) && int_le z x && int_lt x (z +ℤ pos count)) state rest) (column_is position before)
    ∙ ap (λ z. cond (int_eq y z && int_le (position.x +ℤ pos (layer_columns before)) x && int_lt x
    ((position.x +ℤ pos (layer_columns before)) +ℤ pos count)) state rest) (row_is position before)
    ∙ both (int_eq y (position.y +ℤ pos (layer_rows before))) (int_le (position.x +ℤ pos (layer_columns before)) x)
    (int_lt x ((position.x +ℤ pos (layer_columns before)) +ℤ pos count)) state rest
    ∙ ap (λ n. cond (int_eq y (position.y +ℤ pos (layer_rows before)) &&
    (int_le (position.x +ℤ pos (layer_columns before)) x && int_lt x ((position.x +ℤ pos (layer_columns before)) +ℤ pos count))) state n)
    (ap (λ (c : List Item). claimed_state_by (position_in position) c (map item_in items) x y) (sym (map-append item_in before (Cells count state ∷ [])))
    ∙ state_is position (before ++ Cells count state ∷ []) items x y)
  where
    both : (u v w : Bool) (a b : ℕ) → cond (u && v && w) a b ≡ cond (u && (v && w)) a b
    both true v w a b = refl
    both false v w a b = refl

-- the state of each cell is that of the layer
pub rle_cell_is : (file : LayerRle) (x y : ℤ) → claimed_rle_cell (file_in file) x y ≡ layer_cell file x y
rle_cell_is file x y = state_is file.position [] file.items x y

-- ---- one item more

-- an answer as the fault of the layer, or a file with the item
abbrev pub item_answer : LayerRle → LayerItem → Option Kind → Result ClaimedRle Kind
item_answer file item (Some kind) = Err kind
item_answer file item None = Ok (file_in (record file { items = file.items ++ item ∷ [] }))

larger_is : (rule : LayerRule) (state : ℕ) → nat_lt (claimed_largest_state (rule_in rule)) state ≡ not (is_state_of rule state)
larger_is (Life rule) state = grind (arith, nat_tests)
larger_is (Named name) state = grind (arith, nat_tests)

cells_step : (file : LayerRle) (count state : ℕ) (next : List Item) (u v w : Bool) → next ≡ map item_in (file.items ++ Cells count state ∷ [])
    → cond u (Err kinds.StateRange)
    (cond (v && w) (Ok (record { rule = rule_in file.rule; position = position_in file.position; items = next })) (Err kinds.OutOfPlane))
    ≡ item_answer file (Cells count state) (cond u (Some kinds.StateRange) (cond (v && w) None (Some kinds.OutOfPlane)))
cells_step file count state next true v w e = refl
cells_step file count state next false true true e =
    ap (λ (items : List Item). Ok (record { rule = rule_in file.rule; position = position_in file.position; items = items })) e
cells_step file count state next false true false e = refl
cells_step file count state next false false w e = refl

ends_step : (file : LayerRle) (count : ℕ) (next : List Item) (w : Bool) → next ≡ map item_in (file.items ++ RowEnds count ∷ [])
    → cond w (Ok (record { rule = rule_in file.rule; position = position_in file.position; items = next })) (Err kinds.OutOfPlane)
    ≡ item_answer file (RowEnds count) (cond w None (Some kinds.OutOfPlane))
ends_step file count next true e = ap (λ (items : List Item). Ok (record { rule = rule_in file.rule; position = position_in file.position; items = items })) e
ends_step file count next false e = refl

pub with_item_is : (file : LayerRle) (item : LayerItem)
    → with_item (file_in file) (item_in item) ≡ item_answer file item (placed_fault 62 file.rule (placed_item file.position file.items item))
with_item_is file (Cells count state) =
    let next = map item_in file.items ++ run count state ∷ [] in
    let done : Result ClaimedRle Kind = Ok (record { rule = rule_in file.rule; position = position_in file.position; items = next }) in
    let row = row_after (position_in file.position) (map item_in file.items) in
    let column = column_after (position_in file.position) (map item_in file.items) in
    let row' = file.position.y +ℤ pos (layer_rows file.items) in
    let column' = file.position.x +ℤ pos (layer_columns file.items) in
    ap (λ v. cond v (Err kinds.StateRange) (cond (int_lt row coordinate_bound && int_le (column +ℤ pos count) coordinate_bound) done (Err kinds.OutOfPlane)))
    (larger_is file.rule state)
    ∙ ap (λ z. cond (not (is_state_of file.rule state)) (Err kinds.StateRange)
    (cond (int_lt z coordinate_bound && int_le (column +ℤ pos count) coordinate_bound) done (Err kinds.OutOfPlane))) (row_is file.position file.items)
    ∙ ap (λ z. cond (not (is_state_of file.rule state)) (Err kinds.StateRange)
    (cond (int_lt row' coordinate_bound && int_le (z +ℤ pos count) coordinate_bound) done (Err kinds.OutOfPlane))) (column_is file.position file.items)
    ∙ cells_step file count state next (not (is_state_of file.rule state)) (int_lt row' coordinate_bound) (int_le (column' +ℤ pos count) coordinate_bound)
    (sym (map-append item_in file.items (Cells count state ∷ [])))
with_item_is file (RowEnds count) =
    let next = map item_in file.items ++ row_ends count ∷ [] in
    let done : Result ClaimedRle Kind = Ok (record { rule = rule_in file.rule; position = position_in file.position; items = next }) in
    ap (λ z. cond (int_le (z +ℤ pos count) coordinate_bound) done (Err kinds.OutOfPlane)) (row_is file.position file.items)
    ∙ ends_step file count next (int_le ((file.position.y +ℤ pos (layer_rows file.items)) +ℤ pos count) coordinate_bound)
    (sym (map-append item_in file.items (RowEnds count ∷ [])))
