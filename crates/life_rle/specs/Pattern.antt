-- The pattern that an RLE file stands for. What Pos, Gen, states and `$` mean is of Golly Help (File Formats, Extended RLE format); the plane,
-- the kinds and their order are the project's own.
use Rattle.std.specs.Prelude.{ℕ, ◌+◌, Bool, true, false, not, ◌&&◌, List, [], ◌∷◌, ◌++◌, ℤ, pos, ◌+ℤ◌, int_lt, int_le, Option, Some, None, if◌then◌else◌}
use Rattle.std.specs.Ordering.{int_eq}
use Rattle.std.specs.List.{list_any}
use Rattle.std.specs.Option.{option_or}
use Rattle.life_base.specs.declared.kind.Kind.{Kind}
use Rattle.life_base.specs.declared.kind.Kind.TheVariants.{StateRange, OutOfPlane}
use Rattle.life_base.specs.declared.rule.Rule.{Rule}
use Rattle.life_rle.specs.declared.item.Item.{Item}
use Rattle.life_rle.specs.declared.item.Item.TheVariants.{Cells, RowEnds}
use Rattle.life_rle.specs.declared.position.Position.{Position}
use Rattle.life_rle.specs.Plane.{rle_plane_end}
use Rattle.life_rle.specs.States.{is_state_of}

-- a rule, where the upper left cell lies and in which generation, and a list of items
pub record Rle : Type 0 where
  pub rule : Rule
  pub position : Position
  pub items : List Item

abbrev pub is_row_end : Item → Bool
is_row_end (Cells count state) = false
is_row_end (RowEnds count) = true

-- the sum of the counts of the row ends
abbrev pub rows_in : List Item → ℕ
rows_in [] = 0
rows_in (Cells count state ∷ items) = rows_in items
rows_in (RowEnds count ∷ items) = count + rows_in items

-- the sum of the counts of the items after the last row end
abbrev pub columns_in : List Item → ℕ
columns_in [] = 0
columns_in (Cells count state ∷ items) = if list_any is_row_end items then columns_in items else count + columns_in items
columns_in (RowEnds count ∷ items) = columns_in items

-- an item, and the row and the first column where it stands
pub record PlacedItem : Type 0 where
  pub row : ℤ
  pub column : ℤ
  pub item : Item

-- where an item comes after these
abbrev pub placed_item : Position → List Item → Item → PlacedItem
placed_item position before item = record { row = position.y +ℤ pos (rows_in before); column = position.x +ℤ pos (columns_in before); item = item }

-- the items that follow `before`, each where it comes after all items before it
abbrev pub placed_after : Position → List Item → List Item → List PlacedItem
placed_after position before [] = []
placed_after position before (item ∷ items) = placed_item position before item ∷ placed_after position (before ++ item ∷ []) items

-- all items of a file, each where it stands
abbrev pub placed_items : Rle → List PlacedItem
placed_items file = placed_after file.position [] file.items

-- whether an item's cells, which lie side by side in one row, lie over the pair
abbrev pub item_covers : PlacedItem → ℤ → ℤ → Bool
item_covers p x y = elim p.item [
  | Cells count state ↦ int_eq y p.row && (int_le p.column x && int_lt x (p.column +ℤ pos count))
  | RowEnds count ↦ false
]

abbrev pub item_state : Item → ℕ
item_state (Cells count state) = state
item_state (RowEnds count) = 0

-- the state of the item that covers the pair, else 0
abbrev pub cell_among : List PlacedItem → ℤ → ℤ → ℕ
cell_among [] x y = 0
cell_among (p ∷ ps) x y = if item_covers p x y then item_state p.item else cell_among ps x y

-- the state of a pair
abbrev pub rle_cell : Rle → ℤ → ℤ → ℕ
rle_cell file x y = cell_among (placed_items file) x y

-- Which rule an item breaks at its place: its state, and then the plane. Cells of any state, 0 too, stay in the plane; row ends
-- may bring the row to the edge and no further.
abbrev pub item_fault : ℕ → Rule → ℤ → ℤ → Item → Option Kind
item_fault level rule row column (Cells count state) =
    if not (is_state_of rule state) then Some StateRange
    else if int_lt row (rle_plane_end level) && int_le (column +ℤ pos count) (rle_plane_end level) then None
    else Some OutOfPlane
item_fault level rule row column (RowEnds count) = if int_le (row +ℤ pos count) (rle_plane_end level) then None else Some OutOfPlane

abbrev pub placed_fault : ℕ → Rule → PlacedItem → Option Kind
placed_fault level rule p = item_fault level rule p.row p.column p.item

-- the fault of the first item that has one
abbrev pub first_fault : ℕ → Rule → List PlacedItem → Option Kind
first_fault level rule [] = None
first_fault level rule (p ∷ ps) = option_or (placed_fault level rule p) (first_fault level rule ps)
