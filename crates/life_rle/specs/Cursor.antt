-- The place where the next item stands.
use Rattle.std.specs.Prelude.{◌≡◌, ℕ, ℤ, pos, neg_ℤ, ◌+ℤ◌, ◌≤ℤ◌, ◌<ℤ◌, int_lt, if◌then◌else◌, ◌^◌, List, [], ◌∷◌}
use Rattle.life_rle.specs.declared.item.Item.{Item}
use Rattle.life_rle.specs.declared.item.Item.TheVariants.{Cells, RowEnds}
use Rattle.life_rle.specs.declared.cursor.Cursor.{Cursor}
use Rattle.life_rle.specs.declared.position.Position.{Position}
use Rattle.life_rle.specs.Plane.{rle_plane_end}
use Rattle.life_rle.specs.Pattern.{Rle, PlacedItem, rows_in, columns_in}

-- how many cells or rows an item counts
abbrev pub item_count : Item → ℕ
item_count (Cells count state) = count
item_count (RowEnds count) = count

-- the place of the first item
abbrev pub start_of : Position → Cursor
start_of position = record { left = position.x; x = position.x; y = position.y }

-- the place after an item
abbrev pub cursor_after_item : Cursor → Item → Cursor
cursor_after_item c (Cells count state) = record { left = c.left; x = c.x +ℤ pos count; y = c.y }
cursor_after_item c (RowEnds count) = record { left = c.left; x = c.left; y = c.y +ℤ pos count }

-- the place after items
abbrev pub cursor_after_items : Cursor → List Item → Cursor
cursor_after_items c [] = c
cursor_after_items c (item ∷ items) = cursor_after_items (cursor_after_item c item) items

-- items from a place on, each where it stands
abbrev pub placed_at : Cursor → List Item → List PlacedItem
placed_at c [] = []
placed_at c (item ∷ items) = record { row = c.y; column = c.x; item = item } ∷ placed_at (cursor_after_item c item) items

-- the column up to which cells may stand in a row: the edge of the plane, and below the plane one west of every column
abbrev pub row_limit : ℕ → ℤ → ℤ
row_limit level y = if int_lt y (rle_plane_end level) then rle_plane_end level else neg_ℤ (pos (2 ^ 63))

-- the place is in the plane or at its right or lower edge
pub record IsNear (level : ℕ) (c : Cursor) : Type 0 where
  pub left : (neg_ℤ (rle_plane_end level) ≤ℤ c.left) × (c.left <ℤ rle_plane_end level)
  pub x : (neg_ℤ (rle_plane_end level) ≤ℤ c.x) × (c.x ≤ℤ rle_plane_end level)
  pub y : (neg_ℤ (rle_plane_end level) ≤ℤ c.y) × (c.y ≤ℤ rle_plane_end level)

-- the place is after the items of a file
pub record IsAfterItems (c : Cursor) (file : Rle) : Type 0 where
  pub left : c.left ≡ file.position.x
  pub x : c.x ≡ file.position.x +ℤ pos (columns_in file.items)
  pub y : c.y ≡ file.position.y +ℤ pos (rows_in file.items)
