-- The blocks that a file of runs may have, as its items lead the pen, and what each item weighs.
--
-- The pen is the place of the next item; rows begin at `left`. The places of a side are those of the blocks to which the pen comes, the block east
-- of the first one in each row of blocks, and the block west of one to which an item of at least the side's count leads. A small item that
-- leads the pen into no new block costs nothing.
use Rattle.std.proofs.Common.{◌≡◌, ◌⊎◌, ℕ, zero, suc, ◌+◌, ◌-◌, ◌*◌, ◌/◌, ◌%◌, ◌^◌, List, [], ◌∷◌, ◌++◌, map, ◌==◌, ◌&&◌, nat_le, nat_lt, if◌then◌else◌}
use Rattle.life_rle.specs.declared.item.Item.{Item}
use Rattle.life_rle.specs.declared.item.Item.TheVariants.{Cells, RowEnds}
use Rattle.life_rle.specs.Cursor.{item_count}
use Rattle.life_rle.specs.Blocks.{Block}

-- ---- weights

-- what an item of a count weighs at blocks of a side, where a block is worth the side
abbrev pub weight : ℕ → ℕ → ℕ
weight side count = if nat_le side count then 4 * side else 2 * count

-- what it weighs at the blocks of the levels 1 to n, where a block is worth 2 ^ n
abbrev pub weights : ℕ → ℕ → ℕ
weights zero count = 0
weights (suc n) count = 2 * weights n count + weight (2 ^ suc n) count

-- what items weigh at blocks of a side
abbrev pub weigh : ℕ → List Item → ℕ
weigh side [] = 0
weigh side (item ∷ items) = weight side (item_count item) + weigh side items

-- what they weigh at the levels 1 to n
abbrev pub all_weigh : ℕ → List Item → ℕ
all_weigh n [] = 0
all_weigh n (item ∷ items) = weights n (item_count item) + all_weigh n items

-- ---- places, row and column, of blocks of a side; columns and rows of cells are counted from the corner of the plane

-- those to which cells of a count lead, from the column x in row y
abbrev pub after_cells : ℕ → ℕ → ℕ → ℕ → ℕ → List (ℕ × ℕ)
after_cells side left x y count =
    if nat_le side count then (y / side, (x + count) / side - 1) ∷ (y / side, (x + count) / side) ∷ []
    else if nat_lt (x / side) ((x + count) / side) && nat_lt (left / side + 1) ((x + count) / side) then (y / side, (x + count) / side) ∷ []
    else []

-- those to which ends of rows lead
abbrev pub after_rows : ℕ → ℕ → ℕ → ℕ → List (ℕ × ℕ)
after_rows side left y count =
    if nat_lt (y / side) ((y + count) / side) then ((y + count) / side, left / side) ∷ ((y + count) / side, left / side + 1) ∷ []
    else []

-- those to which items lead
abbrev pub places_from : ℕ → ℕ → ℕ → ℕ → List Item → List (ℕ × ℕ)
places_from side left x y [] = []
places_from side left x y (Cells count state ∷ items) = after_cells side left x y count ++ places_from side left (x + count) y items
places_from side left x y (RowEnds count ∷ items) = after_rows side left y count ++ places_from side left left (y + count) items

-- those of a file, with the first two
abbrev pub places : ℕ → ℕ → ℕ → List Item → List (ℕ × ℕ)
places side left y items = (y / side, left / side) ∷ (y / side, left / side + 1) ∷ places_from side left left y items

-- the blocks of the levels 1 to n at the places
abbrev pub block_at : ℕ → ℕ × ℕ → Block
block_at level place = record { level = level; row = place.0; column = place.1 }

abbrev pub all_blocks : ℕ → ℕ → ℕ → List Item → List Block
all_blocks zero left y items = []
all_blocks (suc n) left y items = map (block_at (suc n)) (places (2 ^ suc n) left y items) ++ all_blocks n left y items

-- ---- where the pen goes

-- the state in a column and a row that items give which stand from a place on
abbrev pub state_from : ℕ → ℕ → ℕ → List Item → ℕ → ℕ → ℕ
state_from left x y [] column row = 0
state_from left x y (Cells count state ∷ items) column row =
    if row == y && (nat_le x column && nat_lt column (x + count)) then state else state_from left (x + count) y items column row
state_from left x y (RowEnds count ∷ items) column row = state_from left left (y + count) items column row

-- what the pen has saved for the next column of blocks
abbrev pub saved : ℕ → ℕ → ℕ → ℕ
saved side left x = if nat_lt (left / side) (x / side) then x % side else 0

-- the place of a column and a row of cells
pub record IsAt (side x y s t : ℕ) : Type 0 where
  pub row : y / side ≡ s
  pub column : x / side ≡ t

-- the pen comes to a place
abbrev pub Visits : ℕ → ℕ → ℕ → ℕ → List Item → ℕ → ℕ → Type 0
Visits side left x y [] s t = IsAt side x y s t
Visits side left x y (Cells count state ∷ items) s t = IsAt side x y s t ⊎ Visits side left (x + count) y items s t
Visits side left x y (RowEnds count ∷ items) s t = IsAt side x y s t ⊎ Visits side left left (y + count) items s t

-- an element of a list, by cases
abbrev pub Among : {A : Type 0} → List A → A → Type 0
Among [] a = ⊥
Among (x ∷ xs) a = (x ≡ a) ⊎ Among xs a
