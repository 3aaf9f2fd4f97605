-- Rows of cells, and strips above them.
use Rattle.std.specs.Prelude.{◌≡◌, ℕ, zero, suc, ◌+◌, ◌-◌, ◌⊎◌, ◌&&◌, nat_lt, nat_le, if◌then◌else◌, List, [], ◌∷◌}
use Rattle.life_base.specs.Tree.{Tree, state_at}
use Rattle.life_quad.specs.declared.id.Id.{Id}
use Rattle.life_strip.specs.declared.row.Row.{Row}
use Rattle.life_strip.specs.declared.spans.Strip.{Strip}
use Rattle.life_strip.specs.Blocks.{AreRowBlocks, AreBlocksBefore, cell_in_blocks}
use Rattle.life_strip.specs.Picture.{picture, height}
use Rattle.life_strip.specs.Strip.{AreBefore, AreWithin, IsStrip, Rise, square_at}

-- the state in a column of a row: one of its two lists is empty, and has no cell
abbrev pub row_state : (Id → Tree) → Row → ℕ → ℕ
row_state content row column = state_at (square_at content 0 row.spans.items column) 0 0 + cell_in_blocks row.blocks.items column

-- a row of cells that the store knows
pub record IsRow (knows : Id → Type 0) (content : Id → Tree) (row : Row) : Type 0 where
  pub blocks : AreRowBlocks row.blocks.items
  pub squares : IsStrip knows content 0 row.spans.items
  pub within : AreWithin 0 row.spans.items
  pub rises : Rise row.spans.items
  pub one : (row.blocks.items ≡ []) ⊎ (row.spans.items ≡ [])

-- no cell of the row is in this column or east of it
pub record IsRowBefore (column : ℕ) (row : Row) : Type 0 where
  pub blocks : AreBlocksBefore column row.blocks.items
  pub spans : AreBefore column row.spans.items

-- the columns from one to before another one have a state, and every other column what it had
pub record FillsRow (knows : Id → Type 0) (content : Id → Tree) (old new : Row) (start end state : ℕ) : Type 0 where
  pub row : IsRow knows content new
  pub before : IsRowBefore end new
  pub states : (c : ℕ) → row_state content new c ≡ (if nat_le start c && nat_lt c end then state else row_state content old c)

-- the same cells, in a row without blocks
pub record WidensRow (knows : Id → Type 0) (content : Id → Tree) (old new : Row) : Type 0 where
  pub row : IsRow knows content new
  pub blocks : new.blocks.items ≡ []
  pub before : (n : ℕ) → IsRowBefore n old → IsRowBefore n new
  pub states : (c : ℕ) → row_state content new c ≡ row_state content old c

-- the state in a column of rows one below the other, 0 below the last
abbrev pub rows_state : (Id → Tree) → List Row → ℕ → ℕ → ℕ
rows_state content [] column row = 0
rows_state content (r ∷ rest) column zero = row_state content r column
rows_state content (r ∷ rest) column (suc row) = rows_state content rest column row

-- the state in a column of strips and of rows below them
abbrev pub state_with_rows : (Id → Tree) → List Strip → List Row → ℕ → ℕ → ℕ
state_with_rows content strips rows column row =
    if nat_lt row (height strips) then picture content strips column row else rows_state content rows column (row - height strips)
