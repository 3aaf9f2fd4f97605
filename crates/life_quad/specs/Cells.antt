-- The cells of a square on the plane: a square of level k covers the columns and rows from -2^(k-1) to 2^(k-1) - 1.
use Rattle.std.specs.Prelude.{◌≡◌, ◌≢◌, ◌==◌, ℕ, ◌+◌, ◌⊎◌, if◌then◌else◌, ℤ, pos, neg_ℤ, ◌+ℤ◌, ◌<ℤ◌, ◌≤ℤ◌, List, Contains, AllPairs}
use Rattle.life_base.specs.declared.cell.Cell.{Cell}
use Rattle.life_base.specs.declared.cell.Run.{Run}
use Rattle.life_base.specs.declared.bounds.Bounds.{Bounds}
use Rattle.life_base.specs.Tree.{Tree, point, quad, depth, half_side, tree_cell as cell, IsFull}

-- (x, y) is one of the cells (left, row) to (left + len - 1, row)
pub record IsInRun (left row : ℤ) (len : ℕ) (x y : ℤ) : Type 0 where
  pub same_row : y ≡ row
  pub from : left ≤ℤ x
  pub to : x <ℤ (left +ℤ pos len)

-- the cells of a run lie in the square
pub record IsRunInside (t : Tree) (run : Run) : Type 0 where
  pub west : neg_ℤ (pos (half_side t)) ≤ℤ run.x
  pub east : (run.x +ℤ pos run.len) ≤ℤ pos (half_side t)
  pub north : neg_ℤ (pos (half_side t)) ≤ℤ run.y
  pub south : run.y <ℤ pos (half_side t)

-- a full square of the same level has the state in the cells of the run, and every other cell as before
pub record SetsRun (old new : Tree) (run : Run) : Type 0 where
  pub full : IsFull new
  pub level : depth new ≡ depth old
  pub cells : (x y : ℤ) → IsInRun run.x run.y run.len x y → cell new x y ≡ run.state
  pub others : (x y : ℤ) → ¬ IsInRun run.x run.y run.len x y → cell new x y ≡ cell old x y

-- every cell with a state is in the box, and each side of the box has one
pub record IsBoundingBoxOfTree (t : Tree) (box : Bounds) : Type 0 where
  pub inside : (x y : ℤ) → cell t x y ≢ 0 → (box.left ≤ℤ x) × (x ≤ℤ box.right) × (box.top ≤ℤ y) × (y ≤ℤ box.bottom)
  pub at_left : (y : ℤ) × (cell t box.left y ≢ 0)
  pub at_right : (y : ℤ) × (cell t box.right y ≢ 0)
  pub at_top : (x : ℤ) × (cell t x box.top ≢ 0)
  pub at_bottom : (x : ℤ) × (cell t x box.bottom ≢ 0)

-- row by row from the north, and in a row from the west
abbrev pub IsBefore : Cell → Cell → Type 0
IsBefore c d = (c.y <ℤ d.y) ⊎ ((c.y ≡ d.y) × (c.x <ℤ d.x))

-- the list has every cell with a state other than 0, once, in order
pub record IsCellList (t : Tree) (cells : List Cell) : Type 0 where
  pub in_order : AllPairs IsBefore cells
  pub true_cells : (c : Cell) → Contains cells c → (cell t c.x c.y ≡ c.state) × (c.state ≢ 0)
  pub all_cells : (c : Cell) → cell t c.x c.y ≡ c.state → c.state ≢ 0 → Contains cells c

-- how many cells have a state other than 0
abbrev pub population : Tree → ℕ
population (point s) = if s == 0 then 0 else 1
population (quad nw ne sw se) = population nw + population ne + population sw + population se
