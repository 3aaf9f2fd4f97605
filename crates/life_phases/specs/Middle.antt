-- Patterns that are moved, and the middle of the plane.
use Rattle.std.specs.Prelude.{◌≡◌, ◌≢◌, ℕ, ◌≤◌, ℤ, pos, negsuc, neg_ℤ, ◌+ℤ◌, ◌≤ℤ◌}
use Rattle.life_base.specs.Tree.{Tree, depth, tree_cell}
use Rattle.life_base.specs.declared.bounds.Bounds.{Bounds}
use Rattle.life_quad.specs.Cells.{IsBoundingBoxOfTree}
use Rattle.life_quad.specs.Moves.{trimmed_square}
use Rattle.life_phases.specs.declared.middle.Shift.{Shift}

-- the second pattern is the first one with each cell so many columns further east and rows further south
pub record IsMovedBy (columns rows : ℤ) (f g : ℤ → ℤ → ℕ) : Type 0 where
  pub cells : (x y : ℤ) → g (x +ℤ columns) (y +ℤ rows) ≡ f x y

-- the pattern that is so
abbrev pub moved_by : ℤ → ℤ → (ℤ → ℤ → ℕ) → ℤ → ℤ → ℕ
moved_by columns rows cells x y = cells (x +ℤ neg_ℤ columns) (y +ℤ neg_ℤ rows)

-- the second pattern isn't the first one, moved
abbrev pub NoShift : (ℤ → ℤ → ℕ) → (ℤ → ℤ → ℕ) → Type 0
NoShift f g = (columns rows : ℤ) → ¬ (IsMovedBy columns rows f g)

-- a side of a box with as many coordinates below 0 as from 0 on, or with one more from 0 on
pub record IsMiddleSide (low high : ℤ) : Type 0 where
  pub low_end : negsuc 0 ≤ℤ (low +ℤ high)
  pub high_end : (low +ℤ high) ≤ℤ pos 0

-- The bounding box of the cells that aren't 0 is in the middle of the plane: both its sides are. (So there is such a cell.)
pub record IsInMiddle (cells : ℤ → ℤ → ℕ) : Type 0 where
  pub box : Bounds
  pub inside : (x y : ℤ) → cells x y ≢ 0 → (box.left ≤ℤ x) × (x ≤ℤ box.right) × (box.top ≤ℤ y) × (y ≤ℤ box.bottom)
  pub at_left : (y : ℤ) × (cells box.left y ≢ 0)
  pub at_right : (y : ℤ) × (cells box.right y ≢ 0)
  pub at_top : (x : ℤ) × (cells x box.top ≢ 0)
  pub at_bottom : (x : ℤ) × (cells x box.bottom ≢ 0)
  pub across : IsMiddleSide box.left box.right
  pub down : IsMiddleSide box.top box.bottom

-- the boxes have as many columns, and as many rows
pub record AreAsLarge (p q : Bounds) : Type 0 where
  pub columns : p.right +ℤ q.left ≡ q.right +ℤ p.left
  pub rows : p.bottom +ℤ q.top ≡ q.bottom +ℤ p.top

-- the box is as large as that of the square's cells
abbrev pub IsAsLargeAs : Bounds → Tree → Type 0
IsAsLargeAs outline t = (box : Bounds) → IsBoundingBoxOfTree t box → AreAsLarge outline box

-- so far a box moves to the middle of the plane
pub record IsMiddleWay (box : Bounds) (way : Shift) : Type 0 where
  pub across : IsMiddleSide (box.left +ℤ way.columns) (box.right +ℤ way.columns)
  pub down : IsMiddleSide (box.top +ℤ way.rows) (box.bottom +ℤ way.rows)

-- the cells of the square are in the middle of the plane, and it has no blank outer parts
pub record IsSquareInMiddle (t : Tree) : Type 0 where
  pub low : 3 ≤ depth t
  pub trimmed : trimmed_square t 3 ≡ t
  pub middle : IsInMiddle (tree_cell t)
