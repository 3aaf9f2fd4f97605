-- Which squares a call needs: all that it stores are such, and where it is refused because the store was full the store lacks one.
use Rattle.life_base.specs.declared.cell.TheConstants.{MAX_LEVEL}
use Rattle.std.specs.Prelude.{◌≡◌, ℕ, ◌+◌, ◌-◌, ◌*◌, ◌^◌, ◌<◌, ◌≤◌, List, ◌∷◌, ◌++◌, nat_abs, ◌+ℤ◌, pos}
use Rattle.life_base.specs.Tree.{Tree, depth, state_at, IsFull}
use Rattle.life_base.specs.declared.cell.Run.{Run}
use Rattle.life_strip.specs.Given.{by_columns, half_plane, state_by}

-- A square of level 1 or more has a property, and it is what stands in one place of the plane, above a row: each level divides the plane
-- into columns and rows of its squares, and `rows` rows of cells are above.
pub record SomeSquare (P : Tree → Type 0) (rows : ℕ) (state : ℕ → ℕ → ℕ) : Type 0 where
  pub square : Tree
  pub full : IsFull square
  pub deep : 1 ≤ depth square
  pub column : ℕ
  pub row : ℕ
  pub east : (column + 1) * 2 ^ depth square ≤ 2 ^ MAX_LEVEL
  pub south : (row + 1) * 2 ^ depth square ≤ rows
  pub cells : (i j : ℕ) → i < 2 ^ depth square → j < 2 ^ depth square → state_at square i j ≡ state (column * 2 ^ depth square + i) (row * 2 ^ depth square + j)
  pub property : P square

-- the square in one column of the plane, of those of a level side by side, has a property
abbrev pub SomeColumn : (Tree → Type 0) → ℕ → (ℕ → Tree) → Type 0
SomeColumn P level squares = (column : ℕ) × (column < 2 ^ (MAX_LEVEL - level)) × P (squares column)

-- a square of runs has a property: a square of the plane above the row in which one of them begins, with the cells of the runs before it
pub record SomeOfRuns (P : Tree → Type 0) (runs : List Run) : Type 0 where
  pub before : List Run
  pub run : Run
  pub behind : List Run
  pub are : runs ≡ before ++ run ∷ behind
  pub above : SomeSquare P (nat_abs (run.y +ℤ pos half_plane)) (by_columns (state_by before))
