-- The square about the middle of the plane that has all cells, where none of them is in the northern half.
use Rattle.std.specs.Prelude.{◌≡◌, ℕ, suc, ◌+◌, ◌-◌, ◌*◌, ◌^◌, ◌<◌, ◌≤◌, ◌⊎◌, ℤ, pos, neg_ℤ, ◌≤ℤ◌, ◌<ℤ◌, List, ◌∷◌, drop, length, slice_get, Some}
use Rattle.life_base.specs.declared.cell.TheConstants.{MAX_LEVEL}
use Rattle.life_base.specs.declared.cell.Run.{Run}
use Rattle.life_base.specs.Tree.{Tree, depth, state_at, tree_cell, IsFull}
use Rattle.life_quad.specs.declared.id.Id.{Id}
use Rattle.life_strip.specs.declared.pile.Pile.{Pile}
use Rattle.life_strip.specs.declared.plane.Plane.{Plane}
use Rattle.life_strip.specs.declared.spans.Strip.{Strip}
use Rattle.life_strip.specs.Given.{by_columns, half_plane, state_by}
use Rattle.life_strip.specs.Needed.{SomeSquare}
use Rattle.life_strip.specs.Picture.{state_in_strip}
use Rattle.life_strip.specs.Plane.{state_so_far}

-- ---- by the coordinates of the plane

-- (x, y) is in the southern half of the square of a level about (0, 0)
pub record IsSouth (level : ℕ) (x y : ℤ) : Type 0 where
  pub west : neg_ℤ (pos (2 ^ (level - 1))) ≤ℤ x
  pub east : x <ℤ pos (2 ^ (level - 1))
  pub north : pos 0 ≤ℤ y
  pub south : y <ℤ pos (2 ^ (level - 1))

-- every cell is there
abbrev pub AreSouth : ℕ → (ℤ → ℤ → ℕ) → Type 0
AreSouth level state = (x y : ℤ) → ¬ (state x y ≡ 0) → IsSouth level x y

-- a lower square, of level 3 at least, has every cell in its southern half only if there are no cells
abbrev pub IsLeastSouth : ℕ → (ℤ → ℤ → ℕ) → Type 0
IsLeastSouth level state = (lower : ℕ) → 3 ≤ lower → lower < level → AreSouth lower state → (x y : ℤ) → state x y ≡ 0

-- The level of the square about (0, 0) into which cells are put: the least one, from 3 on, whose southern half has every cell. It is that of the plane
-- where a cell is in the northern half, and may be that where there are no cells.
pub record IsSouthLevel (level : ℕ) (state : ℤ → ℤ → ℕ) : Type 0 where
  pub low : 3 ≤ level
  pub high : level ≤ MAX_LEVEL
  pub south : level < MAX_LEVEL → AreSouth level state
  pub least : IsLeastSouth level state

-- the square of a level about (0, 0), with every cell in its southern half, has a property
pub record SomeSouth (P : Tree → Type 0) (level : ℕ) (state : ℤ → ℤ → ℕ) : Type 0 where
  pub square : Tree
  pub full : IsFull square
  pub deep : depth square ≡ level
  pub cells : (x y : ℤ) → tree_cell square x y ≡ state x y
  pub south : AreSouth level state
  pub property : P square

-- A square has a property, and is made of cells for the square about (0, 0) of that level or a lower one: a square of the plane, above the southern end of
-- such a square, or that square itself.
pub record SomeAboutMiddle (P : Tree → Type 0) (state : ℤ → ℤ → ℕ) : Type 0 where
  pub level : ℕ
  pub low : 3 ≤ level
  pub high : level ≤ MAX_LEVEL
  pub least : IsLeastSouth level state
  pub some : SomeSquare P (half_plane + 2 ^ (level - 1)) (by_columns state) ⊎ SomeSouth P level state

-- the last run, if there is one, has a cell above state 0 in its row
abbrev pub EndsWithCell : List Run → Type 0
EndsWithCell runs = (last : Run) → slice_get runs (length runs - 1) ≡ Some last → (x : ℤ) × ¬ (state_by runs x last.y ≡ 0)

-- ---- by the columns of the plane and the rows from its middle on

-- every cell is in one of so many columns west of the middle, or east of it
abbrev pub AreAdjacent : ℕ → (ℕ → ℕ → ℕ) → Type 0
AreAdjacent level state = (column row : ℕ) → column < 2 ^ MAX_LEVEL → ¬ (state column row ≡ 0)
    → (half_plane ≤ column + 2 ^ level) × (column < half_plane + 2 ^ level)

-- a square of strips that blank rows make higher has a property: no lower strip's two squares beside the middle have every cell
pub record SomeWider (P : Tree → Type 0) (level : ℕ) (state : ℕ → ℕ → ℕ) : Type 0 where
  pub top : ℕ
  pub low : level ≤ top
  pub high : top < MAX_LEVEL
  pub needed : (m : ℕ) → level ≤ m → m < top → ¬ AreAdjacent m state
  pub some : SomeSquare P (2 ^ top) state

-- the square of the next level about the middle of the plane: its northern half is blank, and its southern half has the rows from the middle on
pub record IsAboutMiddle (level : ℕ) (state : ℕ → ℕ → ℕ) (t : Tree) : Type 0 where
  pub full : IsFull t
  pub deep : depth t ≡ suc level
  pub northern : (i j : ℕ) → i < 2 * 2 ^ level → j < 2 ^ level → state_at t i j ≡ 0
  pub southern : (i j : ℕ) → i < 2 * 2 ^ level → j < 2 ^ level → state_at t i (2 ^ level + j) ≡ state (half_plane - 2 ^ level + i) j

-- no lower level, from 2 on, has the row `rows` and every cell beside the middle
abbrev pub IsLeastAdjacent : ℕ → ℕ → (ℕ → ℕ → ℕ) → Type 0
IsLeastAdjacent level rows state = (m : ℕ) → 2 ≤ m → m < level → rows < 2 ^ m → ¬ AreAdjacent m state

-- the square about the middle with all cells, where `rows` is the last row with one
pub record IsMiddleSquare (rows : ℕ) (state : ℕ → ℕ → ℕ) (t : Tree) : Type 0 where
  pub level : ℕ
  pub low : 2 ≤ level
  pub high : level < MAX_LEVEL
  pub enough : rows < 2 ^ level
  pub adjacent : AreAdjacent level state
  pub least : IsLeastAdjacent level rows state
  pub square : IsAboutMiddle level state t

-- it has a property, or one of the squares of the rows from the middle on of which it is made
pub record SomeOfMiddle (P : Tree → Type 0) (rows : ℕ) (state : ℕ → ℕ → ℕ) : Type 0 where
  pub level : ℕ
  pub low : 2 ≤ level
  pub high : level < MAX_LEVEL
  pub least : IsLeastAdjacent level rows state
  pub some : SomeSquare P (2 ^ level) state ⊎ ((t : Tree) × IsMiddleSquare rows state t × P t)

-- no cell is in so many rows
abbrev pub IsBlankTo : ℕ → (ℕ → ℕ → ℕ) → Type 0
IsBlankTo rows state = (column row : ℕ) → column < 2 ^ MAX_LEVEL → row < rows → state column row ≡ 0

-- the first of the strips is that of the northern half, which has no cell
pub record IsBlankNorth (content : Id → Tree) (strips : List Strip) : Type 0 where
  pub north : Strip
  pub first : strips ≡ north ∷ drop 1 strips
  pub level : 2 ^ north.level ≡ half_plane
  pub blank : (column row : ℕ) → state_in_strip content north column row ≡ 0

-- the row that was begun has a cell, if it isn't the first one of the plane
abbrev pub EndsInCell : (Id → Tree) → Plane → Type 0
EndsInCell content p = 0 < p.rows → (column : ℕ) × (column < 2 ^ MAX_LEVEL) × ¬ (state_so_far content p column p.rows ≡ 0)

-- the strip of the northern half was taken away, which has no cell
pub record HasConsumedNorth (content : Id → Tree) (old new : Pile) : Type 0 where
  pub north : Strip
  pub strips : old.strips.items ≡ north ∷ new.strips.items
  pub band : new.band.items ≡ old.band.items
  pub level : 2 ^ north.level ≡ half_plane
  pub blank : (column row : ℕ) → state_in_strip content north column row ≡ 0
