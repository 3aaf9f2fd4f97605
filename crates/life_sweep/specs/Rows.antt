-- Rows of cells, and what is left of them as a sweep goes on.
use Rattle.std.specs.Prelude.{◌≡◌, ◌⊎◌, ℕ, ◌+◌, ◌*◌, ◌<◌, ◌==◌, ◌^◌, Bool, true, false, ◌&&◌, if◌then◌else◌, ℤ, pos, neg_ℤ, ◌+ℤ◌, ◌<ℤ◌, ◌≤ℤ◌, List, [], ◌∷◌, length, All}
use Rattle.std.specs.Borrow.{Bor}
use Rattle.life_base.specs.declared.cell.Cell.{Cell}
use Rattle.life_next.specs.Generation.{one_before, one_after}
use Rattle.life_sweep.specs.declared.column.Column.{Column}
use Rattle.life_sweep.specs.declared.window.Window.{Window}
use Rattle.life_sweep.specs.declared.band.Band.{Band}

-- the first coordinate of a plane of level 62, and the first after its last one
abbrev pub first_coordinate : ℤ
first_coordinate = neg_ℤ (pos (2 ^ 61))

abbrev pub far : ℤ
far = pos (2 ^ 61)

-- where a sweep begins
abbrev pub start_of_sweep : ℤ
start_of_sweep = neg_ℤ (pos (2 ^ 61 + 2))

-- a column or a row of a sweep
abbrev pub IsOfSweep : ℤ → Type 0
IsOfSweep x = (start_of_sweep ≤ℤ x) × (x ≤ℤ far)

-- within a plane of level 62 at most
pub record IsInside (cell : Cell) : Type 0 where
  pub west : first_coordinate ≤ℤ cell.x
  pub east : cell.x <ℤ far
  pub north : first_coordinate ≤ℤ cell.y
  pub south : cell.y <ℤ far

-- the list has the cells of a row from the column x on that aren't 0, from west to east
abbrev pub IsRest : (ℤ → ℕ) → ℤ → List Cell → Type 0
IsRest states x [] = (c : ℤ) → x ≤ℤ c → states c ≡ 0
IsRest states x (cell ∷ rest) =
    (x ≤ℤ cell.x) × ((c : ℤ) → x ≤ℤ c → c <ℤ cell.x → states c ≡ 0) × (states cell.x ≡ cell.state) × IsRest states (one_after cell.x) rest

-- no cell of the row is west of the column
abbrev pub StartsFrom : ℤ → List Cell → Type 0
StartsFrom x [] = Unit
StartsFrom x (cell ∷ rest) = x ≤ℤ cell.x

-- the row's first cell is in the column
abbrev pub StartsAt : ℤ → List Cell → Type 0
StartsAt x [] = ⊥
StartsAt x (cell ∷ rest) = cell.x ≡ x

-- each value of a column has a property
pub record InColumn {T : Type 0} (P : T → Type 0) (c : Column T) : Type 0 where
  pub north : P c.north
  pub here : P c.here
  pub south : P c.south

-- the states of three rows in a column
abbrev pub column_at : (ℤ → ℤ → ℕ) → ℤ → ℤ → Column ℕ
column_at cells y x = record { north = cells x (one_before y); here = cells x y; south = cells x (one_after y) }

abbrev pub no_column : Column ℕ
no_column = record { north = 0; here = 0; south = 0 }

abbrev pub is_blank_column : Column ℕ → Bool
is_blank_column c = c.north == 0 && c.here == 0 && c.south == 0

-- the states of a column are below the bound
abbrev pub IsColumn : ℕ → Column ℕ → Type 0
IsColumn bound = InColumn (λ state. state < bound)

-- what is left of three rows
abbrev pub Rows : Type 0
Rows = Column (Bor (List Cell))

-- the cells of each row have a property
abbrev pub InRows : (List Cell → Type 0) → Rows → Type 0
InRows P = InColumn (λ (row : Bor (List Cell)). P row.now)

abbrev pub AreInside : Rows → Type 0
AreInside rows = InRows (All IsInside) rows

abbrev pub AreBelow : ℕ → Rows → Type 0
AreBelow bound rows = InRows (All (λ cell. cell.state < bound)) rows

-- the three rows around y, from the column x on
pub record AreRows (cells : ℤ → ℤ → ℕ) (y x : ℤ) (rows : Rows) : Type 0 where
  pub north : IsRest (λ c. cells c (one_before y)) x rows.north.now
  pub here : IsRest (λ c. cells c y) x rows.here.now
  pub south : IsRest (λ c. cells c (one_after y)) x rows.south.now

-- the rows are sorted: they are those of some plane
abbrev pub AreSortedFrom : ℤ → Rows → Type 0
AreSortedFrom x rows = (cells : ℤ → ℤ → ℕ) × (y : ℤ) × AreRows cells y x rows

abbrev pub AreSorted : Rows → Type 0
AreSorted rows = AreSortedFrom first_coordinate rows

-- a row has its first cell in the column
abbrev pub SomeStartsAt : ℤ → Rows → Type 0
SomeStartsAt x rows = StartsAt x rows.north.now ⊎ (StartsAt x rows.here.now ⊎ StartsAt x rows.south.now)

-- how many cells are left
abbrev pub left_in : Rows → ℕ
left_in rows = length rows.north.now + length rows.here.now + length rows.south.now

-- the window stands in the row y of the cells
pub record IsWindow (cells : ℤ → ℤ → ℕ) (y : ℤ) (w : Window) : Type 0 where
  pub west : w.west ≡ column_at cells y (one_before w.x)
  pub middle : w.middle ≡ column_at cells y w.x
  pub east : w.east ≡ column_at cells y (one_after w.x)
  pub rows : AreRows cells y (w.x +ℤ pos 2) w.rows

-- the window's columns fit their type
pub record IsSoundWindow (w : Window) : Type 0 where
  pub place : IsOfSweep w.x
  pub rows : AreInside w.rows
  pub middle : (is_blank_column w.middle ≡ true) ⊎ (w.x <ℤ far)
  pub east : (is_blank_column w.east ≡ true) ⊎ (one_after w.x <ℤ far)
  pub placed : AreSortedFrom (w.x +ℤ pos 2) w.rows

-- the window's states are below the bound
pub record IsWindowBelow (bound : ℕ) (w : Window) : Type 0 where
  pub rows : AreBelow bound w.rows
  pub west : IsColumn bound w.west
  pub middle : IsColumn bound w.middle
  pub east : IsColumn bound w.east

-- the next place is the one east of the middle, or, where no cell stands beside that, the one west of the first cell that is left
abbrev pub IsNextPlace : Window → ℤ → Type 0
IsNextPlace w x =
    ((x ≡ one_after w.x) × ((is_blank_column w.middle ≡ false) ⊎ (is_blank_column w.east ≡ false)))
    ⊎ ((is_blank_column w.middle ≡ true) × (is_blank_column w.east ≡ true) × InRows (StartsFrom (one_after x)) w.rows × SomeStartsAt (one_after x) w.rows)

-- how many places a window has before it, at most
abbrev pub steps_left : Window → ℕ
steps_left w = 3 * left_in w.rows + (if is_blank_column w.east then 0 else 2) + (if is_blank_column w.middle then 0 else 1)

-- no cell stands beside the place
abbrev pub IsFar : (ℤ → ℤ → ℕ) → ℤ → ℤ → Type 0
IsFar cells y x = (column_at cells y (one_before x) ≡ no_column) × (column_at cells y x ≡ no_column) × (column_at cells y (one_after x) ≡ no_column)

-- the window went on to the next place beside which a cell stands
pub record GoesOn (cells : ℤ → ℤ → ℕ) (y : ℤ) (old new : Window) : Type 0 where
  pub east : old.x <ℤ new.x
  pub here : IsWindow cells y new
  pub passed : (c : ℤ) → old.x <ℤ c → c <ℤ new.x → IsFar cells y c

-- the state of the middle cell and of its neighbours, from north clockwise
abbrev pub states_of_window : Window → List ℕ
states_of_window w =
    w.middle.here ∷ w.middle.north ∷ w.east.north ∷ w.east.here ∷ w.east.south
    ∷ w.middle.south ∷ w.west.south ∷ w.west.here ∷ w.west.north ∷ []

-- the list has the cells of the plane from the place (x, y) on that aren't 0, row by row from the north
abbrev pub IsFrom : ℤ → ℤ → ℤ → ℤ → Type 0
IsFrom x y c r = (y <ℤ r) ⊎ ((y ≡ r) × (x ≤ℤ c))

abbrev pub Precedes : ℤ → ℤ → ℤ → ℤ → Type 0
Precedes x y c r = (y <ℤ r) ⊎ ((y ≡ r) × (x <ℤ c))

abbrev pub IsRestOf : (ℤ → ℤ → ℕ) → ℤ → ℤ → List Cell → Type 0
IsRestOf cells x y [] = (c r : ℤ) → IsFrom x y c r → cells c r ≡ 0
IsRestOf cells x y (cell ∷ rest) =
    IsFrom x y cell.x cell.y × ((c r : ℤ) → IsFrom x y c r → Precedes c r cell.x cell.y → cells c r ≡ 0)
    × (cells cell.x cell.y ≡ cell.state) × IsRestOf cells (one_after cell.x) cell.y rest

-- the first cell is in the row
abbrev pub BeginsAt : ℤ → List Cell → Type 0
BeginsAt y [] = ⊥
BeginsAt y (cell ∷ rest) = cell.y ≡ y

-- every pair of the first columns and rows has state 0
pub record IsBlankBefore (cells : ℤ → ℤ → ℕ) : Type 0 where
  pub west : (x y : ℤ) → x <ℤ first_coordinate → cells x y ≡ 0
  pub north : (x y : ℤ) → y <ℤ first_coordinate → cells x y ≡ 0

-- the three rows around y, and the cells south of them
pub record IsBandOfRows (cells : ℤ → ℤ → ℕ) (b : Band) : Type 0 where
  pub rows : AreRows cells b.y first_coordinate b.rows
  pub rest : IsRestOf cells first_coordinate (b.y +ℤ pos 2) b.rest.now

-- the band's rows fit their type
pub record IsSoundBand (b : Band) : Type 0 where
  pub row : IsOfSweep b.y
  pub rows : AreInside b.rows
  pub rest : All IsInside b.rest.now
  pub here : (length b.rows.here.now ≡ 0) ⊎ (b.y <ℤ far)
  pub south : (length b.rows.south.now ≡ 0) ⊎ (one_after b.y <ℤ far)
  pub placed : (cells : ℤ → ℤ → ℕ) × IsBlankBefore cells × IsBandOfRows cells b

-- the band's states are below the bound
pub record IsBandBelow (bound : ℕ) (b : Band) : Type 0 where
  pub rows : AreBelow bound b.rows
  pub rest : All (λ cell. cell.state < bound) b.rest.now

-- how many rows a band has before it, at most
abbrev pub rows_left : Band → ℕ
rows_left b = 3 * length b.rest.now + (if length b.rows.south.now == 0 then 0 else 2) + (if length b.rows.here.now == 0 then 0 else 1)

-- the row and those beside it are blank
abbrev pub IsFarRow : (ℤ → ℤ → ℕ) → ℤ → Type 0
IsFarRow cells y = (x : ℤ) → column_at cells y x ≡ no_column

-- the band went on to the next row beside which a cell stands
pub record GoesSouth (cells : ℤ → ℤ → ℕ) (old new : Band) : Type 0 where
  pub south : old.y <ℤ new.y
  pub here : IsBandOfRows cells new
  pub passed : (r : ℤ) → old.y <ℤ r → r <ℤ new.y → IsFarRow cells r

-- the next row is the one south of the middle row, or, where no cell stands beside that, the one north of the first cell that is left
abbrev pub IsNextRow : Band → ℤ → Type 0
IsNextRow b y =
    ((y ≡ one_after b.y) × ((0 < length b.rows.here.now) ⊎ (0 < length b.rows.south.now)))
    ⊎ ((length b.rows.here.now ≡ 0) × (length b.rows.south.now ≡ 0) × BeginsAt (one_after y) b.rest.now)

-- the cells are sorted: they are those of some plane
abbrev pub IsSortedList : List Cell → Type 0
IsSortedList list = (cells : ℤ → ℤ → ℕ) × IsBlankBefore cells × IsRestOf cells first_coordinate first_coordinate list
