-- The next generation of the whole plane, and whether a cell is born outside it.
use Rattle.std.specs.Prelude.{◌≡◌, ◌≢◌, ℕ, ◌^◌, Bool, true, false, ℤ, pos, neg_ℤ, ◌≤ℤ◌, ◌<ℤ◌}
use Rattle.life_pieces.specs.Pieces.{step_ahead, step_back}

-- a coordinate of the plane
pub record IsPlaneCoordinate (x : ℤ) : Type 0 where
  pub from : neg_ℤ (pos (2 ^ 61)) ≤ℤ x
  pub to : x <ℤ pos (2 ^ 61)

-- a cell outside the plane isn't 0
pub record HasCellOutside (cells : ℤ → ℤ → ℕ) : Type 0 where
  pub x : ℤ
  pub y : ℤ
  pub outside : ¬ (IsPlaneCoordinate x × IsPlaneCoordinate y)
  pub nonzero : cells x y ≢ 0

-- three side lengths east or south
abbrev pub three_ahead : ℤ → ℕ → ℤ
three_ahead place side = step_ahead (step_ahead (step_ahead place side) side) side

-- a place in the columns from `west` to the one before `east` and the rows from `north` to the one before `south`
pub record IsInBox (west north east south x y : ℤ) : Type 0 where
  pub west_of : west ≤ℤ x
  pub east_of : x <ℤ east
  pub north_of : north ≤ℤ y
  pub south_of : y <ℤ south

-- a cell at a place with this property isn't 0
pub record HasNonzeroCell (cells : ℤ → ℤ → ℕ) (P : ℤ → ℤ → Type 0) : Type 0 where
  pub x : ℤ
  pub y : ℤ
  pub place : P x y
  pub nonzero : cells x y ≢ 0

-- the test is true exactly if every cell at a place with this property is 0
pub record TestsBlank (cells : ℤ → ℤ → ℕ) (P : ℤ → ℤ → Type 0) (test : Bool) : Type 0 where
  pub blank : test ≡ true → (x y : ℤ) → P x y → cells x y ≡ 0
  pub other : test ≡ false → HasNonzeroCell cells P

-- the places of the square that begins in this column and this row, and the places around it that are at most `width` columns and rows away
abbrev pub IsInSquare : ℤ → ℕ → ℤ → ℤ → Type 0
IsInSquare start side = IsInBox start start (step_ahead start side) (step_ahead start side)

pub record IsInRing (start : ℤ) (side width : ℕ) (x y : ℤ) : Type 0 where
  pub near : IsInBox (step_back start width) (step_back start width) (step_ahead (step_ahead start side) width) (step_ahead (step_ahead start side) width) x y
  pub outside : ¬ (IsInSquare start side x y)
