-- Columns and rows along the sides of a square in which no cell has a state other than 0, and what a square that begins at another place sees.
use Rattle.std.specs.Prelude.{◌≡◌, ◌⊎◌, ℕ, ◌+◌, ◌%◌, ◌^◌, ◌≤◌, min, ℤ, ◌≤ℤ◌, ◌<ℤ◌, Bool, true, false, if◌then◌else◌, length, Some, slice_get}
use Rattle.life_base.specs.Tree.{Tree, depth}
use Rattle.life_quad.specs.declared.id.Id.{Id}
use Rattle.life_quad.specs.declared.moves.Quarters.{Quarters}
use Rattle.life_pieces.specs.Pieces.{square_from}
use Rattle.life_pieces.specs.Pieces.{IsPiece, step_ahead}
use Rattle.life_slide.specs.declared.margins.Margins.{Margins}
use Rattle.life_slide.specs.declared.margins.MarginTable.{MarginTable}
use Rattle.life_slide.specs.Pieces.{IsBlock}

-- a column or a row of a square with this side length that begins at a place
pub record IsOnSide (place : ℤ) (side : ℕ) (u : ℤ) : Type 0 where
  pub from : place ≤ℤ u
  pub to : u <ℤ step_ahead place side

-- the square with this side length that begins in the column x and the row y has state 0 in so many columns or rows along each of its sides
pub record AreMarginsAt (cells : ℤ → ℤ → ℕ) (x y : ℤ) (side : ℕ) (m : Margins) : Type 0 where
  pub west : (u v : ℤ) → IsOnSide x side u → IsOnSide y side v → u <ℤ step_ahead x m.west → cells u v ≡ 0
  pub north : (u v : ℤ) → IsOnSide x side u → IsOnSide y side v → v <ℤ step_ahead y m.north → cells u v ≡ 0
  pub east : (u v : ℤ) → IsOnSide x side u → IsOnSide y side v → step_ahead x side ≤ℤ step_ahead u m.east → cells u v ≡ 0
  pub south : (u v : ℤ) → IsOnSide x side u → IsOnSide y side v → step_ahead y side ≤ℤ step_ahead v m.south → cells u v ≡ 0

-- so it is wherever on a plane the square is
abbrev pub AreMarginsOf : Tree → Margins → Type 0
AreMarginsOf t m = (cells : ℤ → ℤ → ℕ) (x y : ℤ) → IsPiece cells x y t → AreMarginsAt cells x y (2 ^ depth t) m

-- the table has margins for the first of its Ids, and they are those of their squares
pub record AreMargins (content : Id → Tree) (table : MarginTable) : Type 0 where
  pub few : length table.margins.items ≤ length table.numbers.ids
  pub right : (i : ℕ) (q : Id) (m : Margins) → slice_get table.numbers.ids i ≡ Some q → slice_get table.margins.items i ≡ Some m → AreMarginsOf (content q) m

-- The margin of four squares two by two is so wide at most: two of a side length lie along that side and have these margins, and the other two, after
-- them, have those.
pub record IsAlong (side near other far behind width : ℕ) : Type 0 where
  pub first : min width side ≤ near
  pub second : min width side ≤ other
  pub third : width ≤ side + far
  pub fourth : width ≤ side + behind

pub record AreMarginsOfFour (side : ℕ) (nw ne sw se m : Margins) : Type 0 where
  pub west : IsAlong side nw.west sw.west ne.west se.west m.west
  pub north : IsAlong side nw.north ne.north sw.north se.north m.north
  pub east : IsAlong side ne.east se.east nw.east sw.east m.east
  pub south : IsAlong side sw.south se.south nw.south ne.south m.south

-- Of two squares side by side, the square that begins so far in the first sees nothing but a margin of the last, or of the first: `before` is the
-- margin at the beginning of that one, and `after` the margin at its end.
abbrev pub Misses : (last : Bool) → (offset side before after : ℕ) → Type 0
Misses true offset side before after = offset ≤ before
Misses false offset side before after = side ≤ offset + after

-- the square in one corner of four, or another one for it, if the square that begins so far in the first of the four sees nothing but a margin of it
pub record IsSeenOrOther (east south : Bool) (columns rows side : ℕ) (m : Margins) (id other result : Id) : Type 0 where
  pub keeps : Bool
  pub is : result ≡ if keeps then id else other
  pub missed : keeps ≡ false → Misses east columns side m.west m.east ⊎ Misses south rows side m.north m.south

-- four squares of level k are pieces of a plane on which the square of that level that begins so many columns and rows after the first is the same
pub record IsSeenAs (content : Id → Tree) (cells : ℤ → ℤ → ℕ) (columns rows k : ℕ) (x y : ℤ) (block : Quarters) : Type 0 where
  pub other : ℤ → ℤ → ℕ
  pub are : IsBlock content other (2 ^ k) x y block
  pub same : square_from other k (step_ahead x (columns % 2 ^ k)) (step_ahead y (rows % 2 ^ k))
      ≡ square_from cells k (step_ahead x (columns % 2 ^ k)) (step_ahead y (rows % 2 ^ k))
