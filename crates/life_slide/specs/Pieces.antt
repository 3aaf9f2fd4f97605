-- Squares side by side, as pieces of a plane of cells.
use Rattle.std.specs.Prelude.{◌≡◌, ℕ, ◌+◌, ◌-◌, ◌%◌, ◌^◌, ℤ, pos, neg_ℤ, ◌+ℤ◌, ◌≤ℤ◌, ◌<ℤ◌, Bool, true, false, if◌then◌else◌}
use Rattle.life_base.specs.Tree.{Tree, quad, tree_cell}
use Rattle.life_base.specs.declared.cell.TheConstants.{MAX_LEVEL}
use Rattle.life_quad.specs.Moves.{trimmed_square}
use Rattle.life_quad.specs.declared.id.Id.{Id}
use Rattle.life_quad.specs.declared.moves.Quarters.{Quarters}
use Rattle.life_pieces.specs.Pieces.{IsPiece, Nine, first_three, last_three, square_from, step_ahead}
use Rattle.life_pieces.specs.declared.grid.Three.{Three}
use Rattle.life_pieces.specs.declared.grid.Four.{Four}

-- the last three of four, or the first three
abbrev pub three_from : {T : Type 0} → Bool → Four T → Three T
three_from last four = if last then last_three four else first_three four

-- where they begin
abbrev pub start : Bool → ℤ → ℕ → ℤ
start last place side = if last then step_ahead place side else place

-- the four western and the four eastern squares of two rows of three
abbrev pub western_quarters : Three Id → Three Id → Quarters
western_quarters north south = record { nw = north.before; ne = north.here; sw = south.before; se = south.here }

abbrev pub eastern_quarters : Three Id → Three Id → Quarters
eastern_quarters north south = record { nw = north.here; ne = north.after; sw = south.here; se = south.after }

-- each of four squares, two by two, has a property
pub record InBlock (P : Id → Type 0) (block : Quarters) : Type 0 where
  pub nw : P block.nw
  pub ne : P block.ne
  pub sw : P block.sw
  pub se : P block.se

-- each of the values has a property of its place: the first is at this one, and each of the others a side length further
module _ {T : Type 0} (P : ℤ → T → Type 0) (side : ℕ) (place : ℤ) where
  pub record AreThreeAlong (three : Three T) : Type 0 where
    pub before : P place three.before
    pub here : P (step_ahead place side) three.here
    pub after : P (step_ahead (step_ahead place side) side) three.after

  pub record AreFourAlong (four : Four T) : Type 0 where
    pub first : P place four.first
    pub second : P (step_ahead place side) four.second
    pub third : P (step_ahead (step_ahead place side) side) four.third
    pub fourth : P (step_ahead (step_ahead (step_ahead place side) side) side) four.fourth

-- squares of one side length as pieces of the plane, of which the north-western one begins in the column x and the row y
module _ (content : Id → Tree) (cells : ℤ → ℤ → ℕ) (side : ℕ) (x : ℤ) where
  abbrev pub AreThreePieces : ℤ → Three Id → Type 0
  AreThreePieces y = AreThreeAlong (λ column id. IsPiece cells column y (content id)) side x

  abbrev pub AreNinePieces : ℤ → Nine → Type 0
  AreNinePieces = AreThreeAlong AreThreePieces side

  abbrev pub AreFourPieces : ℤ → Four Id → Type 0
  AreFourPieces y = AreFourAlong (λ column id. IsPiece cells column y (content id)) side x

  pub record AreTwo (y : ℤ) (a b : Id) : Type 0 where
    pub west : IsPiece cells x y (content a)
    pub east : IsPiece cells (step_ahead x side) y (content b)

  pub record IsBlock (y : ℤ) (block : Quarters) : Type 0 where
    pub nw : IsPiece cells x y (content block.nw)
    pub ne : IsPiece cells (step_ahead x side) y (content block.ne)
    pub sw : IsPiece cells x (step_ahead y side) (content block.sw)
    pub se : IsPiece cells (step_ahead x side) (step_ahead y side) (content block.se)

-- four squares of level k are pieces of the plane, and the square of that level which begins so many columns and rows after them, as far as their side
-- length leaves of these numbers, begins at this place
pub record HasBlockAt (content : Id → Tree) (cells : ℤ → ℤ → ℕ) (columns rows k : ℕ) (x y : ℤ) (block : Quarters) : Type 0 where
  pub west : ℤ
  pub north : ℤ
  pub are : IsBlock content cells (2 ^ k) west north block
  pub column : step_ahead west (columns % 2 ^ k) ≡ x
  pub row : step_ahead north (rows % 2 ^ k) ≡ y

-- a square in one corner of four, and another one everywhere else
abbrev pub in_corner : Bool → Bool → Id → Id → Quarters
in_corner false false id other = record { nw = id; ne = other; sw = other; se = other }
in_corner true false id other = record { nw = other; ne = id; sw = other; se = other }
in_corner false true id other = record { nw = other; ne = other; sw = id; se = other }
in_corner true true id other = record { nw = other; ne = other; sw = other; se = id }

-- a square of level k that begins there meets the square of level k about the middle of the plane
pub record IsNearMiddle (k : ℕ) (place : ℤ) : Type 0 where
  pub low : neg_ℤ (pos (2 ^ (k - 1) + 2 ^ (k - 1) + 2 ^ (k - 1))) ≤ℤ place
  pub high : place <ℤ pos (2 ^ (k - 1))

-- the cells of a square, seen from another origin
abbrev pub cells_from : Tree → ℤ → ℤ → ℤ → ℤ → ℕ
cells_from t columns rows x y = tree_cell t (x +ℤ columns) (y +ℤ rows)

-- the square of the whole plane with these cells
abbrev pub plane_from : Tree → ℤ → ℤ → Tree
plane_from t columns rows =
    let corner = neg_ℤ (pos (2 ^ (MAX_LEVEL - 1))) in square_from (cells_from t columns rows) MAX_LEVEL corner corner

-- where columns or rows are counted from so that a side of a box begins at 0, or ends at -1
abbrev pub side_origin : Bool → ℤ → ℤ → ℤ
side_origin false low high = low
side_origin true low high = high +ℤ pos 1

-- where a side of a square of level k begins that begins with a side of a box, or ends with it
abbrev pub side_start : Bool → ℤ → ℤ → ℕ → ℤ
side_start false low high k = low
side_start true low high k = (high +ℤ pos 1) +ℤ neg_ℤ (pos (2 ^ k))

-- the same plane, trimmed, but not below this level
abbrev pub root_from : Tree → ℤ → ℤ → ℕ → Tree
root_from t columns rows least = trimmed_square (plane_from t columns rows) least
