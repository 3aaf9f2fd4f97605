-- Full squares of cells, as trees without sharing, divided into quarters as macrocell files divide them (Golly Help, File
-- Formats, macrocell).
use Rattle.std.specs.Prelude.{◌≡◌, ◌==◌, ℕ, zero, suc, ◌-◌, ◌^◌, ◌<◌, Bool, ◌&&◌, nat_lt, if◌then◌else◌, List, [], ◌∷◌, ℤ, pos, neg_ℤ, ◌+ℤ◌, int_le, int_lt, unsigned_abs}

-- a full square: a point has one state; any other has four quarters, north-west, north-east, south-west, south-east
pub data Tree : Type 0 where
  point : ℕ → Tree
  quad : Tree → Tree → Tree → Tree → Tree

-- how often the square is divided into quarters: a square of depth k has 2 ^ k columns and rows
abbrev pub depth : Tree → ℕ
depth (point s) = 0
depth (quad nw ne sw se) = suc (depth nw)

-- each state is at most 255, and the four quarters of each square have one depth
abbrev pub IsFull : Tree → Type 0
IsFull (point s) = s < 256
IsFull (quad nw ne sw se) =
    IsFull nw × IsFull ne × IsFull sw × IsFull se × (depth ne ≡ depth nw) × (depth sw ≡ depth nw) × (depth se ≡ depth nw)

-- the quarters, of which a point has none
abbrev pub quarters : Tree → List Tree
quarters (point s) = []
quarters (quad nw ne sw se) = nw ∷ ne ∷ sw ∷ se ∷ []

-- the square of a depth in which every cell has state 0
abbrev pub blank : ℕ → Tree
blank zero = point 0
blank (suc k) = quad (blank k) (blank k) (blank k) (blank k)

-- whether every cell has state 0
abbrev pub is_blank_tree : Tree → Bool
is_blank_tree (point s) = s == 0
is_blank_tree (quad nw ne sw se) = is_blank_tree nw && is_blank_tree ne && is_blank_tree sw && is_blank_tree se

-- the state in a column and a row of the square, both counted from the north-west corner
abbrev pub state_at : Tree → ℕ → ℕ → ℕ
state_at (point s) column row = s
state_at (quad nw ne sw se) column row =
    let half = 2 ^ depth nw in
    if nat_lt row half
    then (if nat_lt column half then state_at nw column row else state_at ne (column - half) row)
    else (if nat_lt column half then state_at sw column (row - half) else state_at se (column - half) (row - half))

-- half of the side of a square of depth 1 or more
abbrev pub half_side : Tree → ℕ
half_side tree = 2 ^ (depth tree - 1)

-- The state of the cell (x, y) of a square in whose middle (0, 0) lies: a square of depth k, 1 or more, covers the columns and the rows from
-- -2 ^ (k - 1) to 2 ^ (k - 1) - 1, and all cells outside are 0.
abbrev pub tree_cell : Tree → ℤ → ℤ → ℕ
tree_cell tree x y =
    let half = pos (half_side tree) in
    if int_le (neg_ℤ half) x && int_lt x half && int_le (neg_ℤ half) y && int_lt y half
    then state_at tree (unsigned_abs (x +ℤ half)) (unsigned_abs (y +ℤ half))
    else 0
