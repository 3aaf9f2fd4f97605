-- Laws of squares: their cells, growing, trimming and listing.
use Rattle.std.specs.Prelude.{◌≡◌, ◌≢◌, ◌↔◌, ℕ, ◌^◌, ◌<◌, ◌≤◌, true, ℤ, pos, neg_ℤ, ◌<ℤ◌, ◌≤ℤ◌, List, length}
use Rattle.life_base.specs.declared.cell.Cell.{Cell}
use Rattle.life_base.specs.Tree.{Tree, depth, IsFull, is_blank_tree, state_at}
use Rattle.life_base.specs.declared.cell.TheConstants.{MAX_LEVEL}
use Rattle.life_quad.specs.declared.id.Id.{Id}
use Rattle.life_quad.specs.Moves.{trimmed_square, grown_square}
use Rattle.life_quad.specs.Store.{Nodes, Knows, IsShared, content}
use Rattle.life_quad.specs.Cells.{population, IsCellList}
use Rattle.life_base.specs.Tree.{tree_cell as cell, half_side}

-- a square is blank exactly if each of its cells has state 0
abbrev pub BlankByCells : Type 0
BlankByCells =
    (t : Tree) → IsFull t → (is_blank_tree t ≡ true) ↔ ((i j : ℕ) → i < 2 ^ depth t → j < 2 ^ depth t → state_at t i j ≡ 0)

-- full squares of one level with the same cells are equal
abbrev pub EqualByCells : Type 0
EqualByCells =
    (s t : Tree) → IsFull s → IsFull t → depth s ≡ depth t
    → ((i j : ℕ) → i < 2 ^ depth s → j < 2 ^ depth s → state_at s i j ≡ state_at t i j) → s ≡ t

-- so are those with the same state for every pair of whole numbers
abbrev pub EqualByPlane : Type 0
EqualByPlane =
    (s t : Tree) → IsFull s → IsFull t → depth s ≡ depth t → ((x y : ℤ) → cell s x y ≡ cell t x y) → s ≡ t

-- the cells of a square that aren't 0 lie less than half a side from the middle
abbrev pub CellsLieInside : Type 0
CellsLieInside =
    (t : Tree) (x y : ℤ) → cell t x y ≢ 0
    → (neg_ℤ (pos (half_side t)) ≤ℤ x) × (x <ℤ pos (half_side t)) × (neg_ℤ (pos (half_side t)) ≤ℤ y) × (y <ℤ pos (half_side t))

-- a square one level higher has the same cells on the plane
abbrev pub GrowingKeepsCells : Type 0
GrowingKeepsCells = (t : Tree) → IsFull t → 1 ≤ depth t → (x y : ℤ) → cell (grown_square t) x y ≡ cell t x y

-- so has a trimmed square
abbrev pub TrimmingKeepsCells : Type 0
TrimmingKeepsCells = (t : Tree) (least : ℕ) → IsFull t → 1 ≤ least → (x y : ℤ) → cell (trimmed_square t least) x y ≡ cell t x y

-- trimming ignores growth
abbrev pub TrimmingIgnoresGrowth : Type 0
TrimmingIgnoresGrowth =
    (t : Tree) (least : ℕ) → IsFull t → 1 ≤ least → least ≤ depth t → trimmed_square (grown_square t) least ≡ trimmed_square t least

-- a trimmed square is full, and trimming leaves it
abbrev pub TrimmedIsFixed : Type 0
TrimmedIsFixed =
    (t : Tree) (least : ℕ) → IsFull t → 1 ≤ least → IsFull (trimmed_square t least) × (trimmed_square (trimmed_square t least) least ≡ trimmed_square t least)

-- trimming ends at the least level, leaves a square that is not above it, and makes none larger
abbrev pub TrimmingStops : Type 0
TrimmingStops =
    (t : Tree) (least : ℕ) → IsFull t → 1 ≤ least
    → (least ≤ depth t → least ≤ depth (trimmed_square t least)) × (depth t ≤ least → trimmed_square t least ≡ t) × (depth (trimmed_square t least) ≤ depth t)

-- squares of any levels from the least one on have one trimmed form exactly if they have the same cells on the plane
abbrev pub TrimmedByCells : Type 0
TrimmedByCells =
    (s t : Tree) (least : ℕ) → IsFull s → IsFull t → 1 ≤ least → least ≤ depth s → least ≤ depth t
    → (trimmed_square s least ≡ trimmed_square t least) ↔ ((x y : ℤ) → cell s x y ≡ cell t x y)

-- no square from the least level on with the same cells is of a lower level than the trimmed one
abbrev pub TrimmedIsLowest : Type 0
TrimmedIsLowest =
    (s t : Tree) (least : ℕ) → IsFull s → IsFull t → 1 ≤ least → least ≤ depth s → least ≤ depth t
    → ((x y : ℤ) → cell s x y ≡ cell t x y) → depth (trimmed_square t least) ≤ depth s

-- a square has one list of its nonzero cells, row by row from the north, and in a row from the west
abbrev pub CellsAreListed : Type 0
CellsAreListed =
    (t : Tree) → IsFull t → 1 ≤ depth t → (cells : List Cell) × IsCellList t cells × ((other : List Cell) → IsCellList t other → other ≡ cells)

-- the list of the nonzero cells of a square is as long as their number
abbrev pub ListIsPopulation : Type 0
ListIsPopulation =
    (t : Tree) (cells : List Cell) → IsFull t → 1 ≤ depth t → IsCellList t cells → length cells ≡ population t

-- an Id that a store knows stands for a full square of the greatest level at most
abbrev pub KnownSquaresAreFull : Type 0
KnownSquaresAreFull =
    (s : Nodes) (id : Id) → Knows s id → IsFull (content s id) × (depth (content s id) ≤ MAX_LEVEL)

-- where no node is there twice or is that of a small square, two known Ids of one square are equal
abbrev pub EqualSquaresHaveOneId : Type 0
EqualSquaresHaveOneId =
    (s : Nodes) → IsShared s → (a b : Id) → Knows s a → Knows s b → content s a ≡ content s b → a ≡ b
