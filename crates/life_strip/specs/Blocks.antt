-- Rows of cells of the states 0 and 1, 64 columns at a time.
use Rattle.std.specs.Prelude.{◌≡◌, ℕ, suc, ◌+◌, ◌-◌, ◌*◌, ◌/◌, ◌%◌, ◌^◌, ◌<◌, ◌≤◌, ◌⊎◌, nat_lt, nat_le, if◌then◌else◌, List, [], ◌∷◌, All, AllPairs}
use Rattle.life_base.specs.declared.cell.TheConstants.{MAX_LEVEL}
use Rattle.life_base.specs.Tree.{Tree, quad, point}
use Rattle.life_strip.specs.declared.blocks.Block.{Block}

-- the cell in a column of 64, the westernmost of which is the highest binary digit of their number
abbrev pub cell_in_word : ℕ → ℕ → ℕ
cell_in_word cells column = cells / 2 ^ (63 - column) % 2

-- the cells of a block of 64 columns: those of the first block of the list that ends after it, if this has begun there
abbrev pub cells_at_block : List Block → ℕ → ℕ
cells_at_block [] number = 0
cells_at_block (b ∷ rest) number = if nat_lt number b.end then (if nat_le b.start number then b.cells else 0) else cells_at_block rest number

-- the cell in a column of a row
abbrev pub cell_in_blocks : List Block → ℕ → ℕ
cell_in_blocks blocks column = cell_in_word (cells_at_block blocks (column / 64)) (column % 64)

-- a block is on the plane, and where it has more than 64 columns, each of them has a cell
pub record IsRowBlock (b : Block) : Type 0 where
  pub some : b.start < b.end
  pub within : b.end ≤ 2 ^ (MAX_LEVEL - 6)
  pub long : suc b.start < b.end → b.cells ≡ 2 ^ 64 - 1

-- blocks from west to east
pub record AreRowBlocks (blocks : List Block) : Type 0 where
  pub each : All IsRowBlock blocks
  pub rise : AllPairs (λ a b. a.end ≤ b.start) blocks

-- no cell of a block is in this column or east of it: the block ends there or before, or the column is one of its 64, and none from it on has a cell
abbrev pub IsBlockBefore : ℕ → Block → Type 0
IsBlockBefore column b =
    (64 * b.end ≤ column)
    ⊎ ((0 < column % 64) × (b.start ≡ column / 64) × (b.end ≡ suc (column / 64)) × (b.cells % 2 ^ (64 - column % 64) ≡ 0))

abbrev pub AreBlocksBefore : ℕ → List Block → Type 0
AreBlocksBefore column blocks = All (IsBlockBefore column) blocks

-- The columns from the start to before the end get cells, and every other column keeps its state. No cell is east of the new ones.
pub record AddsCells (old new : List Block) (start end : ℕ) : Type 0 where
  pub blocks : AreRowBlocks new
  pub before : AreBlocksBefore end new
  pub inside : (c : ℕ) → start ≤ c → c < end → cell_in_blocks new c ≡ 1
  pub others : (c : ℕ) → ¬ ((start ≤ c) × (c < end)) → cell_in_blocks new c ≡ cell_in_blocks old c

-- the square of level 1 in a column of two rows, one above the other
abbrev pub two_in : List Block → List Block → ℕ → Tree
two_in upper lower column =
    quad (point (cell_in_blocks upper (2 * column))) (point (cell_in_blocks upper (2 * column + 1)))
    (point (cell_in_blocks lower (2 * column))) (point (cell_in_blocks lower (2 * column + 1)))

-- the square of level 2 in a column of four rows
abbrev pub four_in : List Block → List Block → List Block → List Block → ℕ → Tree
four_in first second third fourth column =
    quad (two_in first second (2 * column)) (two_in first second (2 * column + 1)) (two_in third fourth (2 * column)) (two_in third fourth (2 * column + 1))
