-- How many different blocks of cells a file may have: squares of a side of 2 ^ level cells, side by side from the corner of the plane. The project's
-- own.
use Rattle.std.specs.Prelude.{◌≡◌, ◌≢◌, ℕ, ◌+◌, ◌*◌, ◌^◌, ◌<◌, ◌≤◌, List, ◌++◌, length, Contains, ℤ, pos, ◌-ℤ◌}
use Rattle.life_base.specs.Lines.{joined_lines}
use Rattle.life_base.specs.declared.cell.Run.{Run}
use Rattle.life_base.specs.declared.rule.Rule.{Rule}
use Rattle.life_rle.specs.File.{HasRuns, IsPrefixOfRuns}
use Rattle.life_rle.specs.Runs.{runs_of}
use Rattle.life_rle.specs.RunsLaw.{rle_state_by, AreGoodRuns, AreRunsInOrder}
use Rattle.life_rle.specs.Grammar.{IsRle}
use Rattle.life_rle.specs.Pattern.{Rle, placed_items, rle_cell}
use Rattle.life_rle.specs.Plane.{rle_plane_end}

-- a block: its level, and its row and its column among the blocks of that level
pub record Block : Type 0 where
  pub level : ℕ
  pub row : ℕ
  pub column : ℕ

-- the state in a column and a row of a block, counted from its corner
abbrev pub block_cell : ℕ → (ℤ → ℤ → ℕ) → Block → ℕ → ℕ → ℕ
block_cell top cell b i j = cell (pos (b.column * 2 ^ b.level + i) -ℤ rle_plane_end top) (pos (b.row * 2 ^ b.level + j) -ℤ rle_plane_end top)

-- the block has the cells of one of these, of its level and its row
pub record HasCellsOfOne (top : ℕ) (cell : ℤ → ℤ → ℕ) (blocks : List Block) (b : Block) : Type 0 where
  pub column : ℕ
  pub one : Contains blocks (record b { column = column })
  pub same : (i j : ℕ) → i < 2 ^ b.level → j < 2 ^ b.level → block_cell top cell b i j ≡ block_cell top cell (record b { column = column }) i j

-- each block of level 1 and up with a nonzero cell has the cells of one of these
abbrev pub AreAllBlocks : ℕ → (ℤ → ℤ → ℕ) → List Block → Type 0
AreAllBlocks top cell blocks =
    (b : Block) (i j : ℕ) → 1 ≤ b.level → b.level ≤ top → i < 2 ^ b.level → j < 2 ^ b.level → block_cell top cell b i j ≢ 0 → HasCellsOfOne top cell blocks b

-- A file of some bytes has few different blocks: of the levels 1 to `top` at most four a level and 14 for each byte.
abbrev pub FewBlocks : Type 0
FewBlocks =
    (top : ℕ) (lines : List (List ℕ)) (file : Rle) → IsRle top lines file
    → (blocks : List Block) × AreAllBlocks top (rle_cell file) blocks × (length blocks ≤ 14 * length (joined_lines lines) + 4 * top)

-- The same of any lines: of their longest prefix that breaks no rule, whose runs go on from those of each other prefix.
pub record HasFewBlocks (top : ℕ) (lines : List (List ℕ)) : Type 0 where
  pub rule : Rule
  pub runs : List Run
  pub good : AreGoodRuns top rule runs
  pub order : AreRunsInOrder runs
  pub blocks : List Block
  pub all : AreAllBlocks top (rle_state_by runs) blocks
  pub few : length blocks ≤ 14 * length (joined_lines lines) + 4 * top
  pub most : (prefix behind : List (List ℕ)) (before : List Run) → lines ≡ prefix ++ behind → HasRuns top prefix before → IsPrefixOfRuns before runs
  pub whole : (file : Rle) → IsRle top lines file → runs ≡ runs_of (placed_items file)

abbrev pub FewBlocksInPrefixes : Type 0
FewBlocksInPrefixes = (top : ℕ) (lines : List (List ℕ)) → HasFewBlocks top lines
