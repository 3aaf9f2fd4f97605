-- A step row by row, in a store of nodes, and which squares it stores. Of the public contracts only that of `next_by_rows` speaks of it, by `SomeOfFileByRows`.
use Rattle.std.specs.Prelude.{◌≡◌, ℕ, ◌^◌, ◌++◌, List, ℤ}
use Rattle.life_base.specs.Sets.{OuterTotalistic}
use Rattle.life_base.specs.Text.{lines_of}
use Rattle.life_base.specs.Tree.{Tree, depth, tree_cell}
use Rattle.life_base.specs.declared.cell.Run.{Run}
use Rattle.life_base.specs.declared.cell.TheConstants.{MAX_LEVEL}
use Rattle.life_base.specs.declared.rule.Rule.{Rule}
use Rattle.life_base.specs.declared.rule.Rule.TheVariants.{Life}
use Rattle.life_quad.specs.Store.{Nodes}
use Rattle.life_quad.specs.declared.id.Id.{Id}
use Rattle.life_rle.specs.File.{HasRuns}
use Rattle.life_rle.specs.Grammar.{IsRle}
use Rattle.life_rle.specs.Pattern.{Rle}
use Rattle.life_rows.specs.Needed.{SomeNextAbove, SomeNextOfRuns}
use Rattle.life_rows.specs.Stepping.{IsStepping, Stepping}
use Rattle.life_next.specs.Generation.{next_life}
use Rattle.life_pattern.specs.Files.{Reads}
use Rattle.life_pattern.specs.Store.{IsKnown, content}
use Rattle.life_pattern.specs.Universe.{Universe, least_level}
use Rattle.life_step.specs.Refusals.{PatternHasMoreCells, SomeOfRoot}

-- the step was given the runs of these lines, and the store has what it keeps of them
pub record KeepsRows (store : Nodes) (lines : List (List ℕ)) (step : Stepping) : Type 0 where
  pub are : HasRuns MAX_LEVEL lines step.runs
  pub stepping : IsStepping (IsKnown store) (content store) step

-- The bytes are a file of this B/S rule and this generation, no more than 2^20 cells of its pattern aren't 0, and the square of the whole plane has the
-- cells of its next generation.
pub record IsNextOfFile (bytes : List ℕ) (rule : OuterTotalistic) (store : Nodes) (generation : ℕ) (square : Id) : Type 0 where
  pub universe : Universe
  pub reads : Reads MAX_LEVEL bytes universe
  pub rule_is : universe.rule ≡ Life rule
  pub generation_is : universe.generation ≡ generation
  pub few : ¬ PatternHasMoreCells (2 ^ 20) universe
  pub known : IsKnown store square
  pub level : depth (content store square) ≡ MAX_LEVEL
  pub cells : (x y : ℤ) → tree_cell (content store square) x y ≡ next_life rule universe.cell x y

-- the first lines of the bytes are a file in RLE of this rule, as those up to the header are
pub record HasHeaderRule (bytes : List ℕ) (rule : Rule) : Type 0 where
  pub lines : List (List ℕ)
  pub after : List (List ℕ)
  pub whole : lines_of bytes ≡ lines ++ after
  pub file : Rle
  pub is : IsRle MAX_LEVEL lines file
  pub rule_is : file.rule ≡ rule

-- a square of the next generation of the runs of some lines has a property
pub record SomeNextOfLines (P : Tree → Type 0) (rule : OuterTotalistic) (lines : List (List ℕ)) : Type 0 where
  pub runs : List Run
  pub are : HasRuns MAX_LEVEL lines runs
  pub square : SomeNextOfRuns P rule runs

-- A square has a property that a step of a file row by row stores under a B/S rule: one of the next generation of the runs of its first lines, one of the plane
-- with the next generation of its pattern, or the square to which this plane is trimmed.
pub data SomeByRows (P : Tree → Type 0) (rule : OuterTotalistic) (bytes : List ℕ) : Type 0 where
  of_first_lines : (lines after : List (List ℕ)) → lines_of bytes ≡ lines ++ after → SomeNextOfLines P rule lines → SomeByRows P rule bytes
  of_next_plane : (u : Universe) → Reads MAX_LEVEL bytes u → u.rule ≡ Life rule → SomeNextAbove P (2 ^ MAX_LEVEL) rule u.cell → SomeByRows P rule bytes
  of_trimmed_plane : (u : Universe) → Reads MAX_LEVEL bytes u → u.rule ≡ Life rule
      → SomeOfRoot P (next_life rule u.cell) MAX_LEVEL (least_level (Life rule)) → SomeByRows P rule bytes

-- so has one that the step of a file in RLE stores under the rule of its own header
abbrev pub SomeOfFileByRows : (Tree → Type 0) → List ℕ → Type 0
SomeOfFileByRows P bytes = (rule : OuterTotalistic) × HasHeaderRule bytes (Life rule) × SomeByRows P rule bytes
