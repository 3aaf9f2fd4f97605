-- Why a pattern has no next generation: the first condition in order that holds. The order and the limits are the project's own. And which
-- squares a step stores, besides those that reading needs, and which one a refused step had to store.
use Rattle.std.specs.Prelude.{◌≡◌, ◌≢◌, ◌⊎◌, ℕ, ◌-◌, ◌^◌, ◌<◌, ℤ, List, length, Option, Some, None}
use Rattle.life_base.specs.Sets.{OuterTotalistic}
use Rattle.life_base.specs.Refusal.{fault_of}
use Rattle.life_base.specs.Text.{lines_of}
use Rattle.life_base.specs.Tree.{Tree, depth, tree_cell, IsFull}
use Rattle.life_base.specs.declared.cell.Cell.{Cell}
use Rattle.life_base.specs.declared.cell.TheConstants.{MAX_LEVEL}
use Rattle.life_base.specs.declared.fault.Fault.{Fault}
use Rattle.life_base.specs.declared.kind.Kind.TheVariants as kinds
use Rattle.life_base.specs.declared.rule.Rule.{Rule}
use Rattle.life_base.specs.declared.rule.Rule.TheVariants.{Life, Named}
use Rattle.life_quad.specs.Refused.{TrimmedTo}
use Rattle.life_quad.specs.Store.{Nodes}
use Rattle.life_table.specs.Meaning.{Answer, Becomes, Ambiguous}
use Rattle.life_table.specs.declared.table.Table.{Table}
use Rattle.life_next.specs.Generation.{next_life}
use Rattle.life_sweep.specs.Generation.{AnswersAt, TableAnswers}
use Rattle.life_sweep.specs.Refused.{IfElse, HasStateFrom, fault_on, SomeNext}
use Rattle.life_sweep.specs.Rows.{Precedes}
use Rattle.life_block.specs.Needed.{SomeOfNext, level_after}
use Rattle.life_pattern.specs.Files.{Reads, Refuses}
use Rattle.life_pattern.specs.Store.{IsNew}
use Rattle.life_reader.specs.Needs.{SomeOfFile}
use Rattle.life_pattern.specs.Store.{ForEachFile, IsShortageOf}
use Rattle.life_pattern.specs.declared.pattern.Pattern.{Pattern}
use Rattle.life_writer.specs.Texts.{AreCellsOf}
use Rattle.life_pattern.specs.Universe.{Universe, IsWithin, least_level, whole}

-- more cells than this aren't 0
abbrev pub PatternHasMoreCells : ℕ → Universe → Type 0
PatternHasMoreCells most u = (cells : List Cell) × AreCellsOf u.cell cells × (most < length cells)

-- a pair of the plane of this level
abbrev pub IsOfPlane : ℕ → ℤ → ℤ → Type 0
IsOfPlane top x y = IsWithin top x × IsWithin top y

-- a cell outside the plane would not become 0 under the B/S rule
abbrev pub LeavesByRule : ℕ → OuterTotalistic → Universe → Type 0
LeavesByRule top rule u = (x : ℤ) × (y : ℤ) × (¬ (IsOfPlane top x y)) × (next_life rule u.cell x y ≢ 0)

-- what each cell's line of the table answers
module _ (answers : ℤ → ℤ → Answer → Type 0) where
  -- some cell's line gives it two states
  abbrev pub SomeAmbiguousCell : Type 0
  SomeAmbiguousCell = (x : ℤ) × (y : ℤ) × (line : ℕ) × answers x y (Ambiguous line)

  -- the line of the first such cell, row by row from the north, and in a row from the west
  pub record IsFirstAmbiguousCell (line : ℕ) : Type 0 where
    pub x : ℤ
    pub y : ℤ
    pub here : answers x y (Ambiguous line)
    pub before : (c r : ℤ) (other : ℕ) → Precedes c r x y → ¬ (answers c r (Ambiguous other))

  -- a cell outside the plane would not become 0
  abbrev pub LeavesPlane : ℕ → Type 0
  LeavesPlane top = (x : ℤ) × (y : ℤ) × (state : ℕ) × (¬ (IsOfPlane top x y)) × (state ≢ 0) × answers x y (Becomes state)

-- why a pattern under a name is not stepped by a table, if it isn't
abbrev pub TableRefusal : ℕ → Table → Universe → Option Fault → Type 0
TableRefusal top table u refusal =
    IfElse (¬ (u.rule ≡ Named table.name)) (refusal ≡ Some (fault_of kinds.RuleMismatch))
    (IfElse (u.generation ≡ 2 ^ 64 - 1) (refusal ≡ Some (fault_of kinds.GenerationTooLarge))
    (IfElse (PatternHasMoreCells (2 ^ 20) u) (refusal ≡ Some (fault_of kinds.TooManyCells))
    (IfElse (HasStateFrom table.n_states u.cell) (refusal ≡ Some (fault_of kinds.StateBeyondTable))
    (IfElse (SomeAmbiguousCell (AnswersAt table u.cell)) ((line : ℕ) × IsFirstAmbiguousCell (AnswersAt table u.cell) line × (refusal ≡ Some (fault_on line)))
    (IfElse (LeavesPlane (AnswersAt table u.cell) top) (refusal ≡ Some (fault_of kinds.OutOfPlane)) (refusal ≡ None))))))

-- why a pattern under this rule is not stepped without a table, if it isn't
abbrev pub RuleRefusal : ℕ → Rule → Universe → Option Fault → Type 0
RuleRefusal top (Named name) u refusal = refusal ≡ Some (fault_of kinds.NeedsTable)
RuleRefusal top (Life rule) u refusal =
    IfElse (u.generation ≡ 2 ^ 64 - 1) (refusal ≡ Some (fault_of kinds.GenerationTooLarge))
    (IfElse (PatternHasMoreCells (2 ^ 20) u) (refusal ≡ Some (fault_of kinds.TooManyCells))
    (IfElse (LeavesByRule top rule u) (refusal ≡ Some (fault_of kinds.OutOfPlane)) (refusal ≡ None)))

abbrev pub LifeRefusal : ℕ → Universe → Option Fault → Type 0
LifeRefusal top u refusal = RuleRefusal top u.rule u refusal

-- why the step of a pattern in a store is refused, in the words in which the refusal of what it says is reported
abbrev pub RefusesPattern : (Universe → Option Fault → Type 0) → Pattern → (old new : Nodes) → Fault → Type 0
RefusesPattern Refusal pattern old new fault =
    IsShortageOf new fault ⊎ ForEachFile old pattern (λ bytes. (u : Universe) × Reads MAX_LEVEL bytes u × Refusal u (Some fault))

-- why the step of the pattern of a file is refused
abbrev pub RefusesFile : (Universe → Option Fault → Type 0) → List ℕ → Nodes → Fault → Type 0
RefusesFile Refusal bytes store fault =
    Refuses MAX_LEVEL bytes fault ⊎ (IsShortageOf store fault ⊎ ((u : Universe) × Reads MAX_LEVEL bytes u × Refusal u (Some fault)))

-- the square of this level with these cells is trimmed to a smaller one, which has a property
pub record SomeOfRoot (P : Tree → Type 0) (cell : ℤ → ℤ → ℕ) (level least : ℕ) : Type 0 where
  pub square : Tree
  pub full : IsFull square
  pub is : depth square ≡ level
  pub cells : (x y : ℤ) → tree_cell square x y ≡ cell x y
  pub smaller : TrimmedTo P square least

-- a square has a property which the step of this root under a B/S rule needs: of the next generation, or of its root
pub data SomeOfLife (P : Tree → Type 0) (rule : OuterTotalistic) (root : Tree) : Type 0 where
  of_generation : SomeOfNext P rule root → SomeOfLife P rule root
  of_root : SomeOfRoot P (next_life rule (tree_cell root)) (level_after (depth root)) (least_level (Life rule)) → SomeOfLife P rule root

-- so has one that the step by a table needs
pub data SomeOfTable (P : Tree → Type 0) (table : Table) (root : Tree) : Type 0 where
  of_next : SomeNext P (TableAnswers table) (tree_cell root) → SomeOfTable P table root
  of_next_root : (next : ℤ → ℤ → ℕ) → ((x y : ℤ) → AnswersAt table (tree_cell root) x y (Becomes (next x y)))
      → SomeOfRoot P next MAX_LEVEL (least_level (Named table.name)) → SomeOfTable P table root

-- a square has a property which the step under this rule needs; without a table there is none for a name
abbrev pub SomeByRule : (Tree → Type 0) → Rule → Tree → Type 0
SomeByRule P (Life rule) root = SomeOfLife P rule root
SomeByRule P (Named name) root = ⊥

-- so has one that the step by the table of this rule needs
abbrev pub SomeByTable : (Tree → Type 0) → Table → Rule → Tree → Type 0
SomeByTable P table rule root = (rule ≡ Named table.name) × SomeOfTable P table root

-- the bytes are a file, and a square has a property which the step of its pattern needs under its own rule
abbrev pub SomeOfNextFile : (Tree → Type 0) → List ℕ → Type 0
SomeOfNextFile P bytes = (u : Universe) × Reads MAX_LEVEL bytes u × SomeByRule P u.rule (whole MAX_LEVEL u)

-- the same by a table
abbrev pub SomeOfNextFileBy : (Tree → Type 0) → Table → List ℕ → Type 0
SomeOfNextFileBy P table bytes = (u : Universe) × Reads MAX_LEVEL bytes u × SomeByTable P table u.rule (whole MAX_LEVEL u)

-- a square has a property which the bytes need, to be read or to be stepped
abbrev pub SomeOfStep : (Tree → Type 0) → List ℕ → Type 0
SomeOfStep P bytes = SomeOfFile MAX_LEVEL P (lines_of bytes) ⊎ SomeOfNextFile P bytes

-- the same by a table
abbrev pub SomeOfStepBy : (Tree → Type 0) → Table → List ℕ → Type 0
SomeOfStepBy P table bytes = SomeOfFile MAX_LEVEL P (lines_of bytes) ⊎ SomeOfNextFileBy P table bytes

-- the store lacks a square that the step under this rule needs
abbrev pub LacksForLife : Rule → Tree → Nodes → Type 0
LacksForLife rule root store = SomeByRule (IsNew store) rule root

-- the store lacks a square that the step by the table of this rule needs
abbrev pub LacksForTable : Table → Rule → Tree → Nodes → Type 0
LacksForTable table rule root store = SomeByTable (IsNew store) table rule root

-- the store lacks a square that the bytes need, to be read or to be stepped
abbrev pub LacksForStep : List ℕ → Nodes → Type 0
LacksForStep bytes store = SomeOfStep (IsNew store) bytes

-- the same by a table
abbrev pub LacksForStepBy : Table → List ℕ → Nodes → Type 0
LacksForStepBy table bytes store = SomeOfStepBy (IsNew store) table bytes
