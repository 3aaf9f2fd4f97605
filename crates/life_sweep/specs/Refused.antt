-- When a generation is refused: by the first condition, in this order, that holds. The order is this project's own. And which square a step
-- that was refused because the store was full had to store.
use Rattle.std.specs.Prelude.{◌≡◌, ◌≢◌, ◌⊎◌, ℕ, ◌^◌, ◌<◌, ◌≤◌, List, ℤ, pos, nat_abs, ◌+ℤ◌, ◌<ℤ◌, Option, Some, None}
use Rattle.life_base.specs.Refusal.{fault_of}
use Rattle.life_base.specs.Tree.{Tree, tree_cell}
use Rattle.life_base.specs.declared.cell.Run.{Run}
use Rattle.life_base.specs.declared.cell.TheConstants.{MAX_LEVEL}
use Rattle.life_base.specs.declared.fault.Fault.{Fault}
use Rattle.life_quad.specs.Cells.{population}
use Rattle.life_strip.specs.Given.{IsRunOnPlane, half_plane, state_by, by_columns}
use Rattle.life_strip.specs.Needed.{SomeSquare}
use Rattle.life_table.specs.Meaning.{Answer, Becomes, Ambiguous}
use Rattle.life_sweep.specs.Generation.{states_at}
use Rattle.life_sweep.specs.Sweep.{IsFirstAmbiguous, IsLeft}
use Rattle.life_base.specs.declared.kind.Kind.TheVariants as kinds

-- the condition holds and this follows; or it doesn't, and that does
abbrev pub IfElse : Type 0 → Type 0 → Type 0 → Type 0
IfElse condition this that = (condition × this) ⊎ ((¬ condition) × that)

-- some pair has a state at or above this
abbrev pub HasStateFrom : ℕ → (ℤ → ℤ → ℕ) → Type 0
HasStateFrom n_states cells = (x : ℤ) × (y : ℤ) × (n_states ≤ cells x y)

-- the line of some pair gives two states
abbrev pub SomeAmbiguous : (List ℕ → Answer → Type 0) → (ℤ → ℤ → ℕ) → Type 0
SomeAmbiguous answers cells = (x : ℤ) × (y : ℤ) × (line : ℕ) × answers (states_at cells x y) (Ambiguous line)

-- the fault of an ambiguous line
abbrev pub fault_on : ℕ → Fault
fault_on line = record { place = record { line = line }; kind = kinds.Ambiguous }

-- Why the next generation of a square is refused, if it is: it has more cells that aren't 0 than `most`; it has a state that isn't below
-- `n_states`; the line of a pair is ambiguous, and the first pair by row and then column tells which; a pair outside the plane would not
-- become 0.
abbrev pub GenerationRefusal : (List ℕ → Answer → Type 0) → ℕ → ℕ → Tree → Option Fault → Type 0
GenerationRefusal answers n_states most square refusal =
    IfElse (most < population square) (refusal ≡ Some (fault_of kinds.TooManyCells))
    (IfElse (HasStateFrom n_states (tree_cell square)) (refusal ≡ Some (fault_of kinds.StateBeyondTable))
    (IfElse (SomeAmbiguous answers (tree_cell square)) ((line : ℕ) × IsFirstAmbiguous answers (tree_cell square) line × (refusal ≡ Some (fault_on line)))
    (IfElse (IsLeft answers (tree_cell square)) (refusal ≡ Some (fault_of kinds.OutOfPlane)) (refusal ≡ None))))

-- a square has a property that is above the row of a cell which isn't 0, with the cells of these runs
pub record SomeAbove (P : Tree → Type 0) (runs : List Run) : Type 0 where
  pub x : ℤ
  pub y : ℤ
  pub inside : IsRunOnPlane x y 1
  pub nonzero : state_by runs x y ≢ 0
  pub square : SomeSquare P (nat_abs (y +ℤ pos half_plane)) (by_columns (state_by runs))

-- so has one of the whole plane, with the cells of the runs, and none is outside it
pub record SomeOfAll (P : Tree → Type 0) (runs : List Run) : Type 0 where
  pub outside : (x y : ℤ) → ¬ (IsRunOnPlane x y 1) → state_by runs x y ≡ 0
  pub square : SomeSquare P (2 ^ MAX_LEVEL) (by_columns (state_by runs))

-- A square of the next generation has a property: one that is above the row of a cell which becomes another state than 0; or, where no cell is
-- ambiguous and none leaves the plane, one of the whole plane.
pub data SomeNext (P : Tree → Type 0) (answers : List ℕ → Answer → Type 0) (cells : ℤ → ℤ → ℕ) : Type 0 where
  above_cell : (x y : ℤ) (state : ℕ) (next : ℤ → ℤ → ℕ) → IsRunOnPlane x y 1 → answers (states_at cells x y) (Becomes state) → state ≢ 0
      → ((c r : ℤ) → IsRunOnPlane c r 1 → r <ℤ y → answers (states_at cells c r) (Becomes (next c r)))
      → SomeSquare P (nat_abs (y +ℤ pos half_plane)) (by_columns next) → SomeNext P answers cells
  of_plane : (next : ℤ → ℤ → ℕ) → ((x y : ℤ) → answers (states_at cells x y) (Becomes (next x y))) → ((x y : ℤ) → ¬ (IsRunOnPlane x y 1) → next x y ≡ 0)
      → SomeSquare P (2 ^ MAX_LEVEL) (by_columns next) → SomeNext P answers cells
