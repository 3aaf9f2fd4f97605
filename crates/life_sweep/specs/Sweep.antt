-- What a sweep has done: the next states of the places before one are drawn.
use Rattle.std.specs.Prelude.{◌≡◌, ◌≢◌, ◌⊎◌, ℕ, Bool, true, false, List, ℤ, ◌<ℤ◌, ◌≤ℤ◌}
use Rattle.life_base.specs.declared.cell.Run.{Run}
use Rattle.life_strip.specs.Given.{IsNextRunStart, IsRunOnPlane}
use Rattle.life_table.specs.Meaning.{Answer, Becomes, Ambiguous}
use Rattle.life_sweep.specs.Generation.{states_at}
use Rattle.life_base.specs.declared.cell.Cell.{Cell}
use Rattle.life_base.specs.declared.fault.Fault.{Fault}
use Rattle.life_base.specs.Refusal.{fault_of}
use Rattle.life_sweep.specs.Rows.{Rows, IsFrom, Precedes, AreRows, IsBlankBefore, IsRestOf, first_coordinate}
use Rattle.life_base.specs.declared.kind.Kind.TheVariants as kinds

-- the laws of a generation: what they answer for a cell and its neighbours
module _ (answers : List ℕ → Answer → Type 0) (cells : ℤ → ℤ → ℕ) where
  -- the next state of the place is drawn, unless it is outside the plane and known to leave it
  pub record IsDrawnAt (drawn : ℤ → ℤ → ℕ) (leaves : Bool) (x y : ℤ) : Type 0 where
    pub next : ℕ
    pub answer : answers (states_at cells x y) (Becomes next)
    pub kept : (leaves ≡ false) ⊎ IsRunOnPlane x y 1 → drawn x y ≡ next

  -- a cell outside the plane would not become 0
  pub record IsLeft : Type 0 where
    pub x : ℤ
    pub y : ℤ
    pub next : ℕ
    pub answer : answers (states_at cells x y) (Becomes next)
    pub outside : ¬ (IsRunOnPlane x y 1)
    pub nonzero : next ≢ 0

  -- the first place, row by row, for which the line of this number gives two states
  pub record IsFirstAmbiguous (line : ℕ) : Type 0 where
    pub x : ℤ
    pub y : ℤ
    pub here : answers (states_at cells x y) (Ambiguous line)
    pub before : (c r : ℤ) → Precedes c r x y → (s : ℕ) × answers (states_at cells c r) (Becomes s)

  -- the places before (x, y) are drawn, and no other
  pub record IsSwept (drawn : ℤ → ℤ → ℕ) (leaves : Bool) (x y : ℤ) : Type 0 where
    pub done : (c r : ℤ) → Precedes c r x y → IsDrawnAt drawn leaves c r
    pub clear : (c r : ℤ) → IsFrom x y c r → drawn c r ≡ 0
    pub left : leaves ≡ true → IsLeft

  -- the rows before y are drawn, and no other
  pub record IsSweptRows (drawn : ℤ → ℤ → ℕ) (leaves : Bool) (y : ℤ) : Type 0 where
    pub done : (c r : ℤ) → r <ℤ y → IsDrawnAt drawn leaves c r
    pub clear : (c r : ℤ) → y ≤ℤ r → drawn c r ≡ 0
    pub left : leaves ≡ true → IsLeft

-- the rows around y are those of the cells
pub record IsScene (cells : ℤ → ℤ → ℕ) (y : ℤ) (rows : Rows) : Type 0 where
  pub rows_are : AreRows cells y first_coordinate rows
  pub blank : IsBlankBefore cells

-- the list has the cells of the plane, row by row
pub record IsSorted (plane : ℤ → ℤ → ℕ) (cells : List Cell) : Type 0 where
  pub cells_are : IsRestOf plane first_coordinate first_coordinate cells
  pub blank : IsBlankBefore plane

-- why a step is refused: the first place that is ambiguous, or, where there is none, that a cell leaves the plane
abbrev pub RefusesStep : (List ℕ → Answer → Type 0) → (ℤ → ℤ → ℕ) → Fault → Type 0
RefusesStep answers plane fault =
    ((fault.kind ≡ kinds.Ambiguous) × IsFirstAmbiguous answers plane fault.place.line)
    ⊎ ((fault ≡ fault_of kinds.OutOfPlane) × IsLeft answers plane × ((x y : ℤ) → (s : ℕ) × answers (states_at plane x y) (Becomes s)))

-- a place was drawn: with the state that the law answers, unless it is outside the plane; then that a cell leaves the plane is reported
-- after the place, as it may be known before it
pub record IsPut (answers : List ℕ → Answer → Type 0) (states : List ℕ) (drawn : ℤ → ℤ → ℕ) (old new : Bool) (x y : ℤ) : Type 0 where
  pub next : ℕ
  pub answer : answers states (Becomes next)
  pub kept : (new ≡ false) ⊎ IsRunOnPlane x y 1 → drawn x y ≡ next
  pub stays : new ≡ false → old ≡ false
  pub reported : new ≡ true → (old ≡ true) ⊎ ((¬ (IsRunOnPlane x y 1)) × (next ≢ 0))

-- after these runs others may be given from the place (x, y) on
abbrev pub IsReadyFrom : List Run → ℤ → ℤ → Type 0
IsReadyFrom runs x y = (c r : ℤ) → IsFrom x y c r → IsNextRunStart runs c r

abbrev pub IsReadyRow : List Run → ℤ → Type 0
IsReadyRow runs y = (c r : ℤ) → y ≤ℤ r → IsNextRunStart runs c r
