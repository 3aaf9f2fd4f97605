-- The runs that a builder was given, and the cells that they say.
use Rattle.std.specs.Prelude.{◌≡◌, ◌↔◌, ℕ, ◌-◌, ◌^◌, ◌≤◌, ◌⊎◌, Bool, ◌&&◌, if◌then◌else◌, ℤ, pos, neg_ℤ, ◌+ℤ◌, ◌-ℤ◌, ◌<ℤ◌, ◌≤ℤ◌, int_lt, int_le, List, [], ◌∷◌, ◌++◌, length, Some, slice_get, AllPairs}
use Rattle.std.specs.Ordering.{int_eq}
use Rattle.life_base.specs.declared.cell.TheConstants.{MAX_LEVEL}
use Rattle.life_base.specs.declared.cell.Run.{Run}
use Rattle.life_quad.specs.Cells.{IsInRun}

-- whether a run has the pair among its cells
abbrev pub run_covers : Run → ℤ → ℤ → Bool
run_covers run x y = int_eq y run.y && (int_le run.x x && int_lt x (run.x +ℤ pos run.len))

-- the state that runs give a pair: that of the run that covers it, else 0
abbrev pub state_by : List Run → ℤ → ℤ → ℕ
state_by [] x y = 0
state_by (run ∷ runs) x y = if run_covers run x y then run.state else state_by runs x y

-- (x, y) is in a later row than the run, or in its row at or east of its end
abbrev pub IsAfterRun : Run → ℤ → ℤ → Type 0
IsAfterRun run x y = (run.y <ℤ y) ⊎ ((run.y ≡ y) × ((run.x +ℤ pos run.len) ≤ℤ x))

-- The next run may begin at (x, y): after the last one given, and anywhere if none was. This is the project's own rule.
abbrev pub IsNextRunStart : List Run → ℤ → ℤ → Type 0
IsNextRunStart runs x y = (last : Run) → slice_get runs (length runs - 1) ≡ Some last → IsAfterRun last x y

-- each run begins after all before it
abbrev pub AreInOrder : List Run → Type 0
AreInOrder runs = AllPairs (λ a b. IsAfterRun a b.x b.y) runs

-- the plane goes from the negative of this to one less than this
abbrev pub half_plane : ℕ
half_plane = 2 ^ (MAX_LEVEL - 1)

-- the cells (left, top) to (left + len - 1, top) are on the plane
pub record IsRunOnPlane (left top : ℤ) (len : ℕ) : Type 0 where
  pub west : neg_ℤ (pos half_plane) ≤ℤ left
  pub east : (left +ℤ pos len) ≤ℤ pos half_plane
  pub north : neg_ℤ (pos half_plane) ≤ℤ top
  pub south : top <ℤ pos half_plane

-- further runs that may be given after these: of at least one cell each, in the plane, each after the one before
abbrev pub AreNext : List Run → List Run → Type 0
AreNext before [] = Unit {0}
AreNext before (run ∷ runs) = (1 ≤ run.len) × IsRunOnPlane run.x run.y run.len × IsNextRunStart before run.x run.y × AreNext (before ++ run ∷ []) runs

-- the same states by the column and the row of the plane, counted from its north west corner
abbrev pub by_columns : (ℤ → ℤ → ℕ) → ℕ → ℕ → ℕ
by_columns state column row = state (pos column -ℤ pos half_plane) (pos row -ℤ pos half_plane)

-- Runs in order are apart: at most one of them has a pair among its cells, and the state of the pair is that run's.
abbrev pub RunsAreApart : Type 0
RunsAreApart =
    (runs : List Run) (i j : ℕ) (a b : Run) (x y : ℤ) → AreInOrder runs → slice_get runs i ≡ Some a → slice_get runs j ≡ Some b
    → IsInRun a.x a.y a.len x y → IsInRun b.x b.y b.len x y → (i ≡ j) × (state_by runs x y ≡ a.state)

-- With one run more the next one is judged by it, and a pair has that run's state where it is one of its cells, else the state it had.
abbrev pub RunsGrow : Type 0
RunsGrow =
    (runs : List Run) (run : Run) (x y : ℤ)
    → (IsNextRunStart (runs ++ run ∷ []) x y ↔ IsAfterRun run x y)
    × (AreInOrder runs → IsNextRunStart runs run.x run.y → (state : ℕ) → (IsInRun run.x run.y run.len x y → state ≡ run.state)
    → (¬ IsInRun run.x run.y run.len x y → state ≡ state_by runs x y) → state ≡ state_by (runs ++ run ∷ []) x y)
