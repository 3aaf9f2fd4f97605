-- What the runs of a file are, and that its cells are what they say.
use Rattle.std.specs.Prelude.{◌≡◌, ℕ, ◌≤◌, ◌⊎◌, Bool, true, ◌&&◌, List, [], ◌∷◌, ℤ, pos, neg_ℤ, ◌+ℤ◌, ◌≤ℤ◌, ◌<ℤ◌, int_lt, int_le, if◌then◌else◌}
use Rattle.std.specs.List.{AllByRecursion}
use Rattle.std.specs.Ordering.{int_eq}
use Rattle.life_base.specs.declared.rule.Rule.{Rule}
use Rattle.life_base.specs.declared.cell.Run.{Run}
use Rattle.life_rle.specs.Plane.{rle_plane_end}
use Rattle.life_rle.specs.States.{is_state_of}
use Rattle.life_rle.specs.Pattern.{Rle, placed_items, rle_cell}
use Rattle.life_rle.specs.Runs.{runs_of}
use Rattle.life_rle.specs.Grammar.{IsRle}

-- a run of at least one cell, in the plane, of a nonzero state of the rule
pub record IsGoodRun (level : ℕ) (rule : Rule) (run : Run) : Type 0 where
  pub some : 1 ≤ run.len
  pub left : neg_ℤ (rle_plane_end level) ≤ℤ run.x
  pub right : (run.x +ℤ pos run.len) ≤ℤ rle_plane_end level
  pub top : neg_ℤ (rle_plane_end level) ≤ℤ run.y
  pub bottom : run.y <ℤ rle_plane_end level
  pub state : is_state_of rule run.state ≡ true
  pub live : 1 ≤ run.state

abbrev pub AreGoodRuns : ℕ → Rule → List Run → Type 0
AreGoodRuns level rule runs = AllByRecursion (IsGoodRun level rule) runs

-- the first stands in an earlier row than the second, or wholly to its left in one row
abbrev pub StandsBefore : Run → Run → Type 0
StandsBefore a b = (a.y <ℤ b.y) ⊎ ((a.y ≡ b.y) × ((a.x +ℤ pos a.len) ≤ℤ b.x))

abbrev pub StandsBeforeAll : Run → List Run → Type 0
StandsBeforeAll a runs = AllByRecursion (StandsBefore a) runs

-- each run stands before each later one, so that no two have a cell in common
abbrev pub AreRunsInOrder : List Run → Type 0
AreRunsInOrder [] = Unit {0}
AreRunsInOrder (run ∷ runs) = StandsBeforeAll run runs × AreRunsInOrder runs

-- whether a run has the pair among its cells
abbrev pub has_cell : Run → ℤ → ℤ → Bool
has_cell run x y = int_eq y run.y && (int_le run.x x && int_lt x (run.x +ℤ pos run.len))

-- the state that runs give a pair, 0 where none has it among its cells
abbrev pub rle_state_by : List Run → ℤ → ℤ → ℕ
rle_state_by [] x y = 0
rle_state_by (run ∷ runs) x y = if has_cell run x y then run.state else rle_state_by runs x y

-- The runs of a file are good runs in order, row by row from the top and from left to right, and its cells are what they say.
abbrev pub RunsAreCells : Type 0
RunsAreCells =
    (level : ℕ) (lines : List (List ℕ)) (file : Rle) → IsRle level lines file
    → AreGoodRuns level file.rule (runs_of (placed_items file)) × AreRunsInOrder (runs_of (placed_items file))
    × ((x y : ℤ) → rle_cell file x y ≡ rle_state_by (runs_of (placed_items file)) x y)

-- a pair lies outside the plane
abbrev pub IsOutsideRlePlane : ℕ → ℤ → ℤ → Type 0
IsOutsideRlePlane level x y = (x <ℤ neg_ℤ (rle_plane_end level)) ⊎ (rle_plane_end level ≤ℤ x) ⊎ (y <ℤ neg_ℤ (rle_plane_end level)) ⊎ (rle_plane_end level ≤ℤ y)

-- every cell outside the plane has state 0
abbrev pub RlesAreBlankOutside : Type 0
RlesAreBlankOutside = (level : ℕ) (lines : List (List ℕ)) (file : Rle) (x y : ℤ) → IsRle level lines file → IsOutsideRlePlane level x y → rle_cell file x y ≡ 0
