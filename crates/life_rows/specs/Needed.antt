-- Which squares a step by rows stores.
use Rattle.std.specs.Prelude.{◌≡◌, ℕ, ◌-◌, ℤ, pos, nat_abs, ◌+ℤ◌, List, ◌∷◌, ◌++◌}
use Rattle.life_base.specs.Sets.{OuterTotalistic}
use Rattle.life_base.specs.Tree.{Tree}
use Rattle.life_base.specs.declared.cell.Run.{Run}
use Rattle.life_strip.specs.Given.{by_columns, half_plane, state_by}
use Rattle.life_strip.specs.Needed.{SomeSquare}
use Rattle.life_next.specs.Generation.{next_life}

-- a square of the next generation has a property: a square of the plane within its first rows, with the next states of these cells
abbrev pub SomeNextAbove : (Tree → Type 0) → ℕ → OuterTotalistic → (ℤ → ℤ → ℕ) → Type 0
SomeNextAbove P rows rule state = SomeSquare P rows (by_columns (next_life rule state))

-- So has one of the next generation of runs: with the next states of the cells of the runs before one of them, and above the row north of that run. Neither it
-- nor a later run changes a state there.
pub record SomeNextOfRuns (P : Tree → Type 0) (rule : OuterTotalistic) (runs : List Run) : Type 0 where
  pub before : List Run
  pub run : Run
  pub after : List Run
  pub are : runs ≡ before ++ run ∷ after
  pub above : SomeNextAbove P (nat_abs (run.y +ℤ pos half_plane) - 1) rule (state_by before)
