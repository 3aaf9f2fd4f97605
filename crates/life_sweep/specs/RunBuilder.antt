-- What was drawn: the runs that a builder was given, and one that may be continued.
use Rattle.std.specs.Prelude.{◌≢◌, ◌≤◌, ℤ, List, [], ◌∷◌, ◌++◌, ℕ, Option, Some, None, IfSome}
use Rattle.life_base.specs.Tree.{Tree}
use Rattle.life_quad.specs.declared.id.Id.{Id}
use Rattle.life_strip.specs.Filling.{IsFilling}
use Rattle.life_strip.specs.Given.{IsNextRunStart, IsRunOnPlane}
use Rattle.life_sweep.specs.declared.run_builder.RunBuilder.{RunBuilder}
use Rattle.life_base.specs.declared.cell.Run.{Run}

abbrev pub open_runs : Option Run → List Run
open_runs None = []
open_runs (Some run) = run ∷ []

-- all runs that were drawn
abbrev pub drawn_runs : RunBuilder → List Run
drawn_runs builder = builder.builder.runs ++ open_runs builder.unclosed

-- a run of one cell
abbrev pub one_cell : ℤ → ℤ → ℕ → Run
one_cell x y state = record { x = x; y = y; len = 1; state = state }

-- the run may be given after these, and isn't blank
pub record IsOpenRun (runs : List Run) (run : Run) : Type 0 where
  pub some_cell : 1 ≤ run.len
  pub inside : IsRunOnPlane run.x run.y run.len
  pub next : IsNextRunStart runs run.x run.y
  pub nonzero : run.state ≢ 0

-- the builder fills the store, and the open run may be given to it
pub record IsHolding (knows : Id → Type 0) (content : Id → Tree) (builder : RunBuilder) : Type 0 where
  pub filling : IsFilling knows content builder.builder
  pub unclosed : IfSome builder.unclosed (IsOpenRun builder.builder.runs)
