-- What a reader of lines keeps of the lines so far.
use Rattle.std.specs.Prelude.{◌≡◌, ℕ, Bool, true, false, List, [], ◌∷◌, ◌++◌}
use Rattle.life_rle.specs.declared.cursor.Cursor.{Cursor}
use Rattle.life_base.specs.declared.cell.Run.{Run}
use Rattle.life_rle.specs.declared.lines.Phase.{Phase}
use Rattle.life_rle.specs.declared.lines.Phase.TheVariants as phases
use Rattle.life_rle.specs.Pattern.{Rle}
use Rattle.life_rle.specs.Position.{default_position}
use Rattle.life_rle.specs.Grammar.{IsPreamble, IsUnmarked, IsMarked}
use Rattle.life_rle.specs.File.{HasRuns}
use Rattle.life_rle.specs.Cursor.{IsNear, IsAfterItems, start_of}

abbrev pub is_refused : Phase → Bool
is_refused phases.Refused = true
is_refused _ = false

abbrev pub is_over : Phase → Bool
is_over (phases.Over rule position) = true
is_over _ = false

-- the lines so far, by the phase: comments and position lines, a file that goes on, a file that is over
abbrev pub StandsAt : ℕ → Phase → Cursor → List (List ℕ) → Type 0
StandsAt level phases.Refused cursor lines = Unit {0}
StandsAt level (phases.Before position) cursor lines = IsNear level cursor × IsPreamble level default_position lines position × (cursor ≡ start_of position)
StandsAt level (phases.Items rule position) cursor lines =
    (file : Rle) × IsUnmarked level lines file × IsNear level cursor × IsAfterItems cursor file × (rule ≡ file.rule) × (position ≡ file.position)
StandsAt level (phases.Over rule position) cursor lines = (file : Rle) × IsMarked level lines file × (rule ≡ file.rule) × (position ≡ file.position)

-- after any lines at which the first phase and cursor stand, the second stand with one line more, and these are the line's runs
pub record Advances (level : ℕ) (phase : Phase) (cursor : Cursor) (line : List ℕ) (next : Phase) (place : Cursor) (runs : List Run) : Type 0 where
  pub stands : (lines : List (List ℕ)) → StandsAt level phase cursor lines → StandsAt level next place (lines ++ line ∷ [])
  pub found : (lines : List (List ℕ)) (before : List Run) → StandsAt level phase cursor lines → HasRuns level lines before
      → HasRuns level (lines ++ line ∷ []) (before ++ runs)

-- such a line, whose runs are put after those that were there
pub record TakesRleLine (level : ℕ) (phase : Phase) (cursor : Cursor) (line : List ℕ) (next : Phase) (place : Cursor) (before after : List Run) : Type 0 where
  pub runs : List Run
  pub advances : Advances level phase cursor line next place runs
  pub added : after ≡ before ++ runs

-- before the mark the cursor is in the plane or at its edge
abbrev pub IsCursorPlaced : ℕ → Phase → Cursor → Type 0
IsCursorPlaced level (phases.Items rule position) cursor = IsNear level cursor
IsCursorPlaced level _ cursor = Unit {0}
