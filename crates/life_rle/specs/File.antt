-- What a value of the program says of an RLE file, and of its lines so far. What Pos and Gen mean is of Golly Help (File Formats, Extended RLE
-- format); the rest is the project's own.
use Rattle.std.specs.Prelude.{◌≡◌, ℕ, ◌⊎◌, List, [], ◌++◌, Option, Some}
use Rattle.life_base.specs.declared.kind.Kind.{Kind}
use Rattle.life_base.specs.declared.kind.Kind.TheVariants.{NoHeader}
use Rattle.life_base.specs.declared.fault.Fault.{Fault}
use Rattle.life_base.specs.Refusal.{IsRefusal}
use Rattle.life_base.specs.declared.cell.Run.{Run}
use Rattle.life_rle.specs.declared.file.RleFile.{RleFile}
use Rattle.life_rle.specs.declared.position.Position.{Position}
use Rattle.life_rle.specs.Position.{default_position}
use Rattle.life_rle.specs.Pattern.{Rle, placed_items}
use Rattle.life_rle.specs.Runs.{runs_of}
use Rattle.life_rle.specs.Grammar.{IsPreamble, IsRle, IsSomeRle, BreaksRle}

-- the value has the file's rule, generation and corner, and its runs
pub record Shows (value : RleFile) (file : Rle) : Type 0 where
  pub rule : value.rule ≡ file.rule
  pub generation : value.generation ≡ file.position.generation
  pub x : value.x ≡ file.position.x
  pub y : value.y ≡ file.position.y
  pub runs : value.runs ≡ runs_of (placed_items file)

-- what lines lack that end before the header
abbrev pub missing_rle_part : List (List ℕ) → Option Kind
missing_rle_part lines = Some NoHeader

-- why lines are no file: the place and the kind of the fault
abbrev pub RefusesRle : ℕ → List (List ℕ) → Fault → Type 0
RefusesRle level lines fault = IsRefusal (IsSomeRle level) (BreaksRle level) missing_rle_part lines fault

-- the runs of lines so far: none before the header, and then those of the file
abbrev pub HasRuns : ℕ → List (List ℕ) → List Run → Type 0
HasRuns level lines runs =
    ((position : Position) × IsPreamble level default_position lines position × (runs ≡ []))
    ⊎ ((file : Rle) × IsRle level lines file × (runs ≡ runs_of (placed_items file)))

-- the runs of further lines are put after those that were there
pub record AddsRuns (level : ℕ) (lines more : List (List ℕ)) (old new : List Run) : Type 0 where
  pub runs : List Run
  pub added : new ≡ old ++ runs
  pub found : (before : List Run) → HasRuns level lines before → HasRuns level more (before ++ runs)

-- runs, and perhaps more runs after them
abbrev pub IsPrefixOfRuns : List Run → List Run → Type 0
IsPrefixOfRuns prefix runs = (more : List Run) × (runs ≡ prefix ++ more)
