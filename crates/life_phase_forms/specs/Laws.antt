-- The laws of phases, and when two texts are equal.
use Rattle.std.specs.Prelude.{◌≡◌, ◌↔◌, ℕ, ℤ, List}
use Rattle.life_base.specs.Sets.{OuterTotalistic}
use Rattle.life_base.specs.declared.cell.TheConstants.{MAX_LEVEL}
use Rattle.life_leap.specs.After.{after}
use Rattle.life_phases.specs.Periods.{HasPeriod}
use Rattle.life_pattern.specs.Files.{Reads}
use Rattle.life_writer.specs.Listing.{canon_text}
use Rattle.life_pattern.specs.Universe.{Universe}
use Rattle.life_forms.specs.Forms.{IsTurnedShift}
use Rattle.life_forms.specs.Turns.{Turn, turned_column, turned_row}
use Rattle.life_phase_forms.specs.OfFile.{IsPhasesTextOf, SayOneCourse}
use Rattle.life_phase_forms.specs.Phases.{AreOfOneCourse, IsPhasesText, begun, phase}

-- the cells of the image of a pattern by a turn
abbrev pub turned_cells : Turn → (ℤ → ℤ → ℕ) → ℤ → ℤ → ℕ
turned_cells turn cells x y = cells (turned_column turn x y) (turned_row turn x y)

-- The generations of the image of a pattern are the images of its generations: a turn takes the neighbours of a cell to the neighbours of its image.
abbrev pub GenerationsKeepTurns : Type 0
GenerationsKeepTurns =
    (rule : OuterTotalistic) (n : ℕ) (turn : Turn) (cells : ℤ → ℤ → ℕ) (x y : ℤ)
    → after rule n (turned_cells turn cells) x y ≡ turned_cells turn (after rule n cells) x y

-- n generations later the pattern is the same, moved or not
abbrev pub HasSomePeriod : OuterTotalistic → ℕ → Universe → Type 0
HasSomePeriod rule n u = (columns : ℤ) × (rows : ℤ) × HasPeriod rule u.cell n columns rows

-- a pattern with a period, and what a turn and a shift make of it some generations later, have the same periods
abbrev pub CoursesKeepPeriods : Type 0
CoursesKeepPeriods =
    (rule : OuterTotalistic) (u v : Universe) (p n k : ℕ) → HasSomePeriod rule p u
    → IsTurnedShift (phase rule k u) (begun v) → HasSomePeriod rule n u ↔ HasSomePeriod rule n v

-- two files have one text exactly if their patterns are one but for places, orientations and phases
abbrev pub PhasesTextsTellFiles : Type 0
PhasesTextsTellFiles =
    (most : ℕ) (a b x y : List ℕ) → IsPhasesTextOf most a x → IsPhasesTextOf most b y → (x ≡ y) ↔ SayOneCourse most a b

-- The text is a canonical file, of a pattern that is the given one but for its place, orientation and phase; and no text of that pattern is another one.
pub record IsFileOfCourse (most : ℕ) (u : Universe) (text : List ℕ) : Type 0 where
  pub file : Universe
  pub reads : Reads MAX_LEVEL text file
  pub course : AreOfOneCourse most u file
  pub canonical : text ≡ canon_text MAX_LEVEL file
  pub fixed : (other : List ℕ) → IsPhasesText MAX_LEVEL most file other → other ≡ text

abbrev pub PhasesTextsAreFiles : Type 0
PhasesTextsAreFiles = (most : ℕ) (bytes text : List ℕ) (is : IsPhasesTextOf most bytes text) → IsFileOfCourse most is.universe text
