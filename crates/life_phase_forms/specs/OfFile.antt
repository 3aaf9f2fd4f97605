-- The text of the pattern of a file for all its places, orientations and phases, and why it has none. The refusals are this project's own.
use Rattle.std.specs.Prelude.{◌≡◌, ◌⊎◌, ℕ, Bool, true, false, List}
use Rattle.life_base.specs.Refusal.{fault_of}
use Rattle.life_base.specs.declared.cell.TheConstants.{MAX_LEVEL}
use Rattle.life_base.specs.declared.fault.Fault.{Fault}
use Rattle.life_base.specs.declared.kind.Kind.TheVariants.{Full, Memory, OutOfPlane}
use Rattle.life_quad.specs.Store.{Nodes}
use Rattle.life_pattern.specs.Files.{Reads}
use Rattle.life_pattern.specs.Store.{ForEachFile}
use Rattle.life_pattern.specs.Universe.{Universe}
use Rattle.life_pattern.specs.declared.pattern.Pattern.{Pattern}
use Rattle.life_phase_forms.specs.Phases.{AreOfOneCourse, IsPhasesText, LeavesUnderway}

-- the bytes are a file whose pattern has this text
pub record IsPhasesTextOf (most : ℕ) (bytes text : List ℕ) : Type 0 where
  pub universe : Universe
  pub reads : Reads MAX_LEVEL bytes universe
  pub stays : ¬ (LeavesUnderway most universe)
  pub is : IsPhasesText MAX_LEVEL most universe text

-- the bytes are a file whose pattern is refused for this
pub record RefusesPhasesOf (most : ℕ) (bytes : List ℕ) (fault : Fault) : Type 0 where
  pub universe : Universe
  pub reads : Reads MAX_LEVEL bytes universe
  pub kind : fault ≡ fault_of OutOfPlane
  pub leaves : LeavesUnderway most universe

-- the bytes are a file whose pattern leaves the plane before its period is found
abbrev pub FileLeavesUnderway : (most : ℕ) → List ℕ → Type 0
FileLeavesUnderway most bytes = (u : Universe) × Reads MAX_LEVEL bytes u × LeavesUnderway most u

-- memory ran out; or a store is full, or the form of a phase has too many squares
abbrev pub IsMemoryOrFull : Fault → Type 0
IsMemoryOrFull fault = (fault ≡ fault_of Memory) ⊎ (fault ≡ fault_of Full)

-- why a pattern in a store has no such text: one of these, or it leaves the plane
abbrev pub RefusesPhases : ℕ → Nodes → Pattern → Fault → Type 0
RefusesPhases most store pattern fault = IsMemoryOrFull fault ⊎ ForEachFile store pattern (λ bytes. RefusesPhasesOf most bytes fault)

-- why two patterns in a store aren't compared: the first has no such text; or none of its files leaves the plane, and the second pattern has no such text.
-- The flag says which of the two it is.
abbrev pub RefusesOneOfTwo : ℕ → Nodes → (first second : Pattern) → (of_second : Bool) → Fault → Type 0
RefusesOneOfTwo most store first second false fault = RefusesPhases most store first fault
RefusesOneOfTwo most store first second true fault =
    ForEachFile store first (λ bytes. ¬ FileLeavesUnderway most bytes) × RefusesPhases most store second fault

-- both bytes are files, of patterns that are one but for their places, orientations and phases
pub record SayOneCourse (most : ℕ) (a b : List ℕ) : Type 0 where
  pub first : Universe
  pub second : Universe
  pub reads_first : Reads MAX_LEVEL a first
  pub reads_second : Reads MAX_LEVEL b second
  pub course : AreOfOneCourse most first second
