-- What the program does with each of its jobs, by the bytes of its files. The jobs, their words and their limits are this project's own.
use Rattle.std.specs.Prelude.{◌≡◌, ◌⊎◌, ◌↔◌, ℕ, zero, suc, ◌^◌, ◌≤◌, ◌<◌, Bool, true, false, List, ◌++◌, length, take, codes, Option, Some, IsSome, IfSome, Ok, Err, IsOk}
use Rattle.life_base.specs.Text.{begins_with}
use Rattle.life_base.specs.declared.fault.Fault.{Fault}
use Rattle.life_base.specs.declared.kind.Kind.TheVariants.{ReadFault, WriteFault, InputTooLong, OutOfPlane, TooManyCells}
use Rattle.command_line.specs.declared.plans.Task.{Task}
use Rattle.command_line.specs.declared.plans.Task.TheVariants as tasks
use Rattle.command_line.specs.declared.plans.Target.TheVariants.{Rle, Mc}
use Rattle.claims.specs.Pattern.{Pattern}
use Rattle.claims.specs.Files.{pattern_of, claimed_fault_of, SayOnePattern, IsShortage}
use Rattle.claims.specs.Counting.{claimed_node_lines, IsCanonicalText}
use Rattle.claims.specs.Shown.{IsClaimedShown}
use Rattle.claims.specs.Generation.{SaysMoreCells, IsClaimedStep, IsUnstepped}
use Rattle.claims.specs.Table.{Table, table_of}
use Rattle.claims.specs.ByTable.{IsClaimedStepBy, IsUnsteppedBy}
use Rattle.theorems.specs.Patterns.{IsRleOfFile}
use Rattle.generation_theorems.specs.ManyGenerations.{IsClaimedTextLater, IsNotAdvanced}
use Rattle.program_theorems.specs.Forms.{SameIn, IsClaimedTextIn, FileLacksClaimedForm, OneFileLacksClaimedForm}
use Rattle.program_theorems.specs.Periods.{IsClaimedShownWithPeriod, HasNoClaimedPeriod}
use Rattle.program_theorems.specs.Faults.{claimed_status_of, claimed_fault_line}

-- the task has a second file: the one that the first is compared with, or a rule table
abbrev pub HasClaimedSecond : Task → Type 0
HasClaimedSecond (tasks.Same form) = Unit {0}
HasClaimedSecond tasks.StepTable = Unit {0}
HasClaimedSecond (tasks.LaterTable n) = Unit {0}
HasClaimedSecond _ = ⊥

-- what a task is given: sources and sinks that have not failed, sinks that take bytes, and a second file exactly if the task has one
pub record IsGiven {B : Type 0} (task : Task) (first : ℕ) (failures : B → ℕ) (second : Option B) (output : ℕ) (output_stalled : Bool)
    (error : ℕ) (error_stalled : Bool) : Type 0 where
  pub first_reads : first ≡ 0
  pub second_reads : IfSome second (λ b. failures b ≡ 0)
  pub second_given : IsSome second ↔ HasClaimedSecond task
  pub writes : output ≡ 0
  pub takes : output_stalled ≡ false
  pub tells : error ≡ 0
  pub hears : error_stalled ≡ false

-- the task writes the canonical text of a pattern: of the file, in a form, or of its next one or a later one
abbrev pub WritesCanonical : Task → Type 0
WritesCanonical (tasks.Same form) = ⊥
WritesCanonical tasks.Show = ⊥
WritesCanonical (tasks.ShowPeriod most) = ⊥
WritesCanonical (tasks.Convert Rle) = ⊥
WritesCanonical _ = Unit {0}

-- the text is that of so many steps of a file by a table, each from the text of the one before: after none it is the canonical text of the file
abbrev pub AreClaimedSteps : Table → ℕ → (file text : List ℕ) → Type 0
AreClaimedSteps table zero file text = IsCanonicalText file text
AreClaimedSteps table (suc n) file text = (before : List ℕ) × AreClaimedSteps table n file before × IsClaimedStepBy table before text

-- one of so many steps of a file by a table isn't made: after fewer of them the text has no next one by the table, for this reason
abbrev pub StepsEndBefore : Table → ℕ → (file : List ℕ) → Fault → Type 0
StepsEndBefore table n file fault = (made : ℕ) × (made < n) × ((text : List ℕ) × AreClaimedSteps table made file text × IsUnsteppedBy table text fault)

-- the status and the text of a task on the bytes of its files
abbrev pub IsOutcome : Task → (file second : List ℕ) → (status : ℕ) → (text : List ℕ) → Type 0
IsOutcome (tasks.Canon form) file second status text = (status ≡ 0) × IsClaimedTextIn form file text
IsOutcome (tasks.Convert Mc) file second status text = (status ≡ 0) × IsCanonicalText file text
IsOutcome (tasks.Convert Rle) file second status text =
    (status ≡ 0) × SayOnePattern file text × (begins_with text (codes "[M2]") ≡ false) × (SaysMoreCells (2 ^ 20) file → ⊥) × IsRleOfFile file text
IsOutcome (tasks.Same form) file second status text =
    IsOk (pattern_of file) × IsOk (pattern_of second) × (OneFileLacksClaimedForm form file second → ⊥)
    × (((status ≡ 0) × SameIn form file second × (text ≡ codes "same\n")) ⊎ ((status ≡ 1) × (SameIn form file second → ⊥) × (text ≡ codes "different\n")))
IsOutcome tasks.Show file second status text =
    (status ≡ 0) × ((pattern : Pattern) × (pattern_of file ≡ Ok pattern)
    × ((canonical : List ℕ) × IsCanonicalText file canonical × IsClaimedShown pattern (claimed_node_lines canonical) text))
IsOutcome (tasks.ShowPeriod most) file second status text =
    (status ≡ 0) × ((pattern : Pattern) × (pattern_of file ≡ Ok pattern)
    × ((canonical : List ℕ) × IsCanonicalText file canonical × IsClaimedShownWithPeriod most pattern (claimed_node_lines canonical) text))
IsOutcome tasks.Step file second status text = (status ≡ 0) × IsClaimedStep file text
IsOutcome tasks.StepTable file second status text = (status ≡ 0) × ((table : Table) × (table_of second ≡ Ok table) × IsClaimedStepBy table file text)
IsOutcome (tasks.Later n) file second status text = (status ≡ 0) × IsClaimedTextLater n file text
IsOutcome (tasks.LaterTable n) file second status text = (status ≡ 0) × ((table : Table) × (table_of second ≡ Ok table) × AreClaimedSteps table n file text)

-- a file that may be read
abbrev pub IsShortFile : List ℕ → Type 0
IsShortFile bytes = length bytes ≤ 2 ^ 30

-- a file that is to be written in RLE is none, or one with too many cells
abbrev pub RefusesClaimedMany : (file : List ℕ) → (of_table : Bool) → Fault → Type 0
RefusesClaimedMany file of_table fault =
    IsShortFile file × (of_table ≡ false) × ((pattern_of file ≡ Err fault) ⊎ ((fault ≡ claimed_fault_of TooManyCells) × SaysMoreCells (2 ^ 20) file))

-- the fault for which a task refuses its files, and whether its line is one of a rule table
abbrev pub RefusesTask : Task → (file second : List ℕ) → (of_table : Bool) → Fault → Type 0
RefusesTask (tasks.Canon form) file second of_table fault =
    IsShortFile file × (of_table ≡ false)
    × ((pattern_of file ≡ Err fault) ⊎ ((fault ≡ claimed_fault_of OutOfPlane) × FileLacksClaimedForm form file))
RefusesTask (tasks.Convert Rle) file second of_table fault = RefusesClaimedMany file of_table fault
RefusesTask (tasks.Same form) file second of_table fault =
    IsShortFile file × IsShortFile second × (of_table ≡ false)
    × ((pattern_of file ≡ Err fault) ⊎ ((IsOk (pattern_of file) × (pattern_of second ≡ Err fault))
    ⊎ ((fault ≡ claimed_fault_of OutOfPlane) × OneFileLacksClaimedForm form file second)))
RefusesTask (tasks.ShowPeriod most) file second of_table fault =
    IsShortFile file × (of_table ≡ false) × ((pattern_of file ≡ Err fault) ⊎ HasNoClaimedPeriod most file fault)
RefusesTask tasks.Step file second of_table fault = IsShortFile file × (of_table ≡ false) × ((pattern_of file ≡ Err fault) ⊎ IsUnstepped file fault)
RefusesTask tasks.StepTable file second of_table fault =
    IsShortFile second × (((of_table ≡ true) × (table_of second ≡ Err fault)) ⊎ (IsShortFile file × ((table : Table) × (table_of second ≡ Ok table)
    × (((of_table ≡ false) × (pattern_of file ≡ Err fault)) ⊎ ((of_table ≡ true) × IsUnsteppedBy table file fault)))))
RefusesTask (tasks.Later n) file second of_table fault =
    IsShortFile file × (of_table ≡ false) × ((pattern_of file ≡ Err fault) ⊎ IsNotAdvanced n file fault)
RefusesTask (tasks.LaterTable n) file second of_table fault =
    IsShortFile second × (((of_table ≡ true) × (table_of second ≡ Err fault)) ⊎ (IsShortFile file × ((table : Table) × (table_of second ≡ Ok table)
    × (((of_table ≡ false) × (pattern_of file ≡ Err fault)) ⊎ ((of_table ≡ true) × StepsEndBefore table n file fault)))))
RefusesTask _ file second of_table fault = IsShortFile file × (of_table ≡ false) × (pattern_of file ≡ Err fault)

-- Why a run has no answer: what its files say; the store is full or memory is refused, to read them or for the squares of the answer; a file is too long; a
-- file could
-- not be read; or the text could not be written.
pub data IsReason (task : Task) (file second : List ℕ) (is_unread is_unwritten : Type 0) : Bool → Fault → Type 0 where
  of_files : (of_table : Bool) (fault : Fault) → RefusesTask task file second of_table fault → IsReason task file second is_unread is_unwritten of_table fault
  of_want : (fault : Fault) → IsShortage fault → IsReason task file second is_unread is_unwritten false fault
  of_length : (2 ^ 30 < length file) ⊎ (HasClaimedSecond task × (2 ^ 30 < length second))
      → IsReason task file second is_unread is_unwritten false (claimed_fault_of InputTooLong)
  of_source : is_unread → IsReason task file second is_unread is_unwritten false (claimed_fault_of ReadFault)
  of_sink : is_unwritten → IsReason task file second is_unread is_unwritten false (claimed_fault_of WriteFault)

-- the run ends with this status and tells this line, for a reason; and where a device failed, that is the reason
pub record IsRefused (task : Task) (file second : List ℕ) (is_unread is_unwritten : Type 0) (status : ℕ) (line : List ℕ) : Type 0 where
  pub of_table : Bool
  pub fault : Fault
  pub reason : IsReason task file second is_unread is_unwritten of_table fault
  pub unread : is_unread → fault.kind ≡ ReadFault
  pub unwritten : is_unwritten → fault.kind ≡ WriteFault
  pub status_is : status ≡ claimed_status_of fault.kind
  pub line_is : line ≡ claimed_fault_line of_table fault

-- what a device holds that was given this text after what it held: all of it, or a prefix of it where the device failed
abbrev pub DeviceHolds : (held text : List ℕ) → (is_broken : Type 0) → Option (List ℕ) → Type 0
DeviceHolds held text is_broken after = (after ≡ Some (held ++ text)) ⊎ (is_broken × ((n : ℕ) × (after ≡ Some (held ++ take n text))))
