-- What a task writes, by the bytes of its files, and why it is refused.
use Rattle.std.specs.Prelude.{◌≡◌, ◌⊎◌, ◌<◌, ◌^◌, ℕ, zero, suc, Bool, true, false, List, [], Option, Some, Result, IfOk, IfErr, OnOk, IsErrAnd, codes, if◌then◌else◌}
use Rattle.std.specs.Io.KnownBytes.{Appends}
use Rattle.life_base.specs.DeviceRuns.{SourceRun, SinkRun}
use Rattle.life_base.specs.Inputs.{ReadAll}
use Rattle.life_base.specs.Refusal.{fault_of}
use Rattle.life_base.specs.Text.{lines_of}
use Rattle.life_base.specs.Tree.{Tree}
use Rattle.life_base.specs.Writing.{WritesPrefix}
use Rattle.life_base.specs.declared.fault.Fault.{Fault}
use Rattle.life_base.specs.declared.cell.TheConstants.{MAX_LEVEL}
use Rattle.life_base.specs.declared.kind.Kind.TheVariants.{Full, Memory, OutOfPlane, ReadFault, WriteFault}
use Rattle.life_quad.specs.Store.{Nodes}
use Rattle.life_pattern.specs.Files.{Accepted, Reads, Refuses}
use Rattle.life_reader.specs.Space.{AddsFile, IsSquareOfFile}
use Rattle.life_canon.specs.Running.{RunRefuses}
use Rattle.life_pattern.specs.Store.{IsRead, IsShortageOf}
use Rattle.life_writer.specs.Texts.{IsCanonical, IsRleOf, IsShownText}
use Rattle.life_pattern.specs.Universe.{Universe}
use Rattle.life_pattern.specs.declared.pattern.Pattern.{Pattern}
use Rattle.life_table.specs.Grammar.{IsPlainTable}
use Rattle.life_table.specs.Reading.{RefusesTable}
use Rattle.life_table.specs.declared.table.Table.{Table}
use Rattle.life_generations.specs.Later.{IsTextLater, LaterRefusal}
use Rattle.life_periods.specs.OfFile.{IsShownWithPeriod, RefusesPeriodOfFile}
use Rattle.life_step.specs.Refusals.{LifeRefusal, SomeOfNextFile, SomeOfNextFileBy, TableRefusal}
use Rattle.life_step.specs.Stepped.{IsStepped, IsSteppedBy}
use Rattle.pattern_forms.specs.InForm.{AreSameIn, IsFirstToLack, OneFileLacksForm, RefusesFormFor}
use Rattle.pattern_sources.specs.Sources.{AreOfInput, HasNoText, HasText, InputRefuses, IsTooSmallFor, RefusesInForm, RefusesMany, IsSourceShortage, IsCallShortage}
use Rattle.pattern_sources.specs.Forms.{IsTextIn}
use Rattle.command_line.specs.Plans.{HasSecond}
use Rattle.life_base.specs.declared.form.Form.{Form}
use Rattle.life_base.specs.declared.form.Form.TheVariants.{Placed}
use Rattle.command_line.specs.declared.plans.Task.{Task}
use Rattle.command_line.specs.declared.plans.Task.TheVariants.{Canon, Convert, Same, Show, ShowPeriod, Step, StepTable, Later, LaterTable}
use Rattle.command_line.specs.declared.plans.Target.TheVariants.{Rle, Mc}
use Rattle.pattern_sources.specs.declared.refusals.Refusal.{Refusal}
use Rattle.life_cli.specs.declared.jobs.Made.{Made}
use Rattle.life_cli.specs.declared.jobs.Made.TheVariants.{Text, Comparison}

-- the task writes the canonical text of its file's pattern as that lies
abbrev pub WritesPlacedText : Task → Type 0
WritesPlacedText (Canon Placed) = Unit {0}
WritesPlacedText (Convert Mc) = Unit {0}
WritesPlacedText _ = ⊥

-- the status and the line of two files that are compared in a form
abbrev pub Compares : Form → List ℕ → List ℕ → ℕ → List ℕ → Type 0
Compares form first second status text =
    ((status ≡ 0) × AreSameIn form MAX_LEVEL first second × (text ≡ codes "same\n"))
    ⊎ ((status ≡ 1) × (¬ AreSameIn form MAX_LEVEL first second) × (text ≡ codes "different\n"))

-- The text is what so many calls of `step` by a table make of a file, of which each takes the text of the one before: after none it is the canonical text of
-- the file.
abbrev pub IsSteppedTimes : Table → ℕ → List ℕ → List ℕ → Type 0
IsSteppedTimes table zero bytes text = IsCanonical MAX_LEVEL bytes text
IsSteppedTimes table (suc n) bytes text = (before : List ℕ) × IsSteppedTimes table n bytes before × IsSteppedBy table before text

-- the status and the text of a task on the bytes of its files
abbrev pub TaskWrites : Task → List ℕ → List ℕ → ℕ → List ℕ → Type 0
TaskWrites (Canon form) first second status text = (status ≡ 0) × IsTextIn form MAX_LEVEL first text
TaskWrites (Convert Rle) first second status text = (status ≡ 0) × IsRleOf MAX_LEVEL (2 ^ 20) first text
TaskWrites (Convert Mc) first second status text = (status ≡ 0) × IsCanonical MAX_LEVEL first text
TaskWrites (Same form) first second status text =
    Accepted MAX_LEVEL first × Accepted MAX_LEVEL second × (¬ OneFileLacksForm form MAX_LEVEL (2 ^ 21) first second)
    × Compares form first second status text
TaskWrites Show first second status text = (status ≡ 0) × IsShownText MAX_LEVEL first text
TaskWrites (ShowPeriod most) first second status text = (status ≡ 0) × IsShownWithPeriod most first text
TaskWrites Step first second status text = (status ≡ 0) × IsStepped first text
TaskWrites StepTable first second status text = (status ≡ 0) × ((table : Table) × IsPlainTable (lines_of second) table × IsSteppedBy table first text)
TaskWrites (Later n) first second status text = (status ≡ 0) × IsTextLater n first text
TaskWrites (LaterTable n) first second status text =
    (status ≡ 0) × ((table : Table) × IsPlainTable (lines_of second) table × IsSteppedTimes table n first text)

-- the files were read to their ends, and these are the status and the text of the task on their bytes
pub record HasAnswer (task : Task) (first second : SourceRun) (status : ℕ) (text : List ℕ) : Type 0 where
  pub first_bytes : List ℕ
  pub second_bytes : List ℕ
  pub first_read : ReadAll (2 ^ 30) first.before first.after first_bytes
  pub second_read : HasSecond task → ReadAll (2 ^ 30) second.before second.after second_bytes
  pub writes : TaskWrites task first_bytes second_bytes status text

-- the files were read to their ends, and what was written is the text of the task and nothing else
pub record Worked (task : Task) (status : ℕ) (first second : SourceRun) (output : SinkRun) : Type 0 where
  pub text : List ℕ
  pub answer : HasAnswer task first second status text
  pub written : Appends output.before output.after text

-- what is written of what a task made, and its status
abbrev pub made_text : Made → List ℕ
made_text (Text text) = text.items
made_text (Comparison is_same) = if is_same then codes "same\n" else codes "different\n"

abbrev pub made_status : Made → ℕ
made_status (Text text) = 0
made_status (Comparison is_same) = if is_same then 0 else 1

-- the files were read to their ends, and this is what the task makes of them
abbrev pub TaskMakes : Task → (first second : SourceRun) → Made → Type 0
TaskMakes task first second made = HasAnswer task first second (made_status made) (made_text made)

-- a prefix of the text was written, and the sink failed or took no bytes
pub record IsWrittenInPart (output : SinkRun) (text : List ℕ) (fault : Fault) : Type 0 where
  pub is : fault ≡ fault_of WriteFault
  pub written : WritesPrefix output.before output.after text
  pub cause : (output.failures ≡ 1) ⊎ (output.stalled ≡ true)

-- why a task of one file is refused: nothing comes of it, or its text could not be written
pub data FileRefuses (gives : List ℕ → List ℕ → Type 0) (refuses : List ℕ → Fault → Type 0) (source : SourceRun) (output : SinkRun)
    (fault : Fault) : Type 0 where
  by_reading : HasNoText refuses source fault → FileRefuses gives refuses source output fault
  by_writing : (text : List ℕ) → HasText gives source text → IsWrittenInPart output text fault → FileRefuses gives refuses source output fault

-- no table was being read, and the fault comes for this reason
abbrev pub OfFile : (Fault → Type 0) → Refusal → Type 0
OfFile refuses refusal = (refusal.in_table ≡ false) × refuses refusal.fault

-- the same of one of two pattern files: of the second one if the flag says so
abbrev pub OfOneFile : (of_second : Bool) → (Fault → Type 0) → Refusal → Type 0
OfOneFile of_second refuses refusal = (refusal.of_second ≡ of_second) × OfFile refuses refusal

-- the refusal with the fault of one of two pattern files
abbrev pub refusal_in : (of_second : Bool) → Fault → Refusal
refusal_in of_second fault = record { fault = fault; in_table = false; of_second = of_second; made = 0 }

-- All of a file was read, the store has its pattern, and no square was stored since it was `old` but such as the file needs; or this is the refusal of
-- the file, which is the second of two if the flag says so.
pub record IsPatternIn (of_second : Bool) (old store : Nodes) (source : SourceRun) (found : Result Pattern Refusal) : Type 0 where
  pub bytes : List ℕ
  pub read : ReadAll (2 ^ 30) source.before source.after bytes
  pub pattern : IfOk found (IsRead MAX_LEVEL bytes store)
  pub adds : OnOk found (AddsFile bytes old store)
  pub fault : IfErr found (OfOneFile of_second (Refuses MAX_LEVEL bytes))

-- why two files aren't compared in a form: one of their patterns has none
abbrev pub RefusesSame : Form → List ℕ → List ℕ → Fault → Type 0
RefusesSame form a b fault = RefusesFormFor form (OneFileLacksForm form MAX_LEVEL (2 ^ 21) a b) fault

-- Why two files aren't compared: the first isn't read; all of it was read, and the second isn't; all of both was read, and the first is no
-- file, or it is one and the second isn't, or both are, and aren't compared in the form; or the store is full or memory is refused for the first, or, once all
-- of it was read, for the second. The flag says which of the two files is at fault, if one is.
pub data AreUncompared (form : Form) (first second : SourceRun) (of_second : Bool) (fault : Fault) : Type 0 where
  by_first : of_second ≡ false → InputRefuses first fault → AreUncompared form first second of_second fault
  by_second : of_second ≡ true → (a : List ℕ) → ReadAll (2 ^ 30) first.before first.after a → InputRefuses second fault
      → AreUncompared form first second of_second fault
  by_first_file : of_second ≡ false → (a b : List ℕ) → ReadAll (2 ^ 30) first.before first.after a → ReadAll (2 ^ 30) second.before second.after b
      → Refuses MAX_LEVEL a fault → AreUncompared form first second of_second fault
  by_second_file : of_second ≡ true → (a b : List ℕ) → ReadAll (2 ^ 30) first.before first.after a → ReadAll (2 ^ 30) second.before second.after b
      → Accepted MAX_LEVEL a → Refuses MAX_LEVEL b fault → AreUncompared form first second of_second fault
  by_form : (a b : List ℕ) → ReadAll (2 ^ 30) first.before first.after a → ReadAll (2 ^ 30) second.before second.after b
      → Accepted MAX_LEVEL a → Accepted MAX_LEVEL b → RefusesSame form a b fault
      → (fault ≡ fault_of OutOfPlane → IsFirstToLack form MAX_LEVEL (2 ^ 21) of_second a b) → AreUncompared form first second of_second fault
  by_first_shortage : IsSourceShortage [] first fault → AreUncompared form first second of_second fault
  by_second_shortage : (a : List ℕ) (stored : List Tree) → ReadAll (2 ^ 30) first.before first.after a → AreOfInput [] first.before stored
      → IsSourceShortage stored second fault → AreUncompared form first second of_second fault

-- no comparison of two files is made, and the refusal says which of them is at fault, if one is
abbrev pub IsUncompared : Form → (first second : SourceRun) → Refusal → Type 0
IsUncompared form first second refusal = OfFile (AreUncompared form first second refusal.of_second) refusal

-- why the comparison of two files is refused: there is none, or its line could not be written
pub data SameRefuses (form : Form) (first second : SourceRun) (output : SinkRun) (of_second : Bool) (fault : Fault) : Type 0 where
  by_comparing : AreUncompared form first second of_second fault → SameRefuses form first second output of_second fault
  by_telling : (status : ℕ) (text : List ℕ) → HasAnswer (Same form) first second status text → IsWrittenInPart output text fault
      → SameRefuses form first second output of_second fault

-- why a run of `run_canon` in a store of 2^31 squares is refused
abbrev pub CanonRefuses : SourceRun → SinkRun → Fault → Type 0
CanonRefuses first output fault = (store : Nodes) × (store.limit ≡ 2 ^ 31) × RunRefuses MAX_LEVEL (2 ^ 30) store first output fault
    × (fault ≡ fault_of Full → IsTooSmallFor [] first store)

-- why bytes aren't stepped under their own rule: they are no file, the store is full or memory is refused, or they are one whose pattern has no next
-- generation
abbrev pub RefusesLifeStep : List ℕ → Fault → Type 0
RefusesLifeStep bytes fault =
    Refuses MAX_LEVEL bytes fault
    ⊎ (IsCallShortage (IsSquareOfFile bytes) (λ P. SomeOfNextFile P bytes) fault
    ⊎ ((u : Universe) × Reads MAX_LEVEL bytes u × LifeRefusal MAX_LEVEL u (Some fault)))

-- the same by a table
abbrev pub RefusesStepBy : Table → List ℕ → Fault → Type 0
RefusesStepBy table bytes fault =
    Refuses MAX_LEVEL bytes fault
    ⊎ (IsCallShortage (IsSquareOfFile bytes) (λ P. SomeOfNextFileBy P table bytes) fault
    ⊎ ((u : Universe) × Reads MAX_LEVEL bytes u × TableRefusal MAX_LEVEL table u (Some fault)))

-- why bytes have no later text: they are no file; a store of 2^31 squares holds its limit, or memory is wanted; or there is such a reason against their
-- pattern
abbrev pub RefusesFor : (Universe → Option Fault → Type 0) → List ℕ → Fault → Type 0
RefusesFor Reason bytes fault =
    Refuses MAX_LEVEL bytes fault
    ⊎ (((store : Nodes) × (store.limit ≡ 2 ^ 31) × IsShortageOf store fault)
    ⊎ ((u : Universe) × Reads MAX_LEVEL bytes u × Reason u (Some fault)))

-- why bytes aren't taken so many generations further under their own rule
abbrev pub RefusesGenerations : ℕ → List ℕ → Fault → Type 0
RefusesGenerations n bytes fault = RefusesFor (LaterRefusal n) bytes fault

-- why a text isn't stepped by a table
abbrev pub RefusesStepOf : Table → List ℕ → Fault → Type 0
RefusesStepOf table text fault = RefusesFor (TableRefusal MAX_LEVEL table) text fault

-- why a file isn't stepped so many times by a table: the text of a generation before the last isn't, and the refusal says how many were made
abbrev pub RefusesTimes : Table → ℕ → List ℕ → Refusal → Type 0
RefusesTimes table n bytes refusal =
    (refusal.made < n) × ((text : List ℕ) × IsSteppedTimes table refusal.made bytes text × RefusesStepOf table text refusal.fault)

-- all of a file was read, and it is this rule table
pub record HasTable (source : SourceRun) (table : Table) : Type 0 where
  pub bytes : List ℕ
  pub read : ReadAll (2 ^ 30) source.before source.after bytes
  pub is : IsPlainTable (lines_of bytes) table

-- why a file gives no rule table: it isn't read; all of it was read, and it is none; or memory was refused
pub data HasNoTable (source : SourceRun) (fault : Fault) : Type 0 where
  table_by_input : InputRefuses source fault → HasNoTable source fault
  table_by_lines : (bytes : List ℕ) → ReadAll (2 ^ 30) source.before source.after bytes → RefusesTable (lines_of bytes) fault → HasNoTable source fault
  table_by_memory : fault ≡ fault_of Memory → HasNoTable source fault

-- no byte of the source was read, and no call of it has failed
abbrev pub IsUnread : SourceRun → Type 0
IsUnread source = (source.after ≡ source.before) × (source.failures ≡ 0)

-- a table was being read, and the fault comes for this reason
abbrev pub OfTable : (Fault → Type 0) → Refusal → Type 0
OfTable refuses refusal = (refusal.in_table ≡ true) × refuses refusal.fault

-- the second file is a rule table, and the first was stepped to this text by it
abbrev pub HasTextByTable : (first second : SourceRun) → List ℕ → Type 0
HasTextByTable first second text = (table : Table) × HasTable second table × HasText (IsSteppedBy table) first text

-- why there is no such text: the table's file gives none, and the first one is unread; or nothing comes of the first one by it
abbrev pub HasNoTextByTable : (first second : SourceRun) → Refusal → Type 0
HasNoTextByTable first second refusal = (OfTable (HasNoTable second) refusal × IsUnread first)
    ⊎ OfFile (λ fault. (table : Table) × HasTable second table × HasNoText (RefusesStepBy table) first fault) refusal

-- the second file is a rule table, and the first was stepped so many times to this text by it
abbrev pub HasTextLaterByTable : ℕ → (first second : SourceRun) → List ℕ → Type 0
HasTextLaterByTable n first second text = (table : Table) × HasTable second table × HasText (IsSteppedTimes table n) first text

-- why a file isn't: nothing comes of it, or one of the steps is refused
abbrev pub HasNoTextLater : Table → ℕ → SourceRun → Refusal → Type 0
HasNoTextLater table n first refusal =
    HasNoText (Refuses MAX_LEVEL) first refusal.fault
    ⊎ ((bytes : List ℕ) × ReadAll (2 ^ 30) first.before first.after bytes × RefusesTimes table n bytes refusal)

-- why there is no such text by the second file: it gives no table, and the first one is unread; or the first file isn't stepped so many times
abbrev pub HasNoTextLaterByTable : ℕ → (first second : SourceRun) → Refusal → Type 0
HasNoTextLaterByTable n first second refusal = (OfTable (HasNoTable second) refusal × IsUnread first)
    ⊎ ((refusal.in_table ≡ false) × ((table : Table) × HasTable second table × HasNoTextLater table n first refusal))

-- why a task is refused with this fault, and what it left of its files and the output
abbrev pub TaskRefuses : Task → (first second : SourceRun) → SinkRun → Refusal → Type 0
TaskRefuses (Canon Placed) first second output refusal = OfFile (CanonRefuses first output) refusal
TaskRefuses (Canon form) first second output refusal = OfFile (FileRefuses (IsTextIn form MAX_LEVEL) (RefusesInForm form) first output) refusal
TaskRefuses (Convert Rle) first second output refusal = OfFile (FileRefuses (IsRleOf MAX_LEVEL (2 ^ 20)) RefusesMany first output) refusal
TaskRefuses (Convert Mc) first second output refusal = OfFile (CanonRefuses first output) refusal
TaskRefuses (Same form) first second output refusal = OfFile (SameRefuses form first second output refusal.of_second) refusal
TaskRefuses Show first second output refusal = OfFile (FileRefuses (IsShownText MAX_LEVEL) (Refuses MAX_LEVEL) first output) refusal
TaskRefuses (ShowPeriod most) first second output refusal = OfFile (FileRefuses (IsShownWithPeriod most) (RefusesPeriodOfFile most) first output) refusal
TaskRefuses Step first second output refusal = OfFile (FileRefuses IsStepped RefusesLifeStep first output) refusal
TaskRefuses StepTable first second output refusal = HasNoTextByTable first second refusal
    ⊎ OfFile (λ fault. (text : List ℕ) × HasTextByTable first second text × IsWrittenInPart output text fault) refusal
TaskRefuses (Later n) first second output refusal = OfFile (FileRefuses (IsTextLater n) (RefusesGenerations n) first output) refusal
TaskRefuses (LaterTable n) first second output refusal = HasNoTextLaterByTable n first second refusal
    ⊎ OfFile (λ fault. (text : List ℕ) × HasTextLaterByTable n first second text × IsWrittenInPart output text fault) refusal

-- what comes of a task before anything is written: what it makes of its files, or why it is refused, whatever the output; and where a source
-- failed, that is reported
pub record MadeOf (task : Task) (first second : SourceRun) (result : Result Made Refusal) : Type 0 where
  pub ok : IfOk result (TaskMakes task first second)
  pub err : IfErr result (λ refusal. (output : SinkRun) → TaskRefuses task first second output refusal)
  pub reported : (first.failures ≡ 1) ⊎ (second.failures ≡ 1) → IsErrAnd result (λ refusal. refusal.fault.kind ≡ ReadFault)

-- what became of a task: it was done, with its status; or why it was refused; and a device that failed, or took no bytes, is reported
pub record TaskRan (task : Task) (first second : SourceRun) (output : SinkRun) (result : Result ℕ Refusal) : Type 0 where
  pub done : IfOk result (λ status. (status < 2) × Worked task status first second output)
  pub refused : IfErr result (TaskRefuses task first second output)
  pub read_reported : (first.failures ≡ 1) ⊎ (second.failures ≡ 1) → IsErrAnd result (λ refusal. refusal.fault.kind ≡ ReadFault)
  pub write_reported : (output.failures ≡ 1) ⊎ (output.stalled ≡ true) → IsErrAnd result (λ refusal. refusal.fault.kind ≡ WriteFault)
