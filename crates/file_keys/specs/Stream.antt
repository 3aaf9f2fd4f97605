-- What the command `keys` writes of the patterns of a stream, one after another. The project's own.
use Rattle.std.specs.Prelude.{◌≡◌, ◌⊎◌, ◌↔◌, ◌+◌, ◌-◌, ◌<◌, ◌≤◌, ◌^◌, ◌==◌, ℕ, Bool, true, false, List, [], ◌∷◌, ◌++◌, map, flat_map, take, length, nat_lt, decimal, codes, Option, Some, None, Result, Ok, Err, OnOk, MatchOption}
use Rattle.std.specs.IoError.{error_kind}
use Rattle.std.specs.Io.KnownBytes.{Appends, Consumes, IsAtEnd}
use Rattle.std.specs.declared.io.Error.{Error as IoError}
use Rattle.file_hints.specs.Damage.{warning_of}
use Rattle.file_hints.specs.Refused.{foreign_at_start}
use Rattle.file_hints.specs.Warnings.{warning_sentence}
use Rattle.file_hints.specs.declared.warnings.Warning.{Warning}
use Rattle.life_base.specs.DeviceRuns.{SinkRun, SourceRun, source_run}
use Rattle.life_base.specs.Inputs.{CameBeyond}
use Rattle.life_base.specs.Refusal.{fault_of}
use Rattle.life_base.specs.Writing.{WritesPrefix}
use Rattle.life_base.specs.declared.kind.Kind.{Kind}
use Rattle.life_base.specs.declared.kind.Kind.TheVariants as kinds
use Rattle.pattern_sources.specs.Faults.{fault_line, refusal_of, status_of, Reports}
use Rattle.command_line.specs.Origins.{OpenerGives}
use Rattle.command_line.specs.declared.origins.Origin.{Origin}
use Rattle.command_line.specs.declared.plans.KeyForm.{KeyForm}
use Rattle.command_line.specs.declared.plans.StreamPlan.{StreamPlan}
use Rattle.file_keys.specs.Keys.{escaped_name, pieces_of, without_advice}
use Rattle.file_keys.specs.KeyRuns.{bytes_of_name, greatest_status, IsOutcomeOf, IsReportedAs, Listed, outcome_status, output_line, output_of, report_line, style_by, Processed, Word, WritesFiles}
use Rattle.file_keys.specs.declared.keys.outcome.Outcome.{Outcome}
use Rattle.file_keys.specs.declared.keys.outcome.Outcome.TheVariants.{Key, Refused, Unopened}
use Rattle.file_keys.specs.declared.keys.outputs.Outputs.{Outputs}
use Rattle.file_keys.specs.declared.keys.refusal.OpenedFile.{OpenedFile}
use Rattle.file_keys.specs.declared.keys.style.Style.{Style}
use Rattle.file_keys.specs.declared.stream.held_piece.HeldPiece.{HeldPiece}
use Rattle.file_keys.specs.declared.stream.runs.StreamRun.{StreamRun}

-- The patterns of a stream: the pieces that end in NUL, which isn't of them. What is after the last NUL is one too, unless it is empty.
abbrev pub patterns_of : List ℕ → List (List ℕ)
patterns_of bytes = pieces_of 0 bytes

-- what comes of a pattern: what comes of a file with these bytes that no read of fails
pub record IsOutcomeOfPiece (form : KeyForm) (piece : List ℕ) (outcome : Outcome) : Type 0 where
  pub left : Option (List ℕ)
  pub comes : IsOutcomeOf form (foreign_at_start false piece) (record { before = Some piece; after = left; failures = 0 }) outcome

-- the warning of a pattern, if it has a key
abbrev pub warning_with : Outcome → List ℕ → Option Warning
warning_with (Key key) piece = warning_of piece
warning_with (Refused refusal) piece = None
warning_with (Unopened kind) piece = None

-- the line of a warning
abbrev pub warning_line : List ℕ → Option Warning → List ℕ
warning_line name None = []
warning_line name (Some warning) = escaped_name name ++ (codes ": warning: " ++ (warning_sentence warning ++ codes "\n"))

-- what is reported of a pattern: what `keys` reports of a file, and a warning
pub record PatternEntry : Type 0 where
  pub file : Processed
  pub warning : Option Warning

-- what standard output gets of them: what it gets of files
abbrev pub entry_lines : Style → List PatternEntry → List ℕ
entry_lines style entries = output_of style (map (λ e. e.file) entries)

-- what standard error gets of one, and of them
abbrev pub entry_report : Style → PatternEntry → List ℕ
entry_report style e =
    warning_line (bytes_of_name e.file.name) e.warning ++ report_line style (bytes_of_name e.file.name) e.file.outcome

abbrev pub entry_reports : Style → List PatternEntry → List ℕ
entry_reports style entries = flat_map (entry_report style) entries

-- their greatest status, or 0
abbrev pub entry_status : List PatternEntry → ℕ
entry_status entries = greatest_status (map (λ e. e.file) entries)

-- what is reported of the pattern with this number: what is reported of a file with its bytes whose name is the number
pub record IsEntryOf (form : KeyForm) (number : ℕ) (piece : List ℕ) (e : PatternEntry) : Type 0 where
  pub name : e.file.name ≡ Listed (decimal number)
  pub came : Outcome
  pub comes : IsOutcomeOfPiece form piece came
  pub reported : IsReportedAs came e.file.outcome
  pub warning : e.warning ≡ warning_with came piece

-- the same of each of these, which have the numbers from this one on
abbrev pub AreEntriesFrom : KeyForm → ℕ → List (List ℕ) → List PatternEntry → Type 0
AreEntriesFrom form number [] [] = Unit {0}
AreEntriesFrom form number [] (e ∷ entries) = ⊥
AreEntriesFrom form number (piece ∷ pieces) [] = ⊥
AreEntriesFrom form number (piece ∷ pieces) (e ∷ entries) = IsEntryOf form number piece e × AreEntriesFrom form (number + 1) pieces entries

-- the first patterns of a stream that begins with these bytes, whatever follows
abbrev pub BeginsWith : List ℕ → List (List ℕ) → Type 0
BeginsWith came pieces = (more : List ℕ) → (rest : List (List ℕ)) × (patterns_of (came ++ more) ≡ pieces ++ rest)

-- why a stream isn't read to its end: a read failed, or too much came
abbrev pub BreaksStream : SourceRun → Kind → Type 0
BreaksStream source kind = ((kind ≡ kinds.ReadFault) × (source.failures ≡ 1))
    ⊎ ((kind ≡ kinds.InputTooLong) × CameBeyond (2 ^ 64 - 2) source.before source.after)

-- what is reported of that, under the number of the pattern that the reading stopped in
abbrev pub fault_entry : ℕ → Kind → PatternEntry
fault_entry number kind =
    record { file = record { name = Listed (decimal number); outcome = Refused (without_advice (fault_of kind)) }; warning = None }

-- and of a stream that can't be opened
abbrev pub unopened_entry : List ℕ → IoError → PatternEntry
unopened_entry name error = record { file = record { name = Word name; outcome = Unopened (error_kind error) }; warning = None }

-- What is reported of a stream that was opened, and whether that is all.
pub data TellsSource (form : KeyForm) (source : SourceRun) (entries : List PatternEntry) (is_all : Bool) : Type 0 where
  -- It was read to its end: this is reported of its patterns.
  whole : (came : List ℕ) → Consumes source.before source.after came → IsAtEnd source.after → source.failures ≡ 0
      → AreEntriesFrom form 1 (patterns_of came) entries → TellsSource form source entries is_all
  -- It isn't read to its end: this is reported of its first patterns, and of the next one why.
  broken : (came : List ℕ) (pieces : List (List ℕ)) (first : List PatternEntry) (kind : Kind) → Consumes source.before source.after came
      → BeginsWith came pieces → AreEntriesFrom form 1 pieces first → BreaksStream source kind
      → entries ≡ first ++ (fault_entry (length pieces + 1) kind ∷ []) → TellsSource form source entries is_all
  -- This was reported of its first patterns, and then the output failed.
  partly : (came : List ℕ) (pieces : List (List ℕ)) → Consumes source.before source.after came → BeginsWith came pieces
      → AreEntriesFrom form 1 pieces entries → is_all ≡ false → TellsSource form source entries is_all

module _ {R : Type 0} (remaining : R → Option (List ℕ)) (reads_failed : R → ℕ) where
  -- the same of what an opener gave for the name of a stream
  abbrev pub TellsGiven : KeyForm → List ℕ → Result (OpenedFile R) IoError → List PatternEntry → Bool → Type 0
  TellsGiven form name (Ok opened) entries is_all =
      (end : R) × TellsSource form (source_run remaining reads_failed opened.source end) entries is_all
  TellsGiven form name (Err error) entries is_all = entries ≡ unopened_entry name error ∷ []

module _ {F R : Type 0} (step : F → Origin → Result (OpenedFile R) IoError → F → Type 0) (remaining : R → Option (List ℕ)) (reads_failed : R → ℕ) where
  -- and of the stream that a plan names
  pub record TellsStream (plan : StreamPlan) (opener : F) (entries : List PatternEntry) (is_all : Bool) : Type 0 where
    pub given : Result (OpenedFile R) IoError
    pub after : F
    pub opened : OpenerGives step plan.stream.now opener given after
    pub tells : TellsGiven remaining reads_failed plan.form plan.stream.now given entries is_all

  -- What a run over a stream did with its outputs, and the status that it answered.
  pub data StreamRan (plan : StreamPlan) (opener : F) (output error : SinkRun) (flushed : Bool) (status : ℕ) : Type 0 where
    -- All was reported, and the greatest status is answered.
    through : (entries : List PatternEntry) → TellsStream plan opener entries true
        → Appends output.before output.after (entry_lines (style_by plan.json plan.zero) entries) → flushed ≡ true
        → Reports error (entry_reports (style_by plan.json plan.zero) entries) → status ≡ entry_status entries
        → StreamRan plan opener output error flushed status
    -- Standard output failed, or took no bytes: a prefix was written of what is reported of the first patterns.
    broken_off : (entries : List PatternEntry) (is_all : Bool) → TellsStream plan opener entries is_all
        → WritesPrefix output.before output.after (entry_lines (style_by plan.json plan.zero) entries)
        → (output.failures ≡ 1) ⊎ (output.stalled ≡ true)
        → Reports error (entry_reports (style_by plan.json plan.zero) entries ++ fault_line (refusal_of (fault_of kinds.WriteFault)))
        → status ≡ status_of kinds.WriteFault
        → StreamRan plan opener output error flushed status

-- no byte is NUL
abbrev pub LacksNul : List ℕ → Type 0
LacksNul [] = Unit {0}
LacksNul (b ∷ bytes) = ((b == 0) ≡ false) × LacksNul bytes

-- What is held of a piece that was begun: its first 2^30 bytes, and whether there are more; or memory was refused for some of them.
pub record HoldsPiece (held : HeldPiece) (piece : List ℕ) : Type 0 where
  pub no_end : LacksNul piece
  pub bytes : held.lacks_memory ≡ false → held.bytes.items ≡ take (2 ^ 30) piece
  pub long : held.lacks_memory ≡ false → held.is_long ≡ nat_lt (2 ^ 30) (length piece)
  pub some : held.lacks_memory ≡ true → 0 < length piece

-- at Ok nothing more is said than that
abbrev pub done : {A : Type 0} → Result A Kind → Result (Unit {0}) Kind
done (Ok a) = Ok tt
done (Err kind) = Err kind

-- a run can take patterns: standard output hasn't failed, nor has standard error as long as it takes reports
pub record CanTakePieces (run : StreamRun) (out_failures err_failures : ℕ) : Type 0 where
  pub works : out_failures ≡ 0
  pub hears : run.outputs.tells ≡ true → err_failures ≡ 0

-- what is reported where a stream ends, of the piece that was begun, or that the stream isn't read to its end
abbrev pub TellsStreamEnd : KeyForm → ℕ → Option Kind → List ℕ → List PatternEntry → Type 0
TellsStreamEnd form count None begun entries = AreEntriesFrom form (count + 1) (patterns_of begun) entries
TellsStreamEnd form count (Some kind) begun entries = entries ≡ fault_entry (count + 1) kind ∷ []

module _ {W E : Type 0} (held : W → Option (List ℕ)) (contents : E → Option (List ℕ)) (failures : E → ℕ) (stalled : E → Bool) where
  -- these were written
  abbrev pub WritesEntries : W → W → E → E → (old new : Outputs) → Result (Unit {0}) Kind → List PatternEntry → Type 0
  WritesEntries out_old out_new err_old err_new old new result entries =
      WritesFiles held contents failures stalled out_old out_new err_old err_new old new result (entry_lines old.style entries)
      (entry_reports old.style entries) (entry_status entries)

  -- One was written, of this name and with this warning; it says what came, or that memory was refused for its line.
  pub record WritesEntry (out_old out_new : W) (err_old err_new : E) (old new : Outputs) (result : Result (Unit {0}) Kind) (name : List ℕ)
      (came : Outcome) (warning : Option Warning) : Type 0 where
    pub reported : Outcome
    pub how : IsReportedAs came reported
    pub writes : WritesFiles held contents failures stalled out_old out_new err_old err_new old new result (output_line old.style name reported)
        (warning_line name warning ++ report_line old.style name reported) (outcome_status reported)

  -- Of a stream whose last bytes had begun a piece, more bytes came: pieces of it have ended, and were written, and another one is begun.
  pub record TakesPieces (form : KeyForm) (count_old count_new : ℕ) (begun bytes left : List ℕ) (out_old out_new : W) (err_old err_new : E)
      (old new : Outputs) (result : Result (Unit {0}) Kind) : Type 0 where
    pub pieces : List (List ℕ)
    pub entries : List PatternEntry
    pub split : (more : List ℕ) → patterns_of (begun ++ (bytes ++ more)) ≡ pieces ++ patterns_of (left ++ more)
    pub are : AreEntriesFrom form (count_old + 1) pieces entries
    pub count : count_new ≡ count_old + length pieces
    pub few : length pieces ≤ length bytes
    pub writes : WritesEntries out_old out_new err_old err_new old new result entries
