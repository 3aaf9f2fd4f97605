-- What a run of the command `keys` comes to, file by file, and what it writes of that. The project's own.
use Rattle.std.specs.Prelude.{◌≡◌, ◌⊎◌, ◌↔◌, ◌^◌, ℕ, Bool, true, false, not, max, drop, List, [], ◌∷◌, ◌++◌, map, filter, flat_map, option_map, Option, Some, None, Result, Ok, Err, OnOk, IsUtf8, if◌then◌else◌}
use Rattle.std.specs.List.{FoldsTo}
use Rattle.std.specs.IoError.{error_kind}
use Rattle.std.specs.Io.KnownBytes.{Appends}
use Rattle.std.specs.declared.io.Error.{Error as IoError}
use Rattle.std.specs.declared.io.ErrorKind.TheVariants as io
use Rattle.file_hints.specs.declared.foreign.Foreign.{Foreign}
use Rattle.life_base.specs.DeviceRuns.{SinkRun, SourceRun, source_run}
use Rattle.life_base.specs.Inputs.{ReadAll}
use Rattle.life_base.specs.Refusal.{fault_of}
use Rattle.life_base.specs.Text.{is_empty}
use Rattle.life_base.specs.Writing.{WritesPrefix, WritesText}
use Rattle.life_base.specs.declared.cell.TheConstants.{MAX_LEVEL}
use Rattle.life_base.specs.declared.kind.Kind.{Kind}
use Rattle.life_base.specs.declared.kind.Kind.TheVariants as kinds
use Rattle.pattern_sources.specs.Faults.{fault_line, refusal_of, status_of, Reports}
use Rattle.pattern_sources.specs.Sources.{HasNoText, HasText, InputRefuses, RefusesInForm}
use Rattle.file_hints.specs.Refused.{foreign_on}
use Rattle.file_keys.specs.Keys.{without_advice, end_byte_of_name, IsKeyIn, key_line, pieces_of, refused_line, unopened_line}
use Rattle.file_keys.specs.Objects.{object_text}
use Rattle.command_line.specs.Origins.{OpenerGives, IsOriginOf}
use Rattle.file_keys.specs.declared.keys.names.FileName.{FileName}
use Rattle.file_keys.specs.declared.keys.names.FileName.TheVariants as words
use Rattle.file_keys.specs.declared.keys.names.Names.{Names}
use Rattle.file_keys.specs.declared.keys.outputs.Outputs.{Outputs}
use Rattle.file_keys.specs.declared.keys.refusal.OpenedFile.{OpenedFile}
use Rattle.file_keys.specs.declared.keys.runs.KeyRun.{KeyRun}
use Rattle.file_keys.specs.declared.keys.style.Style.{Style}
use Rattle.file_keys.specs.declared.keys.style.Style.TheVariants.{Lines, Zero, Json}
use Rattle.file_keys.specs.declared.keys.outcome.Outcome.{Outcome}
use Rattle.file_keys.specs.declared.keys.outcome.Outcome.TheVariants.{Key, Refused, Unopened}
use Rattle.command_line.specs.declared.origins.Origin.{Origin}
use Rattle.command_line.specs.declared.origins.Origin.TheVariants.{Standard, File}
use Rattle.command_line.specs.declared.plans.KeyForm.{KeyForm}
use Rattle.command_line.specs.declared.plans.KeysPlan.{KeysPlan}

-- a name of a run: a word of the command line, or a name in a list
pub data Name : Type 0 where
  Word : List ℕ → Name
  Listed : List ℕ → Name

abbrev pub bytes_of_name : Name → List ℕ
bytes_of_name (Word word) = word
bytes_of_name (Listed name) = name

-- the names in a list: its pieces that aren't empty
abbrev pub names_in : ℕ → List ℕ → List (List ℕ)
names_in end list = filter (λ (piece : List ℕ). not (is_empty piece)) (pieces_of end list)

-- a file that was processed: its name, and what it came to
pub record Processed : Type 0 where
  pub name : Name
  pub outcome : Outcome

-- the line of a file's key, where it has one
abbrev pub outcome_line : Bool → List ℕ → Outcome → List ℕ
outcome_line zero name (Key key) = key_line zero key name
outcome_line zero name _ = []

-- the style in which a run writes, by its options --json and --zero
abbrev pub style_by : Bool → Bool → Style
style_by json zero = if json then Json else (if zero then Zero else Lines)

-- that of a run of this plan
abbrev pub style_of : KeysPlan → Style
style_of plan = style_by plan.json plan.zero

-- what standard output gets of a file: the line of its key, where it has one, or an object
abbrev pub output_line : Style → List ℕ → Outcome → List ℕ
output_line Lines name outcome = outcome_line false name outcome
output_line Zero name outcome = outcome_line true name outcome
output_line Json name outcome = object_text name outcome

-- why a file has no key
abbrev pub error_line : List ℕ → Outcome → List ℕ
error_line name (Key key) = []
error_line name (Refused refusal) = refused_line name refusal
error_line name (Unopened kind) = unopened_line name kind

-- what standard error gets of a file: why it has no key, unless its object says so
abbrev pub report_line : Style → List ℕ → Outcome → List ℕ
report_line Lines name outcome = error_line name outcome
report_line Zero name outcome = error_line name outcome
report_line Json name outcome = []

-- the status of a file
abbrev pub outcome_status : Outcome → ℕ
outcome_status (Key key) = 0
outcome_status (Refused refusal) = status_of refusal.fault.kind
outcome_status (Unopened kind) = 3

-- the lines of the files on standard output, in their order
abbrev pub output_of : Style → List Processed → List ℕ
output_of style processed = flat_map (λ (t : Processed). output_line style (bytes_of_name t.name) t.outcome) processed

-- and on standard error
abbrev pub reports_of : Style → List Processed → List ℕ
reports_of style processed = flat_map (λ (t : Processed). report_line style (bytes_of_name t.name) t.outcome) processed

-- the same of `duplicates`, which has no style
abbrev pub errors_of : List Processed → List ℕ
errors_of processed = flat_map (λ (t : Processed). error_line (bytes_of_name t.name) t.outcome) processed

-- the greatest status of the files, or 0
abbrev pub greatest_status : List Processed → ℕ
greatest_status [] = 0
greatest_status (t ∷ processed) = max (outcome_status t.outcome) (greatest_status processed)

-- the names of the files, in their order
abbrev pub names_of : List Processed → List Name
names_of processed = map (λ (t : Processed). t.name) processed

-- What is reported on a sink that goes from `old` to `new`. It takes texts before (`tells`) and after (`goes_on`), or not any more: where it fails or
-- takes no bytes a prefix of the text is written, and from then on nothing.
abbrev pub TellsOn : {E : Type 0} → (E → Option (List ℕ)) → (E → ℕ) → (E → Bool) → (tells goes_on : Bool) → (old new : E) → List ℕ → Type 0
TellsOn contents failures stalled true true old new text = Appends (contents old) (contents new) text × (failures new ≡ 0)
TellsOn contents failures stalled true false old new text =
    WritesPrefix (contents old) (contents new) text × ((failures new ≡ 1) ⊎ (stalled new ≡ true))
TellsOn contents failures stalled false false old new text = new ≡ old
TellsOn contents failures stalled false true old new text = ⊥

-- What was written of files: their lines on standard output, or at a refusal a prefix of these; their lines on standard error, as far as that takes
-- them; and the greatest status is kept.
pub record WritesFiles {W E : Type 0} (held : W → Option (List ℕ)) (contents : E → Option (List ℕ)) (failures : E → ℕ) (stalled : E → Bool)
    (out_old out_new : W) (err_old err_new : E) (old new : Outputs) (result : Result (Unit {0}) Kind) (keys faults : List ℕ) (greatest : ℕ) : Type 0 where
  pub written : WritesText (held out_old) (held out_new) keys result
  pub reported : TellsOn contents failures stalled old.tells new.tells err_old err_new faults
  pub status : new.status ≡ max old.status greatest

-- what is reported of a file: what it came to, or that memory was refused for the line of its key
abbrev pub IsReportedAs : Outcome → Outcome → Type 0
IsReportedAs outcome reported = (reported ≡ outcome) ⊎ ((key : List ℕ) × (outcome ≡ Key key) × (reported ≡ Refused (without_advice (fault_of kinds.Memory))))

-- what a name names: of a list always a file, and nothing where it is no UTF-8 text
abbrev pub NamesOrigin : Name → Origin → Type 0
NamesOrigin (Word word) origin = IsOriginOf word origin
NamesOrigin (Listed name) Standard = ⊥
NamesOrigin (Listed name) (File text) = text.now ≡ name

-- a name in a list that is no UTF-8 text can't be opened
abbrev pub IsNoText : Processed → Type 0
IsNoText processed = (bytes : List ℕ) × (processed.name ≡ Listed bytes) × (¬ IsUtf8 bytes) × (processed.outcome ≡ Unopened io.InvalidData)

-- what comes of a source that was opened: its key in the form; or why it has none, with what the opener said of the file
abbrev pub ComesOfSource : KeyForm → Option Foreign → SourceRun → Outcome → Type 0
ComesOfSource form foreign source (Key key) = HasText (IsKeyIn form MAX_LEVEL) source key
ComesOfSource form foreign source (Refused refusal) =
    HasNoText (RefusesInForm form.form) source refusal.fault × (refusal.foreign ≡ foreign_on refusal.fault.kind foreign)
ComesOfSource form foreign source (Unopened kind) = ⊥

-- the file is reported as one of which a read failed
abbrev pub IsReadFault : Outcome → Type 0
IsReadFault (Refused refusal) = refusal.fault.kind ≡ kinds.ReadFault
IsReadFault _ = ⊥

-- This comes of a source that was opened, and it is reported as a read fault exactly where a read of it failed.
pub record IsOutcomeOf (form : KeyForm) (foreign : Option Foreign) (source : SourceRun) (outcome : Outcome) : Type 0 where
  pub comes : ComesOfSource form foreign source outcome
  pub read_fault : IsReadFault outcome ↔ (source.failures ≡ 1)

module _ {F R : Type 0} (step : F → Origin → Result (OpenedFile R) IoError → F → Type 0) (remaining : R → Option (List ℕ)) (reads_failed : R → ℕ)
    (form : KeyForm) where
  -- What comes of what an opener gave. A source that was opened is `end` after it was read. A contract says this for every type R, so that it can
  -- have an `end` that has failed only from a read that failed.
  abbrev pub Comes : Result (OpenedFile R) IoError → Outcome → Type 0
  Comes (Ok opened) outcome = (end : R) × IsOutcomeOf form opened.foreign (source_run remaining reads_failed opened.source end) outcome
  Comes (Err error) (Unopened kind) = kind ≡ error_kind error
  Comes _ _ = ⊥

  -- a file was processed: the opener was called for what the name names, and this came of it; or the name is no text, and it wasn't called
  pub data Takes (before : F) (processed : Processed) (after : F) : Type 0 where
    by_call : (origin : Origin) (given : Result (OpenedFile R) IoError) → NamesOrigin processed.name origin → step before origin given after
        → Comes given processed.outcome → Takes before processed after
    by_name : IsNoText processed → after ≡ before → Takes before processed after

  -- the files were processed one after another, in this order
  abbrev pub TakesAll : F → List Processed → F → Type 0
  TakesAll before processed after = FoldsTo Takes before processed after

-- a run can begin: its opener can be called, and neither output has failed, or has taken no bytes
abbrev pub CanBegin : {F W E : Type 0} → (F → Type 0) → (W → ℕ) → (W → Bool) → (E → ℕ) → (E → Bool) → F → W → E → Type 0
CanBegin is_callable out_failures out_stalled err_failures err_stalled opener out err = is_callable opener × (out_failures out ≡ 0)
    × (out_stalled out ≡ false) × (err_failures err ≡ 0) × (err_stalled err ≡ false)

-- a run can take files: its opener can be called, standard output hasn't failed, nor has standard error as long as it takes reports
pub record CanTake {F : Type 0} (is_callable : F → Type 0) (run : KeyRun F) (out_failures err_failures : ℕ) : Type 0 where
  pub callable : is_callable run.files.opener
  pub works : out_failures ≡ 0
  pub hears : run.outputs.tells ≡ true → err_failures ≡ 0

-- the names of a run: the words, and then those in the list
abbrev pub names_among : Bool → (words : List (List ℕ)) (list : List ℕ) → List Name
names_among zero words list = map Word words ++ map Listed (names_in (end_byte_of_name zero) list)

-- a name of a run, by how the code has it
abbrev pub name_of_file : FileName → Name
name_of_file (words.Word word) = Word word.now
name_of_file (words.Listed name) = Listed name.now

-- the names of a list that are still to be processed, and those of a run
abbrev pub names_in_list : Names → List Name
names_in_list names = map Listed (names_in names.end names.list.now)

abbrev pub names_left : Names → List Name
names_left names = map Word (map (λ word. word.now) (drop names.at names.words.now)) ++ names_in_list names

-- the words of a plan that name files, and the one that names a list
abbrev pub words_of_plan : KeysPlan → List (List ℕ)
words_of_plan plan = map (λ word. word.now) plan.files.items

abbrev pub list_word : KeysPlan → Option (List ℕ)
list_word plan = option_map (λ word. word.now) plan.from

-- Why a list that was opened isn't read: too much came, a read failed, or memory was refused. It is a read fault exactly where a read of it failed.
pub record LacksBytes (source : SourceRun) (kind : Kind) : Type 0 where
  pub why : InputRefuses source (fault_of kind) ⊎ (kind ≡ kinds.Memory)
  pub read_fault : (kind ≡ kinds.ReadFault) ↔ (source.failures ≡ 1)

module _ {F R : Type 0} (step : F → Origin → Result (OpenedFile R) IoError → F → Type 0) (remaining : R → Option (List ℕ)) (reads_failed : R → ℕ) where
  -- the bytes of the list that a word names, of which no read failed; without such a word there are none
  abbrev pub ReadsList : Option (List ℕ) → F → List ℕ → F → Type 0
  ReadsList None before bytes after = (bytes ≡ []) × (after ≡ before)
  ReadsList (Some word) before bytes after = (opened : OpenedFile R) × (end : R) × OpenerGives step word before (Ok opened) after
      × ReadAll (2 ^ 30) (remaining opened.source) (remaining end) bytes × (reads_failed end ≡ 0)

  -- why there is no list: it can't be opened, or it was opened and isn't read
  pub data LacksList (word : List ℕ) (before : F) (kind : Kind) : Type 0 where
    by_opening : (error : IoError) (after : F) → OpenerGives step word before (Err error) after → kind ≡ kinds.ReadFault → LacksList word before kind
    by_reading : (opened : OpenedFile R) (after : F) (end : R) → OpenerGives step word before (Ok opened) after
        → LacksBytes (source_run remaining reads_failed opened.source end) kind → LacksList word before kind

  -- After the list was read files were processed, one after another, in the order of the names, but for the last names, `rest`.
  pub record Took (plan : KeysPlan) (opener : F) (processed : List Processed) (rest : List Name) : Type 0 where
    pub list : List ℕ
    pub ready : F
    pub last : F
    pub read : ReadsList (list_word plan) opener list ready
    pub names : names_among plan.zero (words_of_plan plan) list ≡ names_of processed ++ rest
    pub takes : TakesAll step remaining reads_failed plan.form ready processed last

  -- What a run did with its files and outputs, and the status that it answered.
  pub data KeysRan (plan : KeysPlan) (opener : F) (output error : SinkRun) (flushed : Bool) (status : ℕ) : Type 0 where
    -- All files were processed: their lines were written, or reported, and the greatest status is answered.
    through : (processed : List Processed) → Took plan opener processed [] → Appends output.before output.after (output_of (style_of plan) processed)
        → flushed ≡ true
        → Reports error (reports_of (style_of plan) processed) → status ≡ greatest_status processed → KeysRan plan opener output error flushed status
    -- Standard output failed, or took no bytes: the first files were processed, and a prefix of their lines was written.
    broken_off : (processed : List Processed) (rest : List Name) → Took plan opener processed rest
        → WritesPrefix output.before output.after (output_of (style_of plan) processed) → (output.failures ≡ 1) ⊎ (output.stalled ≡ true)
        → Reports error (reports_of (style_of plan) processed ++ fault_line (refusal_of (fault_of kinds.WriteFault)))
        → status ≡ status_of kinds.WriteFault
        → KeysRan plan opener output error flushed status
    -- There is no list, and no file was processed.
    without_list : (word : List ℕ) (kind : Kind) → list_word plan ≡ Some word → LacksList word opener kind
        → Reports error (fault_line (refusal_of (fault_of kind))) → status ≡ status_of kind → output.after ≡ output.before
        → KeysRan plan opener output error flushed status

module _ {F R W E : Type 0} (step : F → Origin → Result (OpenedFile R) IoError → F → Type 0) (remaining : R → Option (List ℕ)) (reads_failed : R → ℕ)
    (held : W → Option (List ℕ)) (contents : E → Option (List ℕ)) (failures : E → ℕ) (stalled : E → Bool) where
  -- Files were processed, one after another, in the order of these names, but for the last names, `rest`; and this was written of them.
  pub record TakesFiles (form : KeyForm) (names rest : List Name) (opener_old opener_new : F) (out_old out_new : W) (err_old err_new : E)
      (old new : Outputs) (result : Result (Unit {0}) Kind) : Type 0 where
    pub processed : List Processed
    pub split : names ≡ names_of processed ++ rest
    pub takes : TakesAll step remaining reads_failed form opener_old processed opener_new
    pub writes : WritesFiles held contents failures stalled out_old out_new err_old err_new old new result (output_of old.style processed)
        (reports_of old.style processed) (greatest_status processed)

  -- The same of all these names, or at a refusal of the first ones.
  abbrev pub TakesNames : KeyForm → List Name → (opener_old opener_new : F) (out_old out_new : W) (err_old err_new : E) (old new : Outputs)
      → Result (Unit {0}) Kind → Type 0
  TakesNames form names opener_old opener_new out_old out_new err_old err_new old new result =
      (rest : List Name) × OnOk result (rest ≡ []) × TakesFiles form names rest opener_old opener_new out_old out_new err_old err_new old new result
