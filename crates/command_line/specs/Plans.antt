-- What the words of a command line ask for.
use Rattle.std.specs.Prelude.{◌≡◌, ◌≢◌, ◌⊎◌, ◌<◌, ◌≤◌, ◌+◌, [], ℕ, Bool, true, false, List, Option, Some, None, IsSome, MatchOption, codes, string_bytes, option_map, unwrap_or, map, count_by, Ok}
use Rattle.std.specs.Str.{bytes_eq}
use Rattle.life_base.specs.Numbers.{u64_of}
use Rattle.clap.specs.Words.{Row, Text, Kinds, IsAmong, all_of, first_of, kind_of, one_of}
use Rattle.clap.specs.declared.error.kind.ErrorKind.{ErrorKind}
use Rattle.clap.specs.declared.error.kind.ErrorKind.TheVariants.{ArgumentConflict, InvalidSubcommand, InvalidValue, MissingRequiredArgument, OutOfMemory}
use Rattle.life_base.specs.declared.form.Form.{Form}
use Rattle.life_base.specs.declared.form.Form.TheVariants.{Placed, Moved, Turned, Phases}
use Rattle.command_line.specs.declared.plans.Job.{Job}
use Rattle.command_line.specs.declared.plans.Job.TheVariants as jobs
use Rattle.command_line.specs.declared.plans.Task.{Task}
use Rattle.command_line.specs.declared.plans.Task.TheVariants.{Canon, Convert, Same, Show, ShowPeriod, Step, StepTable, Later, LaterTable}
use Rattle.command_line.specs.declared.plans.Target.{Target}
use Rattle.command_line.specs.declared.plans.Target.TheVariants.{Rle, Mc}
use Rattle.command_line.specs.declared.plans.Plan.{Plan}
use Rattle.command_line.specs.declared.plans.TaskPlan.{TaskPlan}
use Rattle.command_line.specs.declared.plans.KeyForm.{KeyForm}
use Rattle.command_line.specs.declared.plans.KeysPlan.{KeysPlan}
use Rattle.command_line.specs.declared.plans.StreamPlan.{StreamPlan}
use Rattle.command_line.specs.declared.plans.Request.{Request}
use Rattle.command_line.specs.declared.plans.Request.TheVariants.{Work, Keys, Stream, Duplicates}
use Rattle.command_line.specs.declared.plans.Usage.{Usage}
use Rattle.command_line.specs.declared.plans.Usage.TheVariants.{Words, TwoInputs, Memory}

-- the word of a format
abbrev pub target_word : Target → Text
target_word Rle = codes "rle"
target_word Mc = codes "mc"

-- the word of a form
abbrev pub form_word : Form → Text
form_word Placed = codes "placed"
form_word Moved = codes "moved"
form_word Turned = codes "turned"
form_word (Phases most) = codes "phases"

-- the greatest period that is sought for `phases` where none was asked for
abbrev pub default_within : ℕ
default_within = 128

-- the value whose word this is, or none where it is that of no value
abbrev pub IsValueOf : {X : Type 0} → (X → Text) → Text → Option X → Type 0
IsValueOf {X = X} word_of word value = MatchOption value ((x : X) → word ≢ word_of x) (λ x. word ≡ word_of x)

-- the task of a job: the job, on patterns as they lie
abbrev pub task_of : Job → Task
task_of jobs.Show = Show
task_of jobs.Canon = Canon Placed
task_of (jobs.Convert target) = Convert target
task_of jobs.Same = Same Placed
task_of jobs.Step = Step
task_of jobs.StepTable = StepTable

-- the same plan, with the task of its job, and with this for whether an error is explained
abbrev pub task_plan_of : Bool → Plan → TaskPlan
task_plan_of explain p = record { task = task_of p.job; first = p.first; second = p.second; explain = explain }

-- the task is that of no job: it takes patterns in another form than as they lie, or a number of generations or a greatest period
abbrev pub HasNoJob : Task → Type 0
HasNoJob (Canon form) = form ≢ Placed
HasNoJob (Same form) = form ≢ Placed
HasNoJob (ShowPeriod most) = Unit {0}
HasNoJob (Later generations) = Unit {0}
HasNoJob (LaterTable generations) = Unit {0}
HasNoJob _ = ⊥

-- the command of a task
abbrev pub command_of : Task → Text
command_of (Canon form) = codes "canon"
command_of (Convert target) = codes "convert"
command_of (Same form) = codes "same"
command_of Show = codes "show"
command_of (ShowPeriod most) = codes "show"
command_of Step = codes "step"
command_of StepTable = codes "step"
command_of (Later generations) = codes "step"
command_of (LaterTable generations) = codes "step"

-- the task has a second file
abbrev pub HasSecond : Task → Type 0
HasSecond (Same form) = Unit {0}
HasSecond StepTable = Unit {0}
HasSecond (LaterTable generations) = Unit {0}
HasSecond _ = ⊥

-- the only file is FILE
abbrev pub HasOneFile : List Row → TaskPlan → Type 0
HasOneFile rows p = (first_of (codes "FILE") rows ≡ Some (string_bytes p.first)) × (p.second ≡ None)

-- the files are those under these two names
abbrev pub HoldsFiles : Text → Text → List Row → TaskPlan → Type 0
HoldsFiles first second rows p = (first_of first rows ≡ Some (string_bytes p.first))
    × (first_of second rows ≡ option_map string_bytes p.second) × IsSome p.second

-- the greatest period is the number that was asked for under this name, which isn't 0, or there is none where none was
abbrev pub HoldsMost : Text → List Row → Option ℕ → Type 0
HoldsMost id rows most = MatchOption most (first_of id rows ≡ None)
    (λ n. (word : Text) × (first_of id rows ≡ Some word) × (u64_of word ≡ Ok n) × (1 ≤ n))

-- the greatest period of `phases` is the one that was asked for, or where none was, the default one; for every other form, none was asked for
abbrev pub HoldsWithin : List Row → Form → Type 0
HoldsWithin rows (Phases most) = HoldsMost (codes "within") rows (Some most) ⊎ ((first_of (codes "within") rows ≡ None) × (most ≡ default_within))
HoldsWithin rows _ = first_of (codes "within") rows ≡ None

-- the form is not `phases`, or its greatest period is the default one
abbrev pub HasDefaultWithin : Form → Type 0
HasDefaultWithin (Phases most) = most ≡ default_within
HasDefaultWithin _ = Unit {0}

-- the form is the one that was asked for, with its greatest period; or where none was, the default one, and no greatest period was asked for
abbrev pub HoldsForm : Form → List Row → Form → Type 0
HoldsForm default rows form =
    ((first_of (codes "form") rows ≡ None) × (form ≡ default) × (first_of (codes "within") rows ≡ None))
    ⊎ ((first_of (codes "form") rows ≡ Some (form_word form)) × HoldsWithin rows form)

-- the number of generations is the one that was asked for, or there is none where none was
abbrev pub HoldsGenerations : List Row → Option ℕ → Type 0
HoldsGenerations rows generations = MatchOption generations (first_of (codes "generations") rows ≡ None)
    (λ n. (word : Text) × (first_of (codes "generations") rows ≡ Some word) × (u64_of word ≡ Ok n))

-- the greatest period is the one that was asked for, or there is none where none was
abbrev pub HoldsPeriod : List Row → Option ℕ → Type 0
HoldsPeriod rows most = HoldsMost (codes "period") rows most

-- the plan's files and options are those that were found for the task's command
abbrev pub HoldsMatches : Task → List Row → TaskPlan → Type 0
HoldsMatches (Canon form) rows p = HasOneFile rows p × HoldsForm Placed rows form
HoldsMatches (Convert target) rows p = HasOneFile rows p × (first_of (codes "to") rows ≡ Some (target_word target))
HoldsMatches (Same form) rows p = HoldsFiles (codes "A") (codes "B") rows p × HoldsForm Placed rows form
HoldsMatches Show rows p = HasOneFile rows p × HoldsPeriod rows None
HoldsMatches (ShowPeriod most) rows p = HasOneFile rows p × HoldsPeriod rows (Some most)
HoldsMatches Step rows p = HasOneFile rows p × (first_of (codes "table") rows ≡ None) × HoldsGenerations rows None
HoldsMatches StepTable rows p = HoldsFiles (codes "FILE") (codes "table") rows p × HoldsGenerations rows None
HoldsMatches (Later n) rows p = HasOneFile rows p × (first_of (codes "table") rows ≡ None) × HoldsGenerations rows (Some n)
HoldsMatches (LaterTable n) rows p = HoldsFiles (codes "FILE") (codes "table") rows p × HoldsGenerations rows (Some n)

-- all values that were found under this name
abbrev pub values_of : Text → List Row → List Text
values_of id rows = unwrap_or (all_of id rows) []

-- the flag was given, or not
abbrev pub HoldsFlag : Text → List Row → Bool → Type 0
HoldsFlag id rows flag = (one_of id rows ≡ Some (codes "true") → flag ≡ true)
    × (one_of id rows ≡ Some (codes "false") → flag ≡ false) × (one_of id rows ≡ None → flag ≡ false)

-- neither a file nor a list of files was found
abbrev pub LacksFiles : List Row → Type 0
LacksFiles rows = (values_of (codes "FILE") rows ≡ []) × (first_of (codes "from") rows ≡ None)

-- what a key depends on is what was found for it; its form is the default one where none was found
pub record HoldsKeyForm (default : Form) (rows : List Row) (form : KeyForm) : Type 0 where
  pub form_is : HoldsForm default rows form.form
  pub generation : HoldsFlag (codes "ignore-generation") rows form.ignores_generation

-- the plan of a command over any number of files has those and the options that were found for it
pub record HoldsKeys (default : Form) (rows : List Row) (p : KeysPlan) : Type 0 where
  pub form : HoldsKeyForm default rows p.form
  pub files : map (λ name. name.now) p.files.items ≡ values_of (codes "FILE") rows
  pub from : option_map (λ name. name.now) p.from ≡ first_of (codes "from") rows
  pub zero : HoldsFlag (codes "zero") rows p.zero
  pub json : HoldsFlag (codes "json") rows p.json
  pub recursive : HoldsFlag (codes "recursive") rows p.recursive
  pub some : ¬ LacksFiles rows

-- files were found, or a list of them, or -r, which takes the files of folders
abbrev pub HasFiles : List Row → Type 0
HasFiles rows = (¬ LacksFiles rows) ⊎ HoldsFlag (codes "recursive") rows true

-- The plan of `keys` over a stream has the stream and the options that were found for it, and no files were found.
pub record HoldsStream (rows : List Row) (p : StreamPlan) : Type 0 where
  pub form : HoldsKeyForm Placed rows p.form
  pub zero : HoldsFlag (codes "zero") rows p.zero
  pub json : HoldsFlag (codes "json") rows p.json
  pub stream : first_of (codes "stream") rows ≡ Some p.stream.now
  pub none : LacksFiles rows
  pub no_folders : HoldsFlag (codes "recursive") rows false

-- the command is one over any number of files
abbrev pub TakesAnyFiles : Text → Type 0
TakesAnyFiles command = (command ≡ codes "keys") ⊎ (command ≡ codes "duplicates")

-- the matches are those of such a command
abbrev pub AreOfAnyFiles : Option (Text × List Row) → Type 0
AreOfAnyFiles None = ⊥
AreOfAnyFiles (Some matches) = TakesAnyFiles matches.0

-- the plan holds the command, files and options of the matches: a command's name, and what was found for it
abbrev pub IsTaskPlanOf : Option (Text × List Row) → TaskPlan → Type 0
IsTaskPlanOf None p = ⊥
IsTaskPlanOf (Some matches) p =
    (matches.0 ≡ command_of p.task) × HoldsMatches p.task matches.1 p × HoldsFlag (codes "explain") matches.1 p.explain

-- the same of a plan for a job, which doesn't store whether an error is explained: the form of the matches is that of the pattern as it lies
abbrev pub IsPlanOf : Option (Text × List Row) → Plan → Type 0
IsPlanOf matches p = (explain : Bool) × IsTaskPlanOf matches (task_plan_of explain p)

-- the same of this command over any number of files, which takes patterns in the default form where none was asked for
abbrev pub IsKeysPlanOf : Text → Form → Option (Text × List Row) → KeysPlan → Type 0
IsKeysPlanOf command default None p = ⊥
IsKeysPlanOf command default (Some matches) p = (matches.0 ≡ command) × HoldsKeys default matches.1 p

-- no stream was found
abbrev pub LacksStream : Option (Text × List Row) → Type 0
LacksStream None = ⊥
LacksStream (Some matches) = first_of (codes "stream") matches.1 ≡ None

-- the same of `keys` over a stream
abbrev pub IsStreamPlanOf : Option (Text × List Row) → StreamPlan → Type 0
IsStreamPlanOf None p = ⊥
IsStreamPlanOf (Some matches) p = (matches.0 ≡ codes "keys") × HoldsStream matches.1 p

-- the same of what the words ask for: `keys` takes patterns as they lie, and `duplicates` in the moved form
abbrev pub IsRequestOf : Option (Text × List Row) → Request → Type 0
IsRequestOf matches (Work p) = IsTaskPlanOf matches p
IsRequestOf matches (Keys p) = IsKeysPlanOf (codes "keys") Placed matches p × LacksStream matches
IsRequestOf matches (Stream p) = IsStreamPlanOf matches p
IsRequestOf matches (Duplicates p) = IsKeysPlanOf (codes "duplicates") Moved matches p

-- this holds of a plan for a task, if the words ask for one
abbrev pub IfWork : (TaskPlan → Type 0) → Request → Type 0
IfWork Holds (Work p) = Holds p
IfWork Holds (Keys p) = Unit {0}
IfWork Holds (Stream p) = Unit {0}
IfWork Holds (Duplicates p) = Unit {0}

-- something was found under this name
abbrev pub IsFoundAmong : Text → List Row → Type 0
IsFoundAmong id rows = IsSome (first_of id rows)

-- the files and options were found without which the task can't be done
abbrev pub HasRequired : Task → List Row → Type 0
HasRequired (Convert target) rows = IsFoundAmong (codes "FILE") rows × IsFoundAmong (codes "to") rows
HasRequired (Same form) rows = IsFoundAmong (codes "A") rows × IsFoundAmong (codes "B") rows
HasRequired _ rows = IsFoundAmong (codes "FILE") rows

-- the matches are those of a task's command, with what the task wants
abbrev pub AreOfTask : Option (Text × List Row) → Type 0
AreOfTask None = ⊥
AreOfTask (Some matches) = (task : Task) × (matches.0 ≡ command_of task) × HasRequired task matches.1

-- the same, or those of a command over any number of files, in which `clap` wants nothing
abbrev pub AreWhole : Option (Text × List Row) → Type 0
AreWhole matches = AreOfTask matches ⊎ AreOfAnyFiles matches

-- the word after --to is that of no format
abbrev pub HasNoFormat : List Row → Type 0
HasNoFormat rows = (word : Text) × (first_of (codes "to") rows ≡ Some word) × ((t : Target) → word ≢ target_word t)

-- the word under this name isn't a number from 1 to below 2^64: it is no number, or 0
abbrev pub HasNoMost : Text → List Row → Type 0
HasNoMost id rows = (word : Text) × (first_of id rows ≡ Some word) × ((n : ℕ) → u64_of word ≡ Ok n → n ≡ 0)

-- the word after --form is that of no form
abbrev pub HasUnknownForm : List Row → Type 0
HasUnknownForm rows = (word : Text) × (first_of (codes "form") rows ≡ Some word) × ((f : Form) → word ≢ form_word f)

-- --within was found, and --form wasn't, or another word than `phases` was found after it
abbrev pub HasStrayWithin : List Row → Type 0
HasStrayWithin rows = IsFoundAmong (codes "within") rows × (first_of (codes "form") rows ≢ Some (codes "phases"))

-- there is no form: the word after --form is that of no form, the one after --within is no greatest period, or --within was found without `phases`
abbrev pub HasNoForm : List Row → Type 0
HasNoForm rows = HasUnknownForm rows ⊎ (HasNoMost (codes "within") rows ⊎ HasStrayWithin rows)

-- the word after --generations isn't a number below 2^64
abbrev pub HasNoNumber : List Row → Type 0
HasNoNumber rows = (word : Text) × (first_of (codes "generations") rows ≡ Some word) × ((n : ℕ) → u64_of word ≢ Ok n)

-- the word after --period is no greatest period
abbrev pub HasNoPeriod : List Row → Type 0
HasNoPeriod rows = HasNoMost (codes "period") rows

-- the refusal of words of which this holds, as this kind; or where `clap` was out of memory, as an OutOfMemory
abbrev pub RefusesAs : ErrorKind → Type 0 → Usage → Type 0
RefusesAs kind is_such (Words error) = (is_such × (kind_of error ≡ kind)) ⊎ (kind_of error ≡ OutOfMemory)
RefusesAs kind is_such TwoInputs = ⊥
RefusesAs kind is_such Memory = ⊥

-- the same of such a word
abbrev pub RefusesWord : Type 0 → Usage → Type 0
RefusesWord is_such usage = RefusesAs InvalidValue is_such usage

-- why what was found for a command over any number of files has no plan: neither a file nor a list was found, or there is no form
abbrev pub RefusesKeys : List Row → Usage → Type 0
RefusesKeys rows usage = RefusesAs MissingRequiredArgument (LacksFiles rows) usage ⊎ RefusesWord (HasNoForm rows) usage

-- why what was found for `keys` over a stream has no plan: files were found too, or there is no form
abbrev pub RefusesStream : List Row → Usage → Type 0
RefusesStream rows usage = RefusesAs ArgumentConflict (HasFiles rows) usage ⊎ RefusesWord (HasNoForm rows) usage

-- the matches are those of `convert` with a word that is that of no format
abbrev pub NamesNoFormat : Option (Text × List Row) → Type 0
NamesNoFormat None = ⊥
NamesNoFormat (Some matches) = (matches.0 ≡ codes "convert") × HasNoFormat matches.1

-- the matches are those of `canon`, `same`, `keys` or `duplicates` without a form
abbrev pub NamesNoForm : Option (Text × List Row) → Type 0
NamesNoForm None = ⊥
NamesNoForm (Some matches) = ((matches.0 ≡ codes "canon") ⊎ ((matches.0 ≡ codes "same") ⊎ TakesAnyFiles matches.0)) × HasNoForm matches.1

-- the matches are those of `step` with a word that is no number of generations
abbrev pub NamesNoNumber : Option (Text × List Row) → Type 0
NamesNoNumber None = ⊥
NamesNoNumber (Some matches) = (matches.0 ≡ codes "step") × HasNoNumber matches.1

-- the matches are those of `show` with a word that is no greatest period
abbrev pub NamesNoPeriod : Option (Text × List Row) → Type 0
NamesNoPeriod None = ⊥
NamesNoPeriod (Some matches) = (matches.0 ≡ codes "show") × HasNoPeriod matches.1

-- the word after an option is none of its values, or --within is for another form than `phases`
abbrev pub NamesNoValue : Option (Text × List Row) → Type 0
NamesNoValue matches = NamesNoFormat matches ⊎ (NamesNoForm matches ⊎ (NamesNoNumber matches ⊎ NamesNoPeriod matches))

-- the matches are those of `keys`, with neither a file, nor a list of files, nor a stream, or of `duplicates`, with neither a file nor a list
abbrev pub NamesNoFiles : Option (Text × List Row) → Type 0
NamesNoFiles None = ⊥
NamesNoFiles (Some matches) = LacksFiles matches.1
    × (((matches.0 ≡ codes "keys") × (first_of (codes "stream") matches.1 ≡ None)) ⊎ (matches.0 ≡ codes "duplicates"))

-- the matches are those of `keys` with a stream, and with files too
abbrev pub NamesStreamAndFiles : Option (Text × List Row) → Type 0
NamesStreamAndFiles None = ⊥
NamesStreamAndFiles (Some matches) = (matches.0 ≡ codes "keys") × IsFoundAmong (codes "stream") matches.1 × HasFiles matches.1

-- the matches are those of `canon` or `same` with the word of another form than that of a pattern as it lies
abbrev pub NamesOtherForm : Option (Text × List Row) → Type 0
NamesOtherForm None = ⊥
NamesOtherForm (Some matches) = ((matches.0 ≡ codes "canon") ⊎ (matches.0 ≡ codes "same"))
    × ((form : Form) × (form ≢ Placed) × (first_of (codes "form") matches.1 ≡ Some (form_word form)))

-- the matches are those of `step` with a number of generations
abbrev pub NamesGenerations : Option (Text × List Row) → Type 0
NamesGenerations None = ⊥
NamesGenerations (Some matches) = (matches.0 ≡ codes "step") × IsFoundAmong (codes "generations") matches.1

-- the matches are those of `show` with a greatest period
abbrev pub NamesPeriod : Option (Text × List Row) → Type 0
NamesPeriod None = ⊥
NamesPeriod (Some matches) = (matches.0 ≡ codes "show") × IsFoundAmong (codes "period") matches.1

-- how many of the values under this name are standard input
abbrev pub input_count_under : Text → List Row → ℕ
input_count_under id rows = count_by (λ text. bytes_eq text (codes "-")) (values_of id rows)

-- how many of the files are standard input
abbrev pub input_count : List Row → ℕ
input_count rows = input_count_under (codes "FILE") rows + input_count_under (codes "A") rows + input_count_under (codes "B") rows
    + input_count_under (codes "table") rows + input_count_under (codes "from") rows

-- the matches name standard input twice
abbrev pub NamesInputTwice : Option (Text × List Row) → Type 0
NamesInputTwice None = ⊥
NamesInputTwice (Some matches) = 1 < input_count matches.1

-- Why words are refused in which `clap` finds these faults and these matches: since `clap` is out of memory; by the kind of a fault; in words without a
-- fault, since the word after --to is that of no format, the one after --form that of no form, the one after --generations no number or the one after
-- --within or --period no number or 0, since --within is for another form than `phases`, since `keys` or `duplicates` is given neither a file nor a list, and
-- no stream either, since `keys` is given files besides a stream, or since standard input is named twice, which is reported before these. Memory comes only
-- where none of that is so, and the words ask for a task: all that is left to do is to copy the names of its files.
abbrev pub Explains : Kinds → Option (Text × List Row) → Usage → Type 0
Explains faults matches (Words error) = (kind_of error ≡ OutOfMemory)
    ⊎ (IsAmong (kind_of error) faults
    ⊎ ((faults ≡ []) × NamesNoValue matches × ¬ NamesInputTwice matches × (kind_of error ≡ InvalidValue))
    ⊎ ((faults ≡ []) × NamesNoFiles matches × ¬ NamesInputTwice matches × (kind_of error ≡ MissingRequiredArgument))
    ⊎ ((faults ≡ []) × NamesStreamAndFiles matches × ¬ NamesInputTwice matches × (kind_of error ≡ ArgumentConflict)))
Explains faults matches TwoInputs = (faults ≡ []) × NamesInputTwice matches
Explains faults matches Memory = (faults ≡ []) × AreOfTask matches × (¬ NamesNoValue matches) × (¬ NamesInputTwice matches)

-- why words have no plan for a job: the same; or words without a fault that name standard input once at most ask for keys or duplicates, as an
-- InvalidSubcommand, or for another form than that of a pattern as it lies, or for a number of generations or a greatest period, as an InvalidValue
abbrev pub ExplainsPlan : Kinds → Option (Text × List Row) → Usage → Type 0
ExplainsPlan faults matches usage = Explains faults matches usage
    ⊎ ((faults ≡ []) × (¬ NamesInputTwice matches)
    × (RefusesAs InvalidSubcommand (AreOfAnyFiles matches) usage
    ⊎ RefusesWord (NamesOtherForm matches ⊎ (NamesGenerations matches ⊎ NamesPeriod matches)) usage))
