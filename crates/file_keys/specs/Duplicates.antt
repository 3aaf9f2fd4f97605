-- What a run of the command `duplicates` keeps of its files, and what it does with them. The project's own.
use Rattle.std.specs.Prelude.{◌≡◌, ◌⊎◌, ℕ, Bool, true, max, List, [], ◌∷◌, ◌++◌, map, filter, Option, Some, Result, if◌then◌else◌}
use Rattle.std.specs.Str.{bytes_eq}
use Rattle.std.specs.Io.KnownBytes.{Appends}
use Rattle.std.specs.declared.io.Error.{Error as IoError}
use Rattle.indexmap.specs.IndexMap.{values}
use Rattle.life_base.specs.DeviceRuns.{SinkRun}
use Rattle.life_base.specs.Refusal.{fault_of}
use Rattle.life_base.specs.Writing.{WritesPrefix}
use Rattle.life_base.specs.declared.kind.Kind.{Kind}
use Rattle.life_base.specs.declared.kind.Kind.TheVariants as kinds
use Rattle.pattern_sources.specs.Faults.{fault_line, refusal_of, status_of, Reports}
use Rattle.file_keys.specs.Groups.{distinct_keys, files_with, group_names, groups_text, has_several, keys_in, name_bytes, printed_status}
use Rattle.file_keys.specs.KeyRuns.{error_line, errors_of, greatest_status, LacksList, list_word, Name, names_of, outcome_status, Processed, TakesAll, TellsOn, Took}
use Rattle.file_keys.specs.declared.duplicates.gathered.Gathered.{Gathered}
use Rattle.file_keys.specs.declared.duplicates.groups.Group.{Group}
use Rattle.file_keys.specs.declared.duplicates.groups.Groups.{Groups}
use Rattle.file_keys.specs.declared.duplicates.runs.Gathering.{Gathering}
use Rattle.file_keys.specs.declared.keys.outcome.Outcome.{Outcome}
use Rattle.file_keys.specs.declared.keys.refusal.OpenedFile.{OpenedFile}
use Rattle.file_keys.specs.declared.keys.outcome.Outcome.TheVariants.{Key, Refused, Unopened}
use Rattle.command_line.specs.declared.origins.Origin.{Origin}
use Rattle.command_line.specs.declared.plans.KeyForm.{KeyForm}
use Rattle.command_line.specs.declared.plans.KeysPlan.{KeysPlan}

-- the files with one key: the key, and their names
abbrev pub Class : Type 0
Class = List ℕ × List (List ℕ)

-- the names of a group that a run keeps
abbrev pub kept_names : Group → List (List ℕ)
kept_names group = group.first.now ∷ map (λ name. name.now) group.more.items

-- the files that a run keeps, by their keys
abbrev pub classes_in : Groups → List Class
classes_in groups = map (λ entry. (entry.0, kept_names entry.1)) groups.by_key.entries

-- the same with one more file: it is the last one with its key
abbrev pub with_name : List Class → (key name : List ℕ) → List Class
with_name [] key name = (key, name ∷ []) ∷ []
with_name (class ∷ classes) key name =
    if bytes_eq key class.0 then (class.0, class.1 ++ name ∷ []) ∷ classes else class ∷ with_name classes key name

-- the classes of files
abbrev pub classes_of : List Processed → List Class
classes_of processed = map (λ (key : List ℕ). (key, map name_bytes (files_with key processed))) (distinct_keys (keys_in processed))

-- the same with what came of a file: nothing more if it has no key
abbrev pub with_outcome : List Class → Outcome → (name : List ℕ) → List Class
with_outcome classes (Key key) name = with_name classes key name
with_outcome classes (Refused fault) name = classes
with_outcome classes (Unopened kind) name = classes

-- the names of a run in groups of more than one
abbrev pub kept_groups : Groups → List (List (List ℕ))
kept_groups groups = filter has_several (map kept_names (values groups.by_key))

-- the names that a group adds to those that are printed: before it comes an empty one, unless it is the first
abbrev pub next_names : Bool → List (List ℕ) → List (List ℕ)
next_names is_first group = if is_first then group else [] ∷ group

-- A file was processed: why it has no key was reported, the greatest status is kept, and so is its name if it has a key.
pub record PutsFile {E : Type 0} (contents : E → Option (List ℕ)) (failures : E → ℕ) (stalled : E → Bool) (err_old err_new : E) (old new : Gathered)
    (name : List ℕ) (outcome : Outcome) : Type 0 where
  pub reported : TellsOn contents failures stalled old.tells new.tells err_old err_new (error_line name outcome)
  pub status : new.status ≡ max old.status (outcome_status outcome)
  pub kept : classes_in new.groups ≡ with_outcome (classes_in old.groups) outcome name

-- what is kept of files that were processed, from what was kept of those before
abbrev pub KeepsClasses : (old new : Groups) → List Processed → Type 0
KeepsClasses old new processed = (before : List Processed) → classes_in old ≡ classes_of before → classes_in new ≡ classes_of (before ++ processed)

-- a run can take files: its opener can be called, and standard error hasn't failed as long as it takes reports
pub record CanGather {F : Type 0} (is_callable : F → Type 0) (run : Gathering F) (err_failures : ℕ) : Type 0 where
  pub callable : is_callable run.files.opener
  pub hears : run.gathered.tells ≡ true → err_failures ≡ 0

module _ {F R E : Type 0} (step : F → Origin → Result (OpenedFile R) IoError → F → Type 0) (remaining : R → Option (List ℕ)) (reads_failed : R → ℕ)
    (contents : E → Option (List ℕ)) (failures : E → ℕ) (stalled : E → Bool) where
  -- Files were processed, one after another, in the order of these names, but for the last names, `rest`; and this was reported and kept of them.
  pub record Gathers (form : KeyForm) (names rest : List Name) (opener_old opener_new : F) (err_old err_new : E) (old new : Gathered) : Type 0 where
    pub processed : List Processed
    pub split : names ≡ names_of processed ++ rest
    pub takes : TakesAll step remaining reads_failed form opener_old processed opener_new
    pub reported : TellsOn contents failures stalled old.tells new.tells err_old err_new (errors_of processed)
    pub status : new.status ≡ max old.status (greatest_status processed)
    pub kept : KeepsClasses old.groups new.groups processed

module _ {F R : Type 0} (step : F → Origin → Result (OpenedFile R) IoError → F → Type 0) (remaining : R → Option (List ℕ)) (reads_failed : R → ℕ) where
  -- What a run did with its files and outputs, and the status that it answered. A file for whose key or name memory was refused is one that was
  -- refused with `Memory`. Before all files were processed nothing was written.
  pub data RanDuplicates (plan : KeysPlan) (opener : F) (output error : SinkRun) (flushed : Bool) (status : ℕ) : Type 0 where
    -- All files were processed: the text of their groups was written, and the files without a key were reported.
    through : (processed : List Processed) → Took step remaining reads_failed plan opener processed []
        → Appends output.before output.after (groups_text plan.zero (group_names processed)) → flushed ≡ true
        → Reports error (errors_of processed) → status ≡ printed_status processed → RanDuplicates plan opener output error flushed status
    -- All files were processed, and then standard output failed, or took no bytes: a prefix of the text was written.
    broken_off : (processed : List Processed) → Took step remaining reads_failed plan opener processed []
        → WritesPrefix output.before output.after (groups_text plan.zero (group_names processed)) → (output.failures ≡ 1) ⊎ (output.stalled ≡ true)
        → Reports error (errors_of processed ++ fault_line (refusal_of (fault_of kinds.WriteFault))) → status ≡ status_of kinds.WriteFault
        → RanDuplicates plan opener output error flushed status
    -- There is no list, and no file was processed.
    without_list : (word : List ℕ) (kind : Kind) → list_word plan ≡ Some word → LacksList step remaining reads_failed word opener kind
        → Reports error (fault_line (refusal_of (fault_of kind))) → status ≡ status_of kind → output.after ≡ output.before
        → RanDuplicates plan opener output error flushed status
