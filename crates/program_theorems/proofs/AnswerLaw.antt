-- What a task writes is what the bytes of its files ask for in the words of the claims.
use Rattle.std.proofs.Common.{◌≡◌, ℕ, zero, suc, ◌^◌, List, [], ◌++◌, refl, sym, subst, ◌⊎◌, inl, inr, ◌↔◌, codes, Option, Some, None, Ok, IsSome, IfSome, IsSomeAnd, option_and_then}
use Rattle.std.specs.Io.KnownBytes.{Appends}
use Rattle.life_base.specs.DeviceRuns.{SourceRun}
use Rattle.life_base.specs.Inputs.{ReadAll}
use Rattle.life_base.specs.Text.{lines_of}
use Rattle.life_mc.specs.Reading.{IsMacrocell}
use Rattle.life_pattern.specs.Files.{Accepted}
use Rattle.life_writer.specs.Least.{IsLeastText}
use Rattle.life_writer.specs.Listing.{canon_text, canonical_file}
use Rattle.life_writer.specs.Texts.{IsCanonical, IsShownText as LayerShown}
use Rattle.pattern_forms.specs.InForm.{OneFileLacksForm}
use Rattle.pattern_sources.specs.Forms.{IsTextIn as LayerTextIn}
use Rattle.life_cli.specs.Jobs.{Compares, IsSteppedTimes, TaskWrites, HasAnswer}
use Rattle.life_table.specs.declared.table.Table.{Table as LayerTable}
use Rattle.command_line.specs.Plans.{HasSecond as LayerSecond}
use Rattle.life_base.specs.declared.form.Form.{Form}
use Rattle.life_base.specs.declared.form.Form.TheVariants.{Placed, Moved, Turned, Phases}
use Rattle.command_line.specs.declared.plans.Task.{Task}
use Rattle.command_line.specs.declared.plans.Task.TheVariants as tasks
use Rattle.command_line.specs.declared.plans.Target.TheVariants.{Rle, Mc}
use Rattle.claims.specs.Counting.{claimed_node_lines, IsCanonicalText}
use Rattle.claims.specs.Files.{pattern_of, SayOnePattern}
use Rattle.claims.specs.Pattern.{Pattern}
use Rattle.claims.specs.Shown.{IsClaimedShown}
use Rattle.claims.specs.Table.{Table}
use Rattle.theorems.proofs.CellsLaw.{few_cells}
use Rattle.theorems.proofs.CanonicalLaw.{canonical_so}
use Rattle.theorems.proofs.FileLaw.{files_agree, texts_are_exact, same_to, rle_format}
use Rattle.theorems.proofs.RefusalLaw.{accepted_is_ok}
use Rattle.theorems.proofs.ShownLaw.{shown_is}
use Rattle.theorems.proofs.TextLaw.{rle_of_file}
use Rattle.theorems.proofs.StreamLaw.{all_read, appended, at_end}
use Rattle.theorems.proofs.StepLaw.{stepped_is}
use Rattle.theorems.proofs.StepBy.{stepped_text}
use Rattle.theorems.proofs.StepBy as by_table
use Rattle.claims.specs.Tables.{IsTable}
use Rattle.generation_theorems.proofs.FurtherLaw.{later-is}
use Rattle.program_theorems.proofs.PeriodLaw.{shown-with_period}
use Rattle.program_theorems.proofs.PhaseLaw.{either-from}
use Rattle.program_theorems.specs.Jobs.{AreClaimedSteps, HasClaimedSecond, WritesCanonical, IsOutcome, IsShortFile}
use Rattle.program_theorems.specs.Forms.{SameIn, IsClaimedTextIn, OneFileLacksClaimedForm}
use Rattle.program_theorems.specs.Layers.{LayersAgree}
use Rattle.program_theorems.proofs.FormTexts.{moved_exact, phases_exact, turned_exact}
use Rattle.program_theorems.proofs.FormLaw.{moved_text_is, own_moved, own_phases, own_text_of, own_turned, phases_text_is, related_from, same_in_from, same_in_to, say_related, texts_tell_in, turned_text_is}

-- ---- second files

to_layer : (task : Task) → HasClaimedSecond task → LayerSecond task
to_layer (tasks.Same form) h = tt
to_layer tasks.StepTable h = tt
to_layer (tasks.LaterTable n) h = tt
to_layer _ h = h

from_layer : (task : Task) → LayerSecond task → HasClaimedSecond task
from_layer (tasks.Same form) h = tt
from_layer tasks.StepTable h = tt
from_layer (tasks.LaterTable n) h = tt
from_layer _ h = h

-- a second file is given where the task has one
pub given_second : {P : Type 0} (task : Task) → P ↔ HasClaimedSecond task → P ↔ LayerSecond task
given_second task given = (λ is. to_layer task (given.0 is), λ has. given.1 (from_layer task has))

pub second_before : {B : Type 0} (remaining : B → Option (List ℕ)) (old : Option B) (other : List ℕ) → IfSome old (λ b. remaining b ≡ Some other) → IsSome old
    → option_and_then remaining old ≡ Some other
second_before remaining None other h is = cc
second_before remaining (Some b) other h is = h

pub second_after : {B : Type 0} (remaining : B → Option (List ℕ)) (new : Option B) → option_and_then remaining new ≡ Some []
    → IsSomeAnd new (λ b. remaining b ≡ Some [])
second_after remaining None e = cc
second_after remaining (Some b) e = e

-- ---- texts

least_text : LayersAgree → (bytes text : List ℕ) → IsCanonical 62 bytes text → IsLeastText 62 bytes text
least_text laws bytes text c =
    let u = c.universe in
    let h = laws.on_plane bytes u c.reads in
    let file = laws.files u h in
    record {
      universe = u;
      reads = c.reads;
      file = canonical_file 62 u;
      says = subst (λ (t : List ℕ). IsMacrocell 62 t (canonical_file 62 u)) (sym c.is) file.0;
      same = file.1;
      least = laws.least u h;
    }

canonical : LayersAgree → (bytes text : List ℕ) → IsCanonical 62 bytes text → IsCanonicalText bytes text
canonical laws bytes text c = canonical_so laws.on_plane laws.files laws.keep bytes text c (least_text laws bytes text c)

compares : LayersAgree → (form : Form) (a b : List ℕ) (status : ℕ) (text : List ℕ) → Accepted 62 a → Accepted 62 b → Compares form a b status text
    → ((status ≡ 0) × SameIn form a b × (text ≡ codes "same\n")) ⊎ ((status ≡ 1) × (SameIn form a b → ⊥) × (text ≡ codes "different\n"))
compares laws form a b status text p q (inl h) = inl (h.0, same_in_to laws.on_plane form a b h.1, h.2)
compares laws form a b status text p q (inr h) = inr (h.0, (λ s. h.1 (same_in_from laws.on_plane form a b p.0 q.0 p.1 q.1 s)), h.2)

text_in : LayersAgree → (form : Form) (file text : List ℕ) → LayerTextIn form 62 file text → IsClaimedTextIn form file text
text_in laws Placed file text h = canonical laws file text h
text_in laws Moved file text h =
    let is = moved_text_is laws file text h in
    let p = files_agree file h.universe h.reads in
    (is, canonical laws text text (own_moved laws file text h), (p.pattern, p.is, moved_exact laws file text h))
text_in laws Turned file text h =
    let is = turned_text_is laws file text h in
    let p = files_agree file h.universe h.reads in
    (is, canonical laws text text (own_turned laws file text h), (p.pattern, p.is, turned_exact laws file text h))
text_in laws (Phases most) file text h =
    let is = phases_text_is laws file text most h in
    let p = files_agree file h.universe h.reads in
    (is, canonical laws text text (own_phases laws file text most h), (p.pattern, p.is, phases_exact laws file text most h))

-- two files that are compared have no reason against it
no_lack : LayersAgree → (form : Form) (a b : List ℕ) → Accepted 62 a → Accepted 62 b → ¬ (OneFileLacksForm form 62 (2 ^ 21) a b)
    → OneFileLacksClaimedForm form a b → ⊥
no_lack laws Placed a b p q none s = elim s.related [ inl h ↦ h | inr h ↦ h ]
no_lack laws Moved a b p q none s = elim s.related [ inl h ↦ h | inr h ↦ h ]
no_lack laws Turned a b p q none s = elim s.related [ inl h ↦ h | inr h ↦ h ]
no_lack laws (Phases most) a b p q none s =
    none (say_related p.0 q.0 p.1 q.1 (related_from laws.on_plane (either-from most) a b p.0 q.0 p.1 q.1 s))

-- many steps by a table
pub times : LayersAgree → (layer : LayerTable) (table : Table) → IsTable layer table → (n : ℕ) (bytes text : List ℕ) → IsSteppedTimes layer n bytes text
    → AreClaimedSteps table n bytes text
times laws layer table is zero bytes text h = canonical laws bytes text h
times laws layer table is (suc n) bytes text h =
    (h.0, times laws layer table is n bytes h.0 h.1, by_table.stepped_is laws.decide layer table is laws.on_plane h.0 text h.2)

answers : LayersAgree → (task : Task) (file second : List ℕ) (status : ℕ) (text : List ℕ) → TaskWrites task file second status text
    → IsOutcome task file second status text
answers laws (tasks.Canon form) file second status text h = (h.0, text_in laws form file text h.1)
answers laws (tasks.Convert Rle) file second status text h =
    (h.0, same_to file text (laws.rle (2 ^ 20) file text h.1), rle_format file text h.1, few_cells file text h.1, rle_of_file file text h.1)
answers laws (tasks.Convert Mc) file second status text h = (h.0, canonical laws file text h.1)
answers laws (tasks.Same form) file second status text h = (
  accepted_is_ok file h.0,
  accepted_is_ok second h.1,
  no_lack laws form file second h.0 h.1 h.2,
  compares laws form file second status text h.0 h.1 h.3,
)
answers laws tasks.Show file second status text h =
    let reported = canon_text 62 h.1.universe in
    let c : IsCanonical 62 file reported = record { universe = h.1.universe; reads = h.1.reads; is = refl } in
    let s = shown_is laws.on_plane laws.unique laws.files file text reported h.1 c in
    (h.0, (s.0, s.1, (reported, canonical laws file reported c, s.2)))
answers laws (tasks.ShowPeriod most) file second status text h =
    let u = h.1.shown.universe in
    let reported = canon_text 62 u in
    let c : IsCanonical 62 file reported = record { universe = u; reads = h.1.shown.reads; is = refl } in
    let s = shown-with_period laws.on_plane laws.unique laws.files most file text reported h.1 c in
    (h.0, (s.0, s.1, (reported, canonical laws file reported c, s.2)))
answers laws tasks.Step file second status text h = (h.0, stepped_is laws.on_plane file text h.1)
answers laws tasks.StepTable file second status text h =
    (h.0, stepped_text laws.on_plane laws.read laws.decide second file text h.1.0 ((laws.grammars (lines_of second) h.1.0).0 h.1.1) h.1.2)
answers laws (tasks.Later n) file second status text h = (h.0, later-is laws.on_plane n file text h.1)
answers laws (tasks.LaterTable n) file second status text h =
    let found = (laws.read second).0 h.1.0 ((laws.grammars (lines_of second) h.1.0).0 h.1.1) in
    (h.0, (found.0, found.1, times laws h.1.0 found.0 found.2 n file text h.1.2))

-- a task without a second file asks for nothing of one
second_free : (task : Task) (file a b : List ℕ) (status : ℕ) (text : List ℕ) → (HasClaimedSecond task → a ≡ b) → IsOutcome task file a status text
    → IsOutcome task file b status text
second_free (tasks.Canon form) file a b status text e h = h
second_free (tasks.Convert Rle) file a b status text e h = h
second_free (tasks.Convert Mc) file a b status text e h = h
second_free (tasks.Same form) file a b status text e h = subst (λ (s : List ℕ). IsOutcome (tasks.Same form) file s status text) (e tt) h
second_free tasks.Show file a b status text e h = h
second_free (tasks.ShowPeriod most) file a b status text e h = h
second_free tasks.Step file a b status text e h = h
second_free tasks.StepTable file a b status text e h = subst (λ (s : List ℕ). IsOutcome tasks.StepTable file s status text) (e tt) h
second_free (tasks.Later n) file a b status text e h = h
second_free (tasks.LaterTable n) file a b status text e h = subst (λ (s : List ℕ). IsOutcome (tasks.LaterTable n) file s status text) (e tt) h

module _ (laws : LayersAgree) (task : Task) (first second : SourceRun) (status : ℕ) (text : List ℕ) (h : HasAnswer task first second status text) where
  -- what was made of the files is what their bytes ask for
  pub answered : (file other : List ℕ) → first.before ≡ Some file → (HasClaimedSecond task → second.before ≡ Some other) → IsOutcome task file other status text
  answered file other e f =
      let one = all_read (2 ^ 30) first.before first.after file h.first_bytes h.first_read e in
      let given = answers laws task h.first_bytes h.second_bytes status text h.writes in
      second_free task file h.second_bytes other status text
      (λ has. all_read (2 ^ 30) second.before second.after other h.second_bytes (h.second_read (to_layer task has)) (f has))
      (subst (λ (b : List ℕ). IsOutcome task b h.second_bytes status text) one given)

ended : (source : SourceRun) (bytes read : List ℕ) → ReadAll (2 ^ 30) source.before source.after read → source.before ≡ Some bytes
    → (source.after ≡ Some []) × IsShortFile bytes
ended source bytes read r e = (
  at_end source.before source.after bytes read r.consumed r.ended e,
  subst IsShortFile (all_read (2 ^ 30) source.before source.after bytes read r e) r.within,
)

-- each file was read to its end
pub first_ended : (task : Task) (first second : SourceRun) (status : ℕ) (text : List ℕ) → HasAnswer task first second status text → (file : List ℕ)
    → first.before ≡ Some file → (first.after ≡ Some []) × IsShortFile file
first_ended task first second status text h file e = ended first file h.first_bytes h.first_read e

pub second_ended : (task : Task) (first second : SourceRun) (status : ℕ) (text : List ℕ) → HasAnswer task first second status text → (other : List ℕ)
    → HasClaimedSecond task → second.before ≡ Some other → (second.after ≡ Some []) × IsShortFile other
second_ended task first second status text h other has e = ended second other h.second_bytes (h.second_read (to_layer task has)) e

-- ---- the texts of two runs

-- what two runs wrote after what their outputs held
pub two_written : {R : List ℕ → List ℕ → Type 0} (old new other_old other_new : Option (List ℕ)) (held kept text other : List ℕ) → Appends old new text
    → Appends other_old other_new other → old ≡ Some held → other_old ≡ Some kept → R text other
    → (text : List ℕ) × (other : List ℕ) × (new ≡ Some (held ++ text)) × (other_new ≡ Some (kept ++ other)) × R text other
two_written old new other_old other_new held kept text other one two e f related =
    (text, other, appended old new held text one e, appended other_old other_new kept other two f, related)

-- a canonical text is its own canonical text
own_canonical : LayersAgree → (bytes text : List ℕ) → IsCanonical 62 bytes text → IsCanonical 62 text text
own_canonical laws bytes text c = own_text_of laws c.universe text (laws.on_plane bytes c.universe c.reads) c.is

pub own_times : LayersAgree → (layer : LayerTable) (n : ℕ) (bytes text : List ℕ) → IsSteppedTimes layer n bytes text → IsCanonical 62 text text
own_times laws layer zero bytes text h = own_canonical laws bytes text h
own_times laws layer (suc n) bytes text h = let t = h.2.3 in record { universe = t.universe; reads = t.reads; is = t.canonical }

own_text : LayersAgree → (task : Task) (file second : List ℕ) (status : ℕ) (text : List ℕ) → WritesCanonical task → TaskWrites task file second status text
    → IsCanonical 62 text text
own_text laws (tasks.Canon Placed) file second status text w h = own_canonical laws file text h.1
own_text laws (tasks.Canon Moved) file second status text w h = own_moved laws file text h.1
own_text laws (tasks.Canon Turned) file second status text w h = own_turned laws file text h.1
own_text laws (tasks.Canon (Phases most)) file second status text w h = own_phases laws file text most h.1
own_text laws (tasks.Convert Rle) file second status text w h = absurd w
own_text laws (tasks.Convert Mc) file second status text w h = own_canonical laws file text h.1
own_text laws (tasks.Same form) file second status text w h = absurd w
own_text laws tasks.Show file second status text w h = absurd w
own_text laws (tasks.ShowPeriod most) file second status text w h = absurd w
own_text laws tasks.Step file second status text w h = let t = h.1.3 in record { universe = t.universe; reads = t.reads; is = t.canonical }
own_text laws tasks.StepTable file second status text w h = let t = h.1.2.3 in record { universe = t.universe; reads = t.reads; is = t.canonical }
own_text laws (tasks.Later n) file second status text w h = let t = h.1.3 in record { universe = t.universe; reads = t.reads; is = t.canonical }
own_text laws (tasks.LaterTable n) file second status text w h = own_times laws h.1.0 n file text h.1.2

pub equal_outputs : LayersAgree → (task other_task : Task) (first second other_first other_second : SourceRun) (status other_status : ℕ) (text other : List ℕ)
    → HasAnswer task first second status text → HasAnswer other_task other_first other_second other_status other
    → WritesCanonical task → WritesCanonical other_task → (text ≡ other) ↔ SayOnePattern text other
equal_outputs laws task other_task first second other_first other_second status other_status text other h k w v =
    texts_are_exact laws.tell laws.on_plane text other text other (own_text laws task h.first_bytes h.second_bytes status text w h.writes)
    (own_text laws other_task k.first_bytes k.second_bytes other_status other v k.writes)

-- what `canon` writes of two files in one form
pub form_outputs : LayersAgree → (form : Form) (task other_task : Task) (first second other_first other_second : SourceRun) (status other_status : ℕ)
    (text other file other_file : List ℕ) → HasAnswer task first second status text → HasAnswer other_task other_first other_second other_status other
    → task ≡ tasks.Canon form → other_task ≡ tasks.Canon form → first.before ≡ Some file → other_first.before ≡ Some other_file
    → (text ≡ other) ↔ SameIn form file other_file
form_outputs laws form task other_task first second other_first other_second status other_status text other file other_file h k is other_is e f =
    texts_tell_in laws form file other_file text other
    (subst (λ (b : List ℕ). LayerTextIn form 62 b text) (all_read (2 ^ 30) first.before first.after file h.first_bytes h.first_read e) one.1)
    (subst (λ (b : List ℕ). LayerTextIn form 62 b other)
    (all_read (2 ^ 30) other_first.before other_first.after other_file k.first_bytes k.first_read f) two.1)
  where
    one : TaskWrites (tasks.Canon form) h.first_bytes h.second_bytes status text
    one = subst (λ (j : Task). TaskWrites j h.first_bytes h.second_bytes status text) is h.writes

    two : TaskWrites (tasks.Canon form) k.first_bytes k.second_bytes other_status other
    two = subst (λ (j : Task). TaskWrites j k.first_bytes k.second_bytes other_status other) other_is k.writes

-- what `show` and `canon` write of the same bytes
pub shown_outputs : LayersAgree → (task other_task : Task) (first second other_first other_second : SourceRun) (status other_status : ℕ)
    (text lines file : List ℕ)
    → HasAnswer task first second status text → HasAnswer other_task other_first other_second other_status lines → task ≡ tasks.Canon Placed
    → other_task ≡ tasks.Show
    → first.before ≡ Some file → other_first.before ≡ Some file
    → (pattern : Pattern) × (pattern_of file ≡ Ok pattern) × IsClaimedShown pattern (claimed_node_lines text) lines
shown_outputs laws task other_task first second other_first other_second status other_status text lines file h k is other_is e f =
    shown_is laws.on_plane laws.unique laws.files file lines text
    (subst (λ (b : List ℕ). LayerShown 62 b lines) (all_read (2 ^ 30) other_first.before other_first.after file k.first_bytes k.first_read f) shown.1)
    (subst (λ (b : List ℕ). IsCanonical 62 b text) (all_read (2 ^ 30) first.before first.after file h.first_bytes h.first_read e) canonical.1)
  where
    canonical : TaskWrites (tasks.Canon Placed) h.first_bytes h.second_bytes status text
    canonical = subst (λ (j : Task). TaskWrites j h.first_bytes h.second_bytes status text) is h.writes

    shown : TaskWrites tasks.Show k.first_bytes k.second_bytes other_status lines
    shown = subst (λ (j : Task). TaskWrites j k.first_bytes k.second_bytes other_status lines) other_is k.writes

-- what a task for the canonical text of a file writes is that of the file's bytes
pub written_canonical : (task : Task) (first second : SourceRun) (status : ℕ) (text file : List ℕ) → HasAnswer task first second status text
    → first.before ≡ Some file → (task ≡ tasks.Canon Placed) ⊎ (task ≡ tasks.Convert Mc) → IsCanonical 62 file text
written_canonical task first second status text file h e is =
    subst (λ (b : List ℕ). IsCanonical 62 b text) (all_read (2 ^ 30) first.before first.after file h.first_bytes h.first_read e) (of_job is)
  where
    of_job : (task ≡ tasks.Canon Placed) ⊎ (task ≡ tasks.Convert Mc) → IsCanonical 62 h.first_bytes text
    of_job (inl canon) = (subst (λ (j : Task). TaskWrites j h.first_bytes h.second_bytes status text) canon h.writes).1
    of_job (inr convert) = (subst (λ (j : Task). TaskWrites j h.first_bytes h.second_bytes status text) convert h.writes).1
