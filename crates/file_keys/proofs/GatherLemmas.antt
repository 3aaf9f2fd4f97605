-- What runs of the command `duplicates` come to and keep, one file after another.
use Rattle.std.proofs.Common.{◌≡◌, ℕ, max, List, [], ◌∷◌, ◌++◌, ◌⊎◌, Bool, true, false, Option, Result, refl, sym, ap, ap₂, ◌∙◌, subst, arith, append_assoc, append-nil}
use Rattle.std.specs.Io.KnownBytes.{Appends}
use Rattle.std.proofs.lemmas.Grind.{flat_map-append}
use Rattle.std.proofs.lemmas.List.{map-append}
use Rattle.std.specs.declared.io.Error.{Error as IoError}
use Rattle.life_base.specs.DeviceRuns.{sink_run}
use Rattle.life_base.specs.Refusal.{fault_of}
use Rattle.life_base.specs.Text.{is_empty}
use Rattle.life_base.specs.Writing.{WritesPrefix}
use Rattle.life_base.specs.declared.kind.Kind.{Kind}
use Rattle.life_base.specs.declared.kind.Kind.TheVariants as kinds
use Rattle.file_keys.specs.Duplicates.{broken_off, classes_in, classes_of, Gathers, kept_groups, PutsFile, RanDuplicates, through, with_outcome}
use Rattle.pattern_sources.specs.Faults.{fault_line, refusal_of, status_of, Reports}
use Rattle.file_keys.specs.Groups.{group_names, groups_text, IsGroupStatus, status_by}
use Rattle.file_keys.specs.KeyRuns.{bytes_of_name, error_line, errors_of, greatest_status, IsReportedAs, list_word, Name, names_among, names_of, outcome_status, ReadsList, Processed, Takes, TakesAll, TellsOn, Took, words_of_plan}
use Rattle.file_keys.specs.Keys.{IsStatus}
use Rattle.file_keys.specs.declared.duplicates.gathered.Gathered.{Gathered}
use Rattle.file_keys.specs.declared.keys.outcome.Outcome.{Outcome}
use Rattle.file_keys.specs.declared.keys.refusal.OpenedFile.{OpenedFile}
use Rattle.file_keys.specs.declared.keys.outcome.Outcome.TheVariants.{Key, Refused, Unopened}
use Rattle.command_line.specs.declared.origins.Origin.{Origin}
use Rattle.command_line.specs.declared.plans.KeyForm.{KeyForm}
use Rattle.command_line.specs.declared.plans.KeysPlan.{KeysPlan}
use Rattle.file_keys.proofs.DuplicateLemmas.{group_status, kept_is, none_is}
use Rattle.file_keys.proofs.GroupLemmas.{classes_more, classes_other}
use Rattle.file_keys.proofs.KeyRunLemmas.{broken_tells, from_none, greatest_is, greatest_then, one_line, takes_then, tells_all, tells_then, three, reported_takes, tells_none}

-- the classes of files with one more, whatever came of it
classes_with : (processed : List Processed) (name : Name) (outcome : Outcome)
    → classes_of (processed ++ record { name = name; outcome = outcome } ∷ []) ≡ with_outcome (classes_of processed) outcome (bytes_of_name name)
classes_with processed name (Key key) = classes_more processed (record { name = name; outcome = Key key }) key refl
classes_with processed name (Refused fault) = classes_other processed (record { name = name; outcome = Refused fault }) refl (λ key. refl)
classes_with processed name (Unopened kind) = classes_other processed (record { name = name; outcome = Unopened kind }) refl (λ key. refl)

module _ {F R E : Type 0} (step : F → Origin → Result (OpenedFile R) IoError → F → Type 0) (remaining : R → Option (List ℕ)) (reads_failed : R → ℕ)
    (contents : E → Option (List ℕ)) (failures : E → ℕ) (stalled : E → Bool) where
  -- no file was processed yet
  pub gathers_none : (form : KeyForm) (names : List Name) (f : F) (e : E) (a : Gathered) → (a.tells ≡ true → failures e ≡ 0)
      → Gathers step remaining reads_failed contents failures stalled form names names f f e e a a
  gathers_none form names f e a hears = record {
    processed = [];
    split = refl;
    takes = refl;
    reported = tells_none contents failures stalled a.tells e hears;
    status = omega arith;
    kept = λ before is. is ∙ ap classes_of (sym (append-nil before));
  }

  -- files, and then further ones
  gathers_more : (form : KeyForm) (names rest last : List Name) (f g h : F) (x y z : E) (a b c : Gathered)
      → Gathers step remaining reads_failed contents failures stalled form names rest f g x y a b
      → Gathers step remaining reads_failed contents failures stalled form rest last g h y z b c
      → Gathers step remaining reads_failed contents failures stalled form names last f h x z a c
  gathers_more form names rest last f g h x y z a b c p q = record {
    processed = p.processed ++ q.processed;
    split = p.split ∙ ap (λ l. names_of p.processed ++ l) q.split ∙ sym (append_assoc (names_of p.processed) (names_of q.processed) last)
        ∙ ap (λ l. l ++ last) (sym (map-append (λ (t : Processed). t.name) p.processed q.processed));
    takes = takes_then (Takes step remaining reads_failed form) f p.processed g q.processed h p.takes q.takes;
    reported = subst (TellsOn contents failures stalled a.tells c.tells x z)
        (sym (flat_map-append (λ (t : Processed). error_line (bytes_of_name t.name) t.outcome) p.processed q.processed))
        (tells_then contents failures stalled a.tells b.tells c.tells x y z (errors_of p.processed) (errors_of q.processed) p.reported q.reported);
    status = three a.status b.status c.status (greatest_status p.processed) (greatest_status q.processed) q.status p.status
        ∙ ap (max a.status) (sym (greatest_then p.processed q.processed));
    kept = λ before is. q.kept (before ++ p.processed) (p.kept before is) ∙ ap classes_of (append_assoc before p.processed q.processed);
  }

  -- one file
  gathers_one : (form : KeyForm) (name : Name) (reported : Outcome) (rest : List Name) (f g : F) (x y : E) (a b : Gathered)
      → Takes step remaining reads_failed form f (record { name = name; outcome = reported }) g
      → PutsFile contents failures stalled x y a b (bytes_of_name name) reported
      → Gathers step remaining reads_failed contents failures stalled form (name ∷ rest) rest f g x y a b
  gathers_one form name reported rest f g x y a b takes puts = record {
    processed = record { name = name; outcome = reported } ∷ [];
    split = refl;
    takes = (g, takes, refl);
    reported = subst (TellsOn contents failures stalled a.tells b.tells x y) (one_line (error_line (bytes_of_name name) reported)) puts.reported;
    status = at b.status a.status (outcome_status reported) puts.status;
    kept = λ before is. puts.kept ∙ ap (λ classes. with_outcome classes reported (bytes_of_name name)) is ∙ sym (classes_with before name reported);
  }
    where
      at : (m n s : ℕ) → m ≡ max n s → m ≡ max n (max s 0)
      at m n s is = omega (arith, is)

  -- files, and then the next one
  pub gathers_next : (form form' : KeyForm) (names rest rest' : List Name) (name : Name) (bytes : List ℕ) (outcome : Outcome) (f g h : F)
      (x y z : E) (a b c : Gathered) → form' ≡ form → rest ≡ name ∷ rest' → bytes ≡ bytes_of_name name
      → Gathers step remaining reads_failed contents failures stalled form names rest f g x y a b
      → Takes step remaining reads_failed form' g (record { name = name; outcome = outcome }) h
      → (reported : Outcome) × IsReportedAs outcome reported × PutsFile contents failures stalled y z b c bytes reported
      → Gathers step remaining reads_failed contents failures stalled form names rest' f h x z a c
  gathers_next form form' names rest rest' name bytes outcome f g h x y z a b c is_form split is before takes (reported, how, puts) =
      let these = reported_takes step remaining reads_failed form g h name outcome reported how
      (subst (λ k. Takes step remaining reads_failed k g (record { name = name; outcome = outcome }) h) is_form takes) in
      gathers_more form names rest rest' f g h x y z a b c before
      (subst (λ l. Gathers step remaining reads_failed contents failures stalled form l rest' g h y z b c) (sym split)
      (gathers_one form name reported rest' g h y z b c these (subst (λ l. PutsFile contents failures stalled y z b c l reported) is puts)))

module _ {F R W E : Type 0} (step : F → Origin → Result (OpenedFile R) IoError → F → Type 0) (remaining : R → Option (List ℕ)) (reads_failed : R → ℕ)
    (held : W → Option (List ℕ)) (w-failures : W → ℕ) (w-stalled : W → Bool)
    (contents : E → Option (List ℕ)) (failures : E → ℕ) (stalled : E → Bool)
    (plan : KeysPlan) (opener ready last : F) (list : List ℕ) (form : KeyForm) (names : List Name) (u v : W) (x y : E) (a b : Gathered)
    (read : ReadsList step remaining reads_failed (list_word plan) opener list ready) (is_form : form ≡ plan.form)
    (same : names ≡ names_among plan.zero (words_of_plan plan) list) (hears : a.tells ≡ true) (fresh : a.status ≡ 0) (new : classes_in a.groups ≡ [])
    (p : Gathers step remaining reads_failed contents failures stalled form names [] ready last x y a b) where
  -- the files that a run took
  took_of : Took step remaining reads_failed plan opener p.processed []
  took_of = record {
    list = list;
    ready = ready;
    last = last;
    read = read;
    names = sym same ∙ p.split;
    takes = subst (λ k. TakesAll step remaining reads_failed k ready p.processed last) is_form p.takes;
  }

  groups_are : kept_groups b.groups ≡ group_names p.processed
  groups_are = kept_is b.groups p.processed (p.kept [] new)

  heard : TellsOn contents failures stalled true b.tells x y (errors_of p.processed)
  heard = subst (λ t. TellsOn contents failures stalled t b.tells x y (errors_of p.processed)) hears p.reported

  greatest : b.status ≡ greatest_status p.processed
  greatest = from_none a.status b.status (greatest_status p.processed) p.status fresh

  -- a run that comes to its end
  pub gathered_through : (flushed : Bool) (status : ℕ) → Appends (held u) (held v) (groups_text plan.zero (kept_groups b.groups)) → flushed ≡ true
      → status ≡ status_by b.status (is_empty (kept_groups b.groups))
      → RanDuplicates step remaining reads_failed plan opener (sink_run held w-failures w-stalled u v) (sink_run contents failures stalled x y) flushed
      status
  gathered_through flushed status written is_flushed is = through p.processed took_of
      (subst (λ groups. Appends (held u) (held v) (groups_text plan.zero groups)) groups_are written) is_flushed
      (tells_all contents failures stalled b.tells x y (errors_of p.processed) heard)
      (is ∙ ap₂ status_by greatest (ap is_empty groups_are ∙ none_is p.processed))

  -- and its status
  pub gathered_status : (status : ℕ) → status ≡ status_by b.status (is_empty (kept_groups b.groups)) → IsGroupStatus status
  gathered_status status is =
      subst IsGroupStatus (sym is) (group_status b.status (is_empty (kept_groups b.groups)) (subst IsStatus (sym greatest) (greatest_is p.processed)))

  -- a run whose output fails
  pub gathered_broken : (z : E) (flushed : Bool) (kind : Kind) (status : ℕ)
      → WritesPrefix (held u) (held v) (groups_text plan.zero (kept_groups b.groups)) → kind ≡ kinds.WriteFault
      → (w-failures v ≡ 1) ⊎ (w-stalled v ≡ true)
      → (b.tells ≡ true → Reports (sink_run contents failures stalled y z) (fault_line (refusal_of (fault_of kind)))) → (b.tells ≡ false → z ≡ y)
      → status ≡ status_of kind
      → RanDuplicates step remaining reads_failed plan opener (sink_run held w-failures w-stalled u v) (sink_run contents failures stalled x z) flushed
      status
  gathered_broken z flushed kind status written is cause reported silent is_status = broken_off p.processed took_of
      (subst (λ groups. WritesPrefix (held u) (held v) (groups_text plan.zero groups)) groups_are written) cause
      (subst (λ k. Reports (sink_run contents failures stalled x z) (errors_of p.processed ++ fault_line (refusal_of (fault_of k)))) is
      (broken_tells contents failures stalled b.tells x y z (errors_of p.processed) _ heard reported silent))
      (is_status ∙ ap status_of is)
