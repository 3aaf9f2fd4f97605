-- What runs of the command `keys` come to and write, one after another.
use Rattle.std.proofs.Common.{None, OnErr, IsTrue, ◌↔◌, ◌≤◌, zero, suc, Bor, ◌+◌, length, ◌≡◌, ℕ, max, List, [], ◌∷◌, ◌++◌, ◌⊎◌, inl, inr, Bool, true, false, map, not, Option, Result, Ok, Err, ◌^◌, IfOk, IfErr, OnOk, Some, refl, sym, ap, ◌∙◌, subst, arith, append_assoc, append-nil, take_all}
use Rattle.std.specs.List.{FoldsTo}
use Rattle.std.specs.Io.KnownBytes.{Appends, Keeps}
use Rattle.std.proofs.KnownBytes.{Appends-nil, Appends-trans}
use Rattle.std.proofs.lemmas.Grind.{flat_map-append}
use Rattle.std.proofs.lemmas.List.{map-append}
use Rattle.std.specs.declared.io.Error.{Error as IoError}
use Rattle.std.specs.declared.io.ErrorKind.TheVariants as io
use Rattle.file_hints.specs.declared.foreign.Foreign.{Foreign}
use Rattle.life_base.specs.DeviceRuns.{sink_run, source_run, SourceRun}
use Rattle.life_base.specs.Inputs.{CameBeyond, ReadAll}
use Rattle.life_base.specs.Refusal.{fault_of}
use Rattle.life_base.specs.declared.kind.Kind.TheVariants as kinds
use Rattle.life_base.specs.Writing.{WritesPrefix, WritesText}
use Rattle.life_base.specs.declared.cell.TheConstants.{MAX_LEVEL}
use Rattle.life_base.specs.declared.kind.Kind.{Kind}
use Rattle.life_base.proofs.WritingLemmas.{prefix-after, prefix-grows}
use Rattle.pattern_sources.specs.Faults.{fault_line, refusal_of, status_of, Reports}
use Rattle.life_pattern.specs.Laws.{RefusalsHaveKinds}
use Rattle.pattern_sources.specs.Sources.{by_length, by_source, by_want, HasNoText, HasText, InputRefuses, RefusesInForm}
use Rattle.file_keys.specs.KeyRuns.{broken_off, bytes_of_name, by_call, by_name, by_reading, Comes, greatest_status, IsOutcomeOf, IsReportedAs, LacksBytes, LacksList, list_word, Name, names_among, names_of, outcome_status, output_line, output_of, KeysRan, ReadsList, report_line, reports_of, style_of, Processed, Takes, TakesAll, TakesFiles, TellsOn, through, Took, words_of_plan, WritesFiles}
use Rattle.command_line.specs.Origins.{OpenerGives}
use Rattle.command_line.specs.declared.origins.Origin.{Origin}
use Rattle.command_line.specs.declared.plans.KeyForm.{KeyForm}
use Rattle.command_line.specs.declared.plans.KeysPlan.{KeysPlan}
use Rattle.file_hints.specs.Refused.{foreign_on}
use Rattle.file_keys.specs.Keys.{IsKeyIn, IsStatus}
use Rattle.file_keys.specs.declared.keys.outcome.Outcome.{Outcome}
use Rattle.file_keys.specs.declared.keys.refusal.OpenedFile.{OpenedFile}
use Rattle.file_keys.specs.declared.keys.refusal.FileRefusal.{FileRefusal}
use Rattle.file_keys.specs.declared.keys.outcome.Outcome.TheVariants.{Key, Refused, Unopened}
use Rattle.file_keys.specs.declared.keys.outputs.Outputs.{Outputs}
use Rattle.file_keys.specs.declared.keys.style.Style.{Style}
use Rattle.file_keys.proofs.KeyLemmas.{kind_status, read_failed}
use Rattle.file_keys.proofs.KeyLines.{then_text}

pub greatest_then : (xs ys : List Processed) → greatest_status (xs ++ ys) ≡ max (greatest_status xs) (greatest_status ys)
greatest_then [] ys = omega arith
greatest_then (t ∷ xs) ys = let rest = greatest_then xs ys in omega (arith, rest)

-- a greatest status that is kept, and then a further one
pub three : (a b c s t : ℕ) → c ≡ max b t → b ≡ max a s → c ≡ max a (max s t)
three a b c s t p q = omega (arith, p, q)

pub appends_kept : (a b c : Option (List ℕ)) (xs : List ℕ) → Appends a b xs → Keeps b c → Appends a c xs
appends_kept None b c xs p q = tt
appends_kept (Some x) None c xs p q = absurd p
appends_kept (Some x) (Some y) None xs p q = absurd q
appends_kept (Some x) (Some y) (Some z) xs p q = q ∙ p

-- texts that are reported one after another
pub tells_then : {E : Type 0} (contents : E → Option (List ℕ)) (failures : E → ℕ) (stalled : E → Bool) (a b c : Bool) (x y z : E) (s t : List ℕ)
    → TellsOn contents failures stalled a b x y s → TellsOn contents failures stalled b c y z t → TellsOn contents failures stalled a c x z (s ++ t)
tells_then contents failures stalled true true true x y z s t p q = (Appends-trans _ _ _ s t p.0 q.0, q.1)
tells_then contents failures stalled true true false x y z s t p q = (prefix-after _ _ _ s t p.0 q.0, q.1)
tells_then contents failures stalled true false true x y z s t p q = absurd q
tells_then contents failures stalled true false false x y z s t p q =
    subst (λ last. WritesPrefix (contents x) (contents last) (s ++ t) × ((failures last ≡ 1) ⊎ (stalled last ≡ true))) (sym q) (prefix-grows _ _ s t p.0, p.1)
tells_then contents failures stalled false true c x y z s t p q = absurd p
tells_then contents failures stalled false false true x y z s t p q = absurd q
tells_then contents failures stalled false false false x y z s t p q = q ∙ p

-- no text is reported
pub tells_none : {E : Type 0} (contents : E → Option (List ℕ)) (failures : E → ℕ) (stalled : E → Bool) (b : Bool) (err : E)
    → (b ≡ true → failures err ≡ 0) → TellsOn contents failures stalled b b err err []
tells_none contents failures stalled true err hears = (Appends-nil (contents err), hears refl)
tells_none contents failures stalled false err hears = refl

-- a sink that goes on taking texts hasn't failed
pub hears_on : {E : Type 0} (contents : E → Option (List ℕ)) (failures : E → ℕ) (stalled : E → Bool) (a b : Bool) (x y : E) (s : List ℕ)
    → TellsOn contents failures stalled a b x y s → b ≡ true → failures y ≡ 0
hears_on contents failures stalled true true x y s p is = p.1
hears_on contents failures stalled true false x y s p is = absurd cc
hears_on contents failures stalled false true x y s p is = absurd p
hears_on contents failures stalled false false x y s p is = absurd cc

-- all that a run tells
pub tells_all : {E : Type 0} (contents : E → Option (List ℕ)) (failures : E → ℕ) (stalled : E → Bool) (b : Bool) (x y : E) (s : List ℕ)
    → TellsOn contents failures stalled true b x y s → Reports (sink_run contents failures stalled x y) s
tells_all contents failures stalled true x y s p = inl p.0
tells_all contents failures stalled false x y s p = inr p

module _ {W E : Type 0} (held : W → Option (List ℕ)) (contents : E → Option (List ℕ)) (failures : E → ℕ) (stalled : E → Bool) where
  -- nothing was written yet
  pub writes_none : (out : W) (err : E) (outputs : Outputs) → (outputs.tells ≡ true → failures err ≡ 0)
      → WritesFiles held contents failures stalled out out err err outputs outputs (Ok tt) [] [] 0
  writes_none out err outputs hears =
      record { written = Appends-nil (held out); reported = tells_none contents failures stalled outputs.tells err hears; status = omega arith }

  pub writes_then : (u v w : W) (x y z : E) (a b c : Outputs) (result : Result (Unit {0}) Kind) (s s' t t' : List ℕ) (m n : ℕ)
      → WritesFiles held contents failures stalled u v x y a b (Ok tt) s t m → WritesFiles held contents failures stalled v w y z b c result s' t' n
      → WritesFiles held contents failures stalled u w x z a c result (s ++ s') (t ++ t') (max m n)
  writes_then u v w x y z a b c result s s' t t' m n p q = record {
    written = then_text _ _ _ s s' result p.written q.written;
    reported = tells_then contents failures stalled a.tells b.tells c.tells x y z t t' p.reported q.reported;
    status = three a.status b.status c.status m n q.status p.status;
  }

  -- what was written of files, and then of further ones
  pub files_then : (u v w : W) (x y z : E) (a b c : Outputs) (result : Result (Unit {0}) Kind) (style : Style) (xs ys : List Processed)
      → WritesFiles held contents failures stalled u v x y a b (Ok tt) (output_of style xs) (reports_of style xs) (greatest_status xs)
      → WritesFiles held contents failures stalled v w y z b c result (output_of style ys) (reports_of style ys) (greatest_status ys)
      → WritesFiles held contents failures stalled u w x z a c result (output_of style (xs ++ ys)) (reports_of style (xs ++ ys))
      (greatest_status (xs ++ ys))
  files_then u v w x y z a b c result style xs ys p q =
      let all = writes_then u v w x y z a b c result _ _ _ _ _ _ p q in
      rw (
        flat_map-append (λ (t : Processed). output_line style (bytes_of_name t.name) t.outcome) xs ys,
        flat_map-append (λ (t : Processed). report_line style (bytes_of_name t.name) t.outcome) xs ys,
        greatest_then xs ys,
      ) all

-- files that were processed one after another, and then further ones
pub takes_then : {F X : Type 0} (R : F → X → F → Type 0) (a : F) (xs : List X) (b : F) (ys : List X) (c : F) → FoldsTo R a xs b → FoldsTo R b ys c
    → FoldsTo R a (xs ++ ys) c
takes_then R a [] b ys c p q = subst (λ v. FoldsTo R v ys c) (sym p) q
takes_then R a (x ∷ xs) b ys c p q = (p.0, p.1, takes_then R p.0 xs b ys c p.2 q)

-- what is written of one file
pub one_line : (xs : List ℕ) → xs ≡ xs ++ []
one_line xs = sym (append-nil xs)

module _ {F R W E : Type 0} (step : F → Origin → Result (OpenedFile R) IoError → F → Type 0) (remaining : R → Option (List ℕ)) (reads_failed : R → ℕ)
    (held : W → Option (List ℕ)) (contents : E → Option (List ℕ)) (failures : E → ℕ) (stalled : E → Bool) where
  -- no file was processed yet
  pub takes_none : (form : KeyForm) (names : List Name) (f : F) (w : W) (e : E) (o : Outputs) → (o.tells ≡ true → failures e ≡ 0)
      → TakesFiles step remaining reads_failed held contents failures stalled form names names f f w w e e o o (Ok tt)
  takes_none form names f w e o hears =
      record { processed = []; split = refl; takes = refl; writes = writes_none held contents failures stalled w e o hears }

  -- files, and then further ones
  pub takes_more : (form : KeyForm) (names rest last : List Name) (f g h : F) (u v w : W) (x y z : E) (a b c : Outputs) (result : Result (Unit {0}) Kind)
      → b.style ≡ a.style
      → TakesFiles step remaining reads_failed held contents failures stalled form names rest f g u v x y a b (Ok tt)
      → TakesFiles step remaining reads_failed held contents failures stalled form rest last g h v w y z b c result
      → TakesFiles step remaining reads_failed held contents failures stalled form names last f h u w x z a c result
  takes_more form names rest last f g h u v w x y z a b c result same p q = record {
    processed = p.processed ++ q.processed;
    split = p.split ∙ ap (λ l. names_of p.processed ++ l) q.split ∙ sym (append_assoc (names_of p.processed) (names_of q.processed) last)
        ∙ ap (λ l. l ++ last) (sym (map-append (λ (t : Processed). t.name) p.processed q.processed));
    takes = takes_then (Takes step remaining reads_failed form) f p.processed g q.processed h p.takes q.takes;
    writes = files_then held contents failures stalled u v w x y z a b c result a.style p.processed q.processed p.writes
        (subst (λ s. WritesFiles held contents failures stalled v w y z b c result (output_of s q.processed) (reports_of s q.processed)
        (greatest_status q.processed)) same q.writes);
  }

  -- one file
  pub takes_one : (form : KeyForm) (name : Name) (reported : Outcome) (rest : List Name) (f g : F) (u v : W) (x y : E) (a b : Outputs)
      (result : Result (Unit {0}) Kind) → Takes step remaining reads_failed form f (record { name = name; outcome = reported }) g
      → WritesFiles held contents failures stalled u v x y a b result (output_line a.style (bytes_of_name name) reported)
      (report_line a.style (bytes_of_name name) reported) (outcome_status reported)
      → TakesFiles step remaining reads_failed held contents failures stalled form (name ∷ rest) rest f g u v x y a b result
  takes_one form name reported rest f g u v x y a b result takes writes = record {
    processed = record { name = name; outcome = reported } ∷ [];
    split = refl;
    takes = (g, takes, refl);
    writes = record {
      written = subst (λ l. WritesText (held u) (held v) l result) (one_line (output_line a.style (bytes_of_name name) reported)) writes.written;
      reported = subst (TellsOn contents failures stalled a.tells b.tells x y) (one_line (report_line a.style (bytes_of_name name) reported)) writes.reported;
      status = at b.status a.status (outcome_status reported) writes.status;
    };
  }
    where
      at : (m n s : ℕ) → m ≡ max n s → m ≡ max n (max s 0)
      at m n s is = omega (arith, is)

-- want of memory for the line of a key is a fault of its file
pub reported_comes : {F R : Type 0} (step : F → Origin → Result (OpenedFile R) IoError → F → Type 0) (remaining : R → Option (List ℕ))
    (reads_failed : R → ℕ) (form : KeyForm) (given : Result (OpenedFile R) IoError) (outcome reported : Outcome) → IsReportedAs outcome reported
    → Comes step remaining reads_failed form given outcome
    → Comes step remaining reads_failed form given reported
reported_comes step remaining reads_failed form given outcome reported (inl is) comes = subst (Comes step remaining reads_failed form given) (sym is) comes
reported_comes step remaining reads_failed form (Ok opened) outcome reported (inr (key, is, wants)) comes =
    let had = subst (Comes step remaining reads_failed form (Ok opened)) is comes in
    subst (Comes step remaining reads_failed form (Ok opened)) (sym wants)
    (had.0, record { comes = (by_want (inl refl), refl); read_fault = (λ same. cc, λ failed. absurd (had.1.read_fault.1 failed)) })
reported_comes step remaining reads_failed form (Err error) outcome reported (inr (key, is, wants)) comes =
    absurd (subst (Comes step remaining reads_failed form (Err error)) is comes)

-- so what is reported of a file is what it comes to
pub reported_takes : {F R : Type 0} (step : F → Origin → Result (OpenedFile R) IoError → F → Type 0) (remaining : R → Option (List ℕ))
    (reads_failed : R → ℕ) (form : KeyForm) (f g : F) (name : Name) (outcome reported : Outcome) → IsReportedAs outcome reported
    → Takes step remaining reads_failed form f
    (record { name = name; outcome = outcome }) g
    → Takes step remaining reads_failed form f (record { name = name; outcome = reported }) g
reported_takes step remaining reads_failed form f g name outcome reported how (by_call origin given named called comes) =
    by_call origin given named called (reported_comes step remaining reads_failed form given outcome reported how comes)
reported_takes step remaining reads_failed form f g name outcome reported (inl is) (by_name bad same) =
    by_name (bad.0, bad.1, bad.2, is ∙ bad.3) same
reported_takes step remaining reads_failed form f g name outcome reported (inr (key, is, wants)) (by_name bad same) =
    let both : Unopened io.InvalidData ≡ Key key = sym bad.3 ∙ is in absurd cc

module _ {F R W E : Type 0} (step : F → Origin → Result (OpenedFile R) IoError → F → Type 0) (remaining : R → Option (List ℕ)) (reads_failed : R → ℕ)
    (held : W → Option (List ℕ)) (contents : E → Option (List ℕ)) (failures : E → ℕ) (stalled : E → Bool) where
  -- files, and then the next one
  pub takes_next : (form form' : KeyForm) (names rest rest' : List Name) (name : Name) (bytes : List ℕ) (outcome : Outcome) (f g h : F) (u v w : W)
      (x y z : E) (a b c : Outputs) (result : Result (Unit {0}) Kind) → form' ≡ form → b.style ≡ a.style → rest ≡ name ∷ rest' → bytes ≡ bytes_of_name name
      → TakesFiles step remaining reads_failed held contents failures stalled form names rest f g u v x y a b (Ok tt)
      → Takes step remaining reads_failed form' g (record { name = name; outcome = outcome }) h
      → (reported : Outcome) × IsReportedAs outcome reported
      × WritesFiles held contents failures stalled v w y z b c result (output_line b.style bytes reported)
      (report_line b.style bytes reported) (outcome_status reported)
      → TakesFiles step remaining reads_failed held contents failures stalled form names rest' f h u w x z a c result
  takes_next form form' names rest rest' name bytes outcome f g h u v w x y z a b c result is_form is_style split is before takes (reported, how, writes) =
      let these = reported_takes step remaining reads_failed form g h name outcome reported how
      (subst (λ k. Takes step remaining reads_failed k g (record { name = name; outcome = outcome }) h) is_form takes) in
      let lines = subst (λ l. WritesFiles held contents failures stalled v w y z b c result (output_line b.style l reported)
      (report_line b.style l reported) (outcome_status reported)) is writes in
      takes_more step remaining reads_failed held contents failures stalled form names rest rest' f g h u v w x y z a b c result is_style before
      (subst (λ l. TakesFiles step remaining reads_failed held contents failures stalled form l rest' g h v w y z b c result) (sym split)
      (takes_one step remaining reads_failed held contents failures stalled form name reported rest' g h v w y z b c result these lines))

  -- which error it is doesn't count
  pub takes_err : (form : KeyForm) (names rest : List Name) (f g : F) (u v : W) (x y : E) (a b : Outputs) (k k' : Kind)
      → TakesFiles step remaining reads_failed held contents failures stalled form names rest f g u v x y a b (Err k)
      → TakesFiles step remaining reads_failed held contents failures stalled form names rest f g u v x y a b (Err k')
  takes_err form names rest f g u v x y a b k k' p = record {
    processed = p.processed;
    split = p.split;
    takes = p.takes;
    writes = record { written = p.writes.written; reported = p.writes.reported; status = p.writes.status };
  }

  -- a flush hands on what was written, or fails, and then all of it was written
  pub takes_flushed : (form : KeyForm) (names rest : List Name) (f g : F) (u v w : W) (x y : E) (a b : Outputs) (result : Result (Unit {0}) Kind)
      → TakesFiles step remaining reads_failed held contents failures stalled form names rest f g u v x y a b (Ok tt) → Keeps (held v) (held w)
      → TakesFiles step remaining reads_failed held contents failures stalled form names rest f g u w x y a b result
  takes_flushed form names rest f g u v w x y a b result p keeps = record {
    processed = p.processed;
    split = p.split;
    takes = p.takes;
    writes = record { written = at _ result (appends_kept _ _ _ _ p.writes.written keeps); reported = p.writes.reported; status = p.writes.status };
  }
    where
      at : (s : List ℕ) (r : Result (Unit {0}) Kind) → Appends (held u) (held w) s → WritesText (held u) (held w) s r
      at s (Ok done) all = all
      at s (Err kind) all = record {
        count = length s;
        within = omega arith;
        written = subst (Appends (held u) (held w)) (sym (take_all (length s) s (omega arith))) all;
      }

-- the list of a run was read
pub list_read : {F R B : Type 0} (step : F → Origin → Result (OpenedFile R) IoError → F → Type 0) (remaining : R → Option (List ℕ)) (reads_failed : R → ℕ)
    (from : Option (List ℕ)) (word : List ℕ) (before after : F) (opened : OpenedFile R) (end : R) (items : B → List ℕ) (result : Result B Kind)
    → from ≡ Some word → OpenerGives step word before (Ok opened) after
    → IfOk result (λ bytes. ReadAll (2 ^ 30) (remaining opened.source) (remaining end) (items bytes))
    → OnOk result (reads_failed end ≡ 0) → IfOk result (λ bytes. ReadsList step remaining reads_failed from before (items bytes) after)
list_read step remaining reads_failed from word before after opened end items (Ok bytes) some gives read works =
    subst (λ w. ReadsList step remaining reads_failed w before (items bytes) after) (sym some) (opened, end, gives, read, works)
list_read step remaining reads_failed from word before after opened end items (Err kind) some gives read works = tt

-- or not
pub list_lacks : {F R B : Type 0} (step : F → Origin → Result (OpenedFile R) IoError → F → Type 0) (remaining : R → Option (List ℕ)) (reads_failed : R → ℕ)
    (word : List ℕ) (before after : F) (opened : OpenedFile R) (end : R) (result : Result B Kind) → OpenerGives step word before (Ok opened) after
    → IfErr result (LacksBytes (source_run remaining reads_failed opened.source end)) → IfErr result (LacksList step remaining reads_failed word before)
list_lacks step remaining reads_failed word before after opened end (Ok bytes) gives lacks = tt
list_lacks step remaining reads_failed word before after opened end (Err kind) gives lacks = by_reading opened after end gives lacks

-- why a source has no bytes of a list
pub lacks_bytes : {B : Type 0} (source : SourceRun) (result : Result B Kind) → IfErr result (λ kind. kind ≡ kinds.ReadFault → source.failures ≡ 1)
    → IfErr result (λ kind. kind ≡ kinds.InputTooLong → CameBeyond (2 ^ 30) source.before source.after)
    → IfErr result (λ kind. (kind ≡ kinds.ReadFault) ⊎ ((kind ≡ kinds.InputTooLong) ⊎ (kind ≡ kinds.Memory)))
    → OnErr result (source.failures ≡ 1 → IfErr result (λ kind. kind ≡ kinds.ReadFault)) → IfErr result (LacksBytes source)
lacks_bytes source (Ok bytes) failed long of_kind is_reported = tt
lacks_bytes source (Err kind) failed long of_kind is_reported = record { why = at of_kind; read_fault = (failed, is_reported) }
  where
    at : (kind ≡ kinds.ReadFault) ⊎ ((kind ≡ kinds.InputTooLong) ⊎ (kind ≡ kinds.Memory)) → InputRefuses source (fault_of kind) ⊎ (kind ≡ kinds.Memory)
    at (inl is) = inl (by_source (ap fault_of is) (failed is))
    at (inr (inl is)) = inl (by_length (ap fault_of is) (long is))
    at (inr (inr is)) = inr is

-- a source that isn't said to have failed works
pub unfailed : (n : ℕ) (failed : Bool) → n ≤ 1 → IsTrue failed ↔ (n ≡ 1) → failed ≡ false → n ≡ 0
unfailed n true most is fails = absurd cc
unfailed n false most is fails = at n most (λ one. let bad : false ≡ true = is.1 one in absurd cc)
  where
    at : (n : ℕ) → n ≤ 1 → (n ≡ 1 → ⊥) → n ≡ 0
    at zero most other = refl
    at (suc zero) most other = absurd (other refl)
    at (suc (suc n)) most other = absurd (omega (arith, most))

-- what comes of a source that has a key
pub outcome_of_key : (form : KeyForm) (foreign : Option Foreign) (source : SourceRun) (key : List ℕ) → HasText (IsKeyIn form MAX_LEVEL) source key
    → (source.failures ≡ 1 → ⊥) → IsOutcomeOf form foreign source (Key key)
outcome_of_key form foreign source key has whole = record { comes = has; read_fault = (λ none. absurd none, whole) }

-- what comes of a source that has no key
pub outcome_of_fault : RefusalsHaveKinds MAX_LEVEL → (form : KeyForm) (foreign : Option Foreign) (source : SourceRun) (refusal : FileRefusal)
    → HasNoText (RefusesInForm form.form) source refusal.fault → refusal.foreign ≡ foreign_on refusal.fault.kind foreign
    → (source.failures ≡ 1 → refusal.fault.kind ≡ kinds.ReadFault) → IsOutcomeOf form foreign source (Refused refusal)
outcome_of_fault law form foreign source refusal refuses is reported =
    record { comes = (refuses, is); read_fault = (read_failed law form.form source refusal.fault refuses, reported) }

pub on_ok : {A B : Type 0} (P : Type 0) (r : Result A B) → P → OnOk r P
on_ok P (Ok a) p = p
on_ok P (Err e) p = tt

pub err_by : {A B : Type 0} (P Q : B → Type 0) (r : Result A B) → ((b : B) → P b → Q b) → IfErr r P → IfErr r Q
err_by P Q (Ok a) f p = tt
err_by P Q (Err e) f p = f e p

outcome_is : (outcome : Outcome) → IsStatus (outcome_status outcome)
outcome_is (Key key) = inl refl
outcome_is (Refused refusal) = kind_status refusal.fault.kind
outcome_is (Unopened kind) = inr (inr (inl refl))

greater : (m n : ℕ) → IsStatus m → IsStatus n → IsStatus (max m n)
greater m n (inl p) (inl q) = inl (omega (arith, p, q))
greater m n (inl p) (inr (inl q)) = inr (inl (omega (arith, p, q)))
greater m n (inl p) (inr (inr (inl q))) = inr (inr (inl (omega (arith, p, q))))
greater m n (inl p) (inr (inr (inr q))) = inr (inr (inr (omega (arith, p, q))))
greater m n (inr (inl p)) (inl q) = inr (inl (omega (arith, p, q)))
greater m n (inr (inl p)) (inr (inl q)) = inr (inl (omega (arith, p, q)))
greater m n (inr (inl p)) (inr (inr (inl q))) = inr (inr (inl (omega (arith, p, q))))
greater m n (inr (inl p)) (inr (inr (inr q))) = inr (inr (inr (omega (arith, p, q))))
greater m n (inr (inr (inl p))) (inl q) = inr (inr (inl (omega (arith, p, q))))
greater m n (inr (inr (inl p))) (inr (inl q)) = inr (inr (inl (omega (arith, p, q))))
greater m n (inr (inr (inl p))) (inr (inr (inl q))) = inr (inr (inl (omega (arith, p, q))))
greater m n (inr (inr (inl p))) (inr (inr (inr q))) = inr (inr (inr (omega (arith, p, q))))
greater m n (inr (inr (inr p))) (inl q) = inr (inr (inr (omega (arith, p, q))))
greater m n (inr (inr (inr p))) (inr (inl q)) = inr (inr (inr (omega (arith, p, q))))
greater m n (inr (inr (inr p))) (inr (inr (inl q))) = inr (inr (inr (omega (arith, p, q))))
greater m n (inr (inr (inr p))) (inr (inr (inr q))) = inr (inr (inr (omega (arith, p, q))))

-- the greatest status of files is one of the command
pub greatest_is : (processed : List Processed) → IsStatus (greatest_status processed)
greatest_is [] = inl refl
greatest_is (t ∷ processed) = greater (outcome_status t.outcome) (greatest_status processed) (outcome_is t.outcome) (greatest_is processed)

-- what a run tells, and then the line with which it is broken off
pub broken_tells : {E : Type 0} (contents : E → Option (List ℕ)) (failures : E → ℕ) (stalled : E → Bool) (b : Bool) (x y z : E) (s t : List ℕ)
    → TellsOn contents failures stalled true b x y s → (b ≡ true → Reports (sink_run contents failures stalled y z) t) → (b ≡ false → z ≡ y)
    → Reports (sink_run contents failures stalled x z) (s ++ t)
broken_tells contents failures stalled true x y z s t p q r = elim (q refl) [
  | inl whole ↦ inl (Appends-trans _ _ _ s t p.0 whole)
  | inr part ↦ inr (prefix-after _ _ _ s t p.0 part.0, part.1)
]
broken_tells contents failures stalled false x y z s t p q r =
    subst (λ last. Reports (sink_run contents failures stalled x last) (s ++ t)) (sym (r refl)) (inr (prefix-grows _ _ s t p.0, p.1))

-- the names of a run are those among its arguments and its list, and these are the same as others
pub names_same : (names : List Name) (z : Bool) (words words' : List (Bor (List ℕ))) (list list' : List ℕ)
    → names ≡ names_among z (map (λ (word : Bor (List ℕ)). word.now) words) list → words ≡ words' → list ≡ list'
    → names ≡ names_among z (map (λ (word : Bor (List ℕ)). word.now) words') list'
names_same names z words words' list list' is p q = is ∙ ap (λ w. names_among z (map (λ (word : Bor (List ℕ)). word.now) w) list) p
    ∙ ap (λ l. names_among z (map (λ (word : Bor (List ℕ)). word.now) words') l) q

pub from_none : (m n g : ℕ) → n ≡ max m g → m ≡ 0 → n ≡ g
from_none m n g is none = omega (arith, is, none)

module _ {F R W E : Type 0} (step : F → Origin → Result (OpenedFile R) IoError → F → Type 0) (remaining : R → Option (List ℕ)) (reads_failed : R → ℕ)
    (held : W → Option (List ℕ)) (w-failures : W → ℕ) (w-stalled : W → Bool)
    (contents : E → Option (List ℕ)) (failures : E → ℕ) (stalled : E → Bool) where
  -- the files that a run took, from those that were processed after its list was read
  took_of : (plan : KeysPlan) (opener ready last : F) (list : List ℕ) (form : KeyForm) (names rest : List Name) (u v : W) (x y : E) (a b : Outputs)
      (result : Result (Unit {0}) Kind) → ReadsList step remaining reads_failed (list_word plan) opener list ready → form ≡ plan.form
      → names ≡ names_among plan.zero (words_of_plan plan) list
      → (p : TakesFiles step remaining reads_failed held contents failures stalled form names rest ready last u v x y a b result)
      → Took step remaining reads_failed plan opener p.processed rest
  took_of plan opener ready last list form names rest u v x y a b result read is_form same p = record {
    list = list;
    ready = ready;
    last = last;
    read = read;
    names = sym same ∙ p.split;
    takes = subst (λ k. TakesAll step remaining reads_failed k ready p.processed last) is_form p.takes;
  }

  -- a run that comes to its end
  pub ran_through : (plan : KeysPlan) (opener ready last : F) (list : List ℕ) (form : KeyForm) (names rest : List Name) (u v : W) (x y : E) (a b : Outputs)
      (flushed : Bool) → ReadsList step remaining reads_failed (list_word plan) opener list ready → form ≡ plan.form
      → names ≡ names_among plan.zero (words_of_plan plan) list → a.style ≡ style_of plan → a.tells ≡ true → a.status ≡ 0 → rest ≡ []
      → TakesFiles step remaining reads_failed held contents failures stalled form names rest ready last u v x y a b (Ok tt) → flushed ≡ true
      → KeysRan step remaining reads_failed plan opener (sink_run held w-failures w-stalled u v) (sink_run contents failures stalled x y) flushed b.status
  ran_through plan opener ready last list form names rest u v x y a b flushed read is_form same is_style hears none all p is_flushed = through p.processed
      (subst (Took step remaining reads_failed plan opener p.processed) all
      (took_of plan opener ready last list form names rest u v x y a b (Ok tt) read is_form same p))
      (subst (λ s. Appends (held u) (held v) (output_of s p.processed)) is_style p.writes.written) is_flushed
      (tells_all contents failures stalled b.tells x y (reports_of (style_of plan) p.processed)
      (subst (λ s. TellsOn contents failures stalled true b.tells x y (reports_of s p.processed)) is_style
      (subst (λ t. TellsOn contents failures stalled t b.tells x y (reports_of a.style p.processed)) hears p.writes.reported)))
      (from_none a.status b.status (greatest_status p.processed) p.writes.status none)

  -- a run that is broken off
  pub ran_broken : (plan : KeysPlan) (opener ready last : F) (list : List ℕ) (form : KeyForm) (names rest : List Name) (u v : W) (x y z : E) (a b : Outputs)
      (flushed : Bool) (kind : Kind) (status : ℕ) → ReadsList step remaining reads_failed (list_word plan) opener list ready → form ≡ plan.form
      → names ≡ names_among plan.zero (words_of_plan plan) list → a.style ≡ style_of plan → a.tells ≡ true
      → TakesFiles step remaining reads_failed held contents failures stalled form names rest ready last u v x y a b (Err kind)
      → kind ≡ kinds.WriteFault → (w-failures v ≡ 1) ⊎ (w-stalled v ≡ true)
      → (b.tells ≡ true → Reports (sink_run contents failures stalled y z) (fault_line (refusal_of (fault_of kind)))) → (b.tells ≡ false → z ≡ y)
      → status ≡ status_of kind
      → KeysRan step remaining reads_failed plan opener (sink_run held w-failures w-stalled u v) (sink_run contents failures stalled x z) flushed status
  ran_broken plan opener ready last list form names rest u v x y z a b flushed kind status read is_form same is_style hears p is cause reported silent
      is_status =
      broken_off p.processed rest (took_of plan opener ready last list form names rest u v x y a b (Err kind) read is_form same p)
      (subst (λ s. WritesPrefix (held u) (held v) (output_of s p.processed)) is_style p.writes.written) cause
      (subst (λ k. Reports (sink_run contents failures stalled x z) (reports_of (style_of plan) p.processed ++ fault_line (refusal_of (fault_of k)))) is
      (broken_tells contents failures stalled b.tells x y z (reports_of (style_of plan) p.processed) _
      (subst (λ s. TellsOn contents failures stalled true b.tells x y (reports_of s p.processed)) is_style
      (subst (λ t. TellsOn contents failures stalled t b.tells x y (reports_of a.style p.processed)) hears p.writes.reported)) reported silent))
      (is_status ∙ ap status_of is)

  -- and the status of one that comes to its end
  pub status_is : (form : KeyForm) (names rest : List Name) (f g : F) (u v : W) (x y : E) (a b : Outputs) (result : Result (Unit {0}) Kind) → a.status ≡ 0
      → TakesFiles step remaining reads_failed held contents failures stalled form names rest f g u v x y a b result → IsStatus b.status
  status_is form names rest f g u v x y a b result none p =
      subst IsStatus (sym (from_none a.status b.status (greatest_status p.processed) p.writes.status none)) (greatest_is p.processed)
