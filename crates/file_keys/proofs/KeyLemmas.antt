-- The keys of files.
use Rattle.std.proofs.Common.{◌≡◌, ℕ, ◌^◌, inl, inr, Bool, List, [], ap, sym, subst, subst₂, ◌∙◌, true, false, Result, Ok, Err}
use Rattle.std.specs.Prelude.{MatchBool}
use Rattle.sha2.specs.Sha256.{sha256}
use Rattle.life_base.specs.DeviceRuns.{SourceRun, SinkRun}
use Rattle.life_base.specs.Refusal.{fault_of}
use Rattle.life_base.specs.Text.{lines_of}
use Rattle.life_base.specs.declared.cell.TheConstants.{MAX_LEVEL}
use Rattle.life_base.specs.declared.fault.Fault.{Fault}
use Rattle.life_base.specs.declared.kind.Kind.{Kind}
use Rattle.life_base.specs.declared.kind.Kind.TheVariants as kinds
use Rattle.life_quad.specs.Store.{Nodes}
use Rattle.life_pattern.specs.Files.{is_file_kind, Refuses}
use Rattle.life_pattern.specs.Laws.{RefusalsHaveKinds}
use Rattle.life_canon.specs.Running.{RunRefuses}
use Rattle.life_canon.specs.Running as running
use Rattle.life_pattern.specs.Store.{IsShortageOf}
use Rattle.pattern_sources.specs.Faults.{status_of}
use Rattle.pattern_sources.specs.Forms.{IsTextAtStart, IsTextIn}
use Rattle.pattern_sources.specs.Sources.{by_file, by_input, by_length, by_source, by_want, ComesOf, HasNoText, HasText, InputRefuses, IsTooSmallFor, RefusesInForm}
use Rattle.file_keys.specs.Keys.{IsHashedText, IsKeyIn, IsKeyOf, IsStatus}
use Rattle.life_base.specs.declared.form.Form.{Form}
use Rattle.command_line.specs.declared.plans.KeyForm.{KeyForm}
use Rattle.life_base.specs.declared.form.Form.TheVariants.{Placed, Moved, Turned, Phases}
use Rattle.pattern_sources.proofs.SourceLemmas.{fault_status, no_pattern}

-- the text that is hashed, by whether the generation is ignored
abbrev hashed_by : Bool → Form → List ℕ → List ℕ → Type 0
hashed_by ignores form bytes text = MatchBool ignores (IsTextAtStart form MAX_LEVEL bytes text) (IsTextIn form MAX_LEVEL bytes text)

-- what comes of a source in one of the two ways is what is hashed in a form that has this way
pub comes_as_hashed : {A : Type 0} (items : A → List ℕ) (form : KeyForm) (source : SourceRun) (result : Result A Fault) (ignores : Bool)
    → form.ignores_generation ≡ ignores → ComesOf items (hashed_by ignores form.form) (RefusesInForm form.form) source result
    → ComesOf items (IsHashedText form MAX_LEVEL) (RefusesInForm form.form) source result
comes_as_hashed items form source result ignores is comes =
    subst (λ (b : Bool). ComesOf items (hashed_by b form.form) (RefusesInForm form.form) source result) (sym is) comes

-- the key of a pattern as it lies, in its generation
pub comes_placed : (form : KeyForm) (source : SourceRun) (result : Result (List ℕ) Fault) → form.form ≡ Placed → form.ignores_generation ≡ false
    → ComesOf (λ (k : List ℕ). k) (IsKeyOf (IsTextIn Placed MAX_LEVEL)) (RefusesInForm Placed) source result
    → ComesOf (λ (k : List ℕ). k) (IsKeyIn form MAX_LEVEL) (RefusesInForm form.form) source result
comes_placed form source result is_placed counts comes =
    subst₂ (λ (f : Form) (b : Bool). ComesOf (λ (k : List ℕ). k) (IsKeyOf (hashed_by b f)) (RefusesInForm f) source result) (sym is_placed) (sym counts) comes

-- the key of a text of a source
key_of_text : (is_text : List ℕ → List ℕ → Type 0) (source : SourceRun) (text key : List ℕ) → HasText is_text source text → key ≡ sha256 text
    → HasText (IsKeyOf is_text) source key
key_of_text is_text source text key has hashed =
    record { bytes = has.bytes; read = has.read; is = record { text = text; is = has.is; hashed = hashed } }

-- so what comes of its text comes of its key
pub comes_of_text : {A : Type 0} (items : A → List ℕ) (form : KeyForm) (source : SourceRun) (text : A) (key : List ℕ)
    → ComesOf items (IsHashedText form MAX_LEVEL) (RefusesInForm form.form) source (Ok text) → key ≡ sha256 (items text)
    → ComesOf (λ (k : List ℕ). k) (IsKeyIn form MAX_LEVEL) (RefusesInForm form.form) source (Ok key)
comes_of_text items form source text key comes hashed = record {
  ok = key_of_text (IsHashedText form MAX_LEVEL) source (items text) key comes.ok hashed;
  err = tt;
  reported = λ failed. absurd (comes.reported failed);
}

-- and where there is no text there is no key
pub no_text_no_key : {A : Type 0} (items : A → List ℕ) (form : KeyForm) (source : SourceRun) (fault : Fault)
    → ComesOf items (IsHashedText form MAX_LEVEL) (RefusesInForm form.form) source (Err fault)
    → ComesOf (λ (k : List ℕ). k) (IsKeyIn form MAX_LEVEL) (RefusesInForm form.form) source (Err fault)
no_text_no_key items form source fault comes = record { ok = tt; err = comes.err; reported = comes.reported }

-- a run into a sink that never fails is refused by its input alone
no_key : (source : SourceRun) (sink : SinkRun) (store : Nodes) (fault : Fault) → store.limit ≡ 2 ^ 31 → sink.failures ≡ 0 → sink.stalled ≡ false
    → RunRefuses MAX_LEVEL (2 ^ 30) store source sink fault → (fault ≡ fault_of kinds.Full → IsTooSmallFor [] source store)
    → HasNoText (RefusesInForm Placed) source fault
no_key source sink store fault limit works takes (running.by_reading reading) lacks =
    no_pattern (RefusesInForm Placed) source store fault limit (λ bytes h. inl h) reading lacks
no_key source sink store fault limit works takes (running.by_writing is broke) lacks = elim broke.cause [
  | inl failed ↦ let bad : 0 ≡ 1 = sym works ∙ failed in absurd cc
  | inr stalled ↦ let bad : false ≡ true = sym takes ∙ stalled in absurd cc
]

-- a run that hashes the text of a pattern as it lies
pub placed_comes : (source : SourceRun) (text key : List ℕ) → HasText (IsTextIn Placed MAX_LEVEL) source text → (source.failures ≡ 1 → ⊥)
    → key ≡ sha256 text
    → ComesOf (λ (k : List ℕ). k) (IsKeyOf (IsTextIn Placed MAX_LEVEL)) (RefusesInForm Placed) source (Ok key)
placed_comes source text key has whole hashed =
    record { ok = key_of_text (IsTextIn Placed MAX_LEVEL) source text key has hashed; err = tt; reported = λ failed. absurd (whole failed) }

-- or is refused
pub none_placed : (source : SourceRun) (sink : SinkRun) (store : Nodes) (fault : Fault) → store.limit ≡ 2 ^ 31 → sink.failures ≡ 0
    → sink.stalled ≡ false → RunRefuses MAX_LEVEL (2 ^ 30) store source sink fault
    → (fault ≡ fault_of kinds.Full → IsTooSmallFor [] source store) → (source.failures ≡ 1 → fault.kind ≡ kinds.ReadFault)
    → ComesOf (λ (k : List ℕ). k) (IsKeyOf (IsTextIn Placed MAX_LEVEL)) (RefusesInForm Placed) source (Err fault)
none_placed source sink store fault limit works takes refuses lacks reported =
    record { ok = tt; err = no_key source sink store fault limit works takes refuses lacks; reported = reported }

-- the status of a fault is one of the command
pub kind_status : (kind : Kind) → IsStatus (status_of kind)
kind_status kind = inr (fault_status kind)

-- a fault of another kind is no read fault
other_kind : (fault : Fault) (kind : Kind) → fault ≡ fault_of kind → (kind ≡ kinds.ReadFault → ⊥) → fault.kind ≡ kinds.ReadFault → ⊥
other_kind fault kind is other read = other (sym (ap (λ (f : Fault). f.kind) is) ∙ read)

want_kind : (store : Nodes) (fault : Fault) → IsShortageOf store fault → fault.kind ≡ kinds.ReadFault → ⊥
want_kind store fault (inl memory) = other_kind fault kinds.Memory memory (λ same. cc)
want_kind store fault (inr full) = other_kind fault kinds.Full full.0 (λ same. cc)

-- a read fault of a file comes of a read that failed
module _ (law : RefusalsHaveKinds MAX_LEVEL) where
  file_kind : (bytes : List ℕ) (fault : Fault) → Refuses MAX_LEVEL bytes fault → fault.kind ≡ kinds.ReadFault → ⊥
  file_kind bytes fault refuses read =
      let of_file : is_file_kind kinds.ReadFault ≡ true = subst (λ (k : Kind). is_file_kind k ≡ true) read (law (lines_of bytes) fault refuses).0 in cc

  form_kind : (form : Form) (bytes : List ℕ) (fault : Fault) → RefusesInForm form bytes fault → fault.kind ≡ kinds.ReadFault → ⊥
  form_kind form bytes fault (inl refuses) = file_kind bytes fault refuses
  form_kind Placed bytes fault (inr why) = other_kind fault kinds.Full why.0 (λ same. cc)
  form_kind Moved bytes fault (inr why) = other_kind fault kinds.Full why.0 (λ same. cc)
  form_kind Turned bytes fault (inr why) = other_kind fault kinds.Full why.0 (λ same. cc)
  form_kind (Phases most) bytes fault (inr (inl leaves)) = other_kind fault kinds.OutOfPlane leaves.0 (λ same. cc)
  form_kind (Phases most) bytes fault (inr (inr full)) = other_kind fault kinds.Full full (λ same. cc)

  input_failed : (source : SourceRun) (fault : Fault) → InputRefuses source fault → fault.kind ≡ kinds.ReadFault → source.failures ≡ 1
  input_failed source fault (by_length is came) read = absurd (other_kind fault kinds.InputTooLong is (λ same. cc) read)
  input_failed source fault (by_source is failed) read = failed

  pub read_failed : (form : Form) (source : SourceRun) (fault : Fault) → HasNoText (RefusesInForm form) source fault → fault.kind ≡ kinds.ReadFault
      → source.failures ≡ 1
  read_failed form source fault (by_input unread) read = input_failed source fault unread read
  read_failed form source fault (by_file bytes all refuses) read = absurd (form_kind form bytes fault refuses read)
  read_failed form source fault (by_want (inl memory)) read = absurd (other_kind fault kinds.Memory memory (λ same. cc) read)
  read_failed form source fault (by_want (inr want)) read = absurd (want_kind want.0 fault want.2.0 read)
