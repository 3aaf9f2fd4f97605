-- From what was read of a source to what comes of it, or why nothing does.
use Rattle.std.proofs.Common.{◌≡◌, ◌≢◌, ◌<◌, ◌+◌, length, Contains, AllPairs, arith, ℕ, ◌^◌, ◌⊎◌, inl, inr, List, [], false, Option, Result, Ok, Err, IfErr, IfOk, ap, refl, subst, sym, ◌∙◌}
use Rattle.life_base.specs.DeviceRuns.{SourceRun}
use Rattle.life_base.specs.Refusal.{fault_of}
use Rattle.life_base.specs.Tree.{Tree, is_blank_tree}
use Rattle.life_base.specs.declared.cell.TheConstants.{MAX_LEVEL}
use Rattle.life_base.specs.declared.fault.Fault.{Fault}
use Rattle.life_base.specs.declared.kind.Kind.{Kind}
use Rattle.life_base.specs.declared.kind.Kind.TheVariants as kinds
use Rattle.life_base.specs.declared.kind.Kind.TheVariants.{Full, Memory, TooManyCells, ReadFault, InputTooLong, WriteFault}
use Rattle.life_quad.specs.Keeping.{AddsOnly}
use Rattle.life_quad.specs.Store.{Nodes, stored_squares}
use Rattle.life_pattern.specs.Files.{Refuses}
use Rattle.life_reader.specs.ReadWhole.{ReadsWhole}
use Rattle.life_reader.specs.Space.{AddsFile, sufficient_for}
use Rattle.life_reader.specs.Reading.{AddsForRead, HasRead, ReadRefuses, ReadsPattern, ReadsSource}
use Rattle.life_reader.specs.Reading as reading
use Rattle.life_pattern.specs.Store.{IsRead}
use Rattle.life_pattern.specs.declared.pattern.Pattern.{Pattern}
use Rattle.life_base.specs.declared.form.Form.{Form}
use Rattle.pattern_sources.specs.Faults.{status_of}
use Rattle.pattern_sources.specs.Sources.{by_length, by_source, HasNoText, by_input, by_file, by_want, RefusesInForm, AreOfInput, HoldsNoneBut, HoldsOneFile, IsTooSmallFor, HasText, ComesOf}

-- which squares a call leaves in the store that reads an input into it
pub squares_of_input : (old new : Nodes) (input : Option (List ℕ)) → AddsForRead input old new → AllPairs ◌≢◌ (stored_squares new)
    → ((t : Tree) → Contains (stored_squares new) t → is_blank_tree t ≡ false) → AreOfInput (stored_squares old) input (stored_squares new)
squares_of_input old new input adds distinct not_blank = record {
  bytes = adds.bytes;
  left = adds.left;
  came = adds.came;
  distinct = distinct;
  not_blank = not_blank;
  needed = adds.adds.each;
}

-- a store that got full is too small for the input
pub too_small : {X : Type 0} (old new : Nodes) (source : SourceRun) (result : Result X Fault) → ReadsSource (2 ^ 30) old new source result
    → AreOfInput (stored_squares old) source.before (stored_squares new) → result ≡ Err (fault_of Full) → IsTooSmallFor (stored_squares old) source new
too_small old new source result reads squares full =
    let space = reads.space full in
    record {
      squares = squares;
      lacks = reads.needed full;
      read = space.bytes;
      came = space.came;
      tight = subst (λ limit. limit < length (stored_squares old) + sufficient_for (length space.bytes)) (sym reads.keeps.limit) space.tight;
    }

pub too_small_alone : {X : Type 0} (old new : Nodes) (source : SourceRun) (result : Result X Fault) → ReadsSource (2 ^ 30) old new source result
    → AreOfInput (stored_squares old) source.before (stored_squares new) → stored_squares old ≡ [] → result ≡ Err (fault_of Full) → IsTooSmallFor [] source new
too_small_alone old new source result reads squares empty full =
    subst (λ base. IsTooSmallFor base source new) empty (too_small old new source result reads squares full)

-- nothing comes of an input of which a store makes no pattern
pub no_pattern : (refuses : List ℕ → Fault → Type 0) (source : SourceRun) (store : Nodes) (fault : Fault) → store.limit ≡ 2 ^ 31
    → ((bytes : List ℕ) → Refuses MAX_LEVEL bytes fault → refuses bytes fault) → ReadRefuses MAX_LEVEL (2 ^ 30) store source fault
    → (fault ≡ fault_of Full → IsTooSmallFor [] source store) → HasNoText refuses source fault
no_pattern refuses source store fault limit f (reading.by_file bytes read h) lacks = by_file bytes read (f bytes h)
no_pattern refuses source store fault limit f (reading.by_want want) lacks = by_want (inr (store, limit, (want, lacks)))
no_pattern refuses source store fault limit f (reading.by_length is came) lacks = by_input (by_length is came)
no_pattern refuses source store fault limit f (reading.by_source is failed) lacks = by_input (by_source is failed)

-- a store that held no square holds those that calls have added
none_held : (old : Nodes) → stored_squares old ≡ [] → (t : Tree) → Contains (stored_squares old) t → ⊥
none_held old none t there =
    let it : Contains [] t = subst (λ (squares : List Tree). Contains squares t) none there in
    omega (arith, it.1)

pub holds_one : (bytes : List ℕ) (old new : Nodes) → stored_squares old ≡ [] → AddsFile bytes old new → HoldsOneFile bytes new
holds_one bytes old new none adds t there = elim (adds.each t there) [ inl before ↦ absurd (none_held old none t before) | inr own ↦ own ]

-- what a store holds to which a call added squares that its answer needs
pub holds_more : (IsToRead : Tree → Type 0) (Added ToMake : (Tree → Type 0) → Type 0) (old new : Nodes) → HoldsNoneBut IsToRead old
    → ((P : Tree → Type 0) → Added P → ToMake P) → AddsOnly stored_squares Added old new → HoldsNoneBut (λ t. IsToRead t ⊎ ToMake (λ u. u ≡ t)) new
holds_more IsToRead Added ToMake old new only f adds t there = elim (adds.each t there) [
  | inl before ↦ inl (only t before)
  | inr made ↦ inr (f (λ u. u ≡ t) made)
]

-- no text in a form
pub refused_in : (form : Form) (bytes : List ℕ) (fault : Fault) → Refuses MAX_LEVEL bytes fault → RefusesInForm form bytes fault
refused_in form bytes fault h = inl h

pub refused_text : {X : Type 0} (form : Form) (source : SourceRun) (empty store : Nodes) (pattern : Pattern) (r : Result X Fault)
    → ReadsWhole (2 ^ 30) empty store source pattern
    → IfErr r (λ fault. (fault ≡ fault_of Memory)
    ⊎ ((b : List ℕ) → IsRead MAX_LEVEL b store pattern → RefusesInForm form b fault))
    → IfErr r (HasNoText (RefusesInForm form) source)
refused_text form source empty store pattern (Ok x) has h = tt
refused_text form source empty store pattern (Err fault) has (inl memory) = by_want (inl memory)
refused_text form source empty store pattern (Err fault) has (inr refuses) = by_file has.bytes has.read (refuses has.bytes has.is)

-- all of a file was read, and a call on its pattern gave its text
text_of_pattern : {X : Type 0} (gives : List ℕ → List ℕ → Type 0) (items : X → List ℕ) (source : SourceRun) (store : Nodes) (pattern : Pattern)
    (r : Result X Fault) → HasRead MAX_LEVEL (2 ^ 30) store source pattern
    → IfOk r (λ x. (bytes : List ℕ) → IsRead MAX_LEVEL bytes store pattern → gives bytes (items x)) → IfOk r (λ x. HasText gives source (items x))
text_of_pattern gives items source store pattern (Ok x) has is = record { bytes = has.bytes; read = has.read; is = is has.bytes has.is }
text_of_pattern gives items source store pattern (Err fault) has is = tt

-- nothing comes of a file whose pattern wasn't read
pub nothing_comes : {X : Type 0} (items : X → List ℕ) (gives : List ℕ → List ℕ → Type 0) (refuses : List ℕ → Fault → Type 0) (source : SourceRun)
    (old new : Nodes) (fault : Fault) → old.limit ≡ 2 ^ 31 → stored_squares old ≡ [] → AreOfInput (stored_squares old) source.before (stored_squares new) →
    ((bytes : List ℕ) → Refuses MAX_LEVEL bytes fault → refuses bytes fault)
    → ReadsPattern (2 ^ 30) old new source (Err fault) → ComesOf items gives refuses source (Err fault)
nothing_comes items gives refuses source old new fault limit empty squares f read = record {
  ok = tt;
  err = no_pattern refuses source new fault (read.reads.keeps.limit ∙ limit) f read.fault
      (λ full. too_small_alone old new source (Err fault) read.reads squares empty (ap (λ (e : Fault). Err e) full));
  reported = read.reads.reported;
}

-- what a call on the pattern of a file answers comes of the file
pub comes_of_pattern : {X : Type 0} (items : X → List ℕ) (gives : List ℕ → List ℕ → Type 0) (refuses : List ℕ → Fault → Type 0) (source : SourceRun)
    (store : Nodes) (pattern : Pattern) (r : Result X Fault) → HasRead MAX_LEVEL (2 ^ 30) store source pattern → source.failures ≡ 0
    → IfOk r (λ x. (bytes : List ℕ) → IsRead MAX_LEVEL bytes store pattern → gives bytes (items x)) → IfErr r (HasNoText refuses source)
    → ComesOf items gives refuses source r
comes_of_pattern items gives refuses source store pattern r has works is err = record {
  ok = text_of_pattern gives items source store pattern r has is;
  err = err;
  reported = λ failed. let bad : 0 ≡ 1 = sym works ∙ failed in absurd cc;
}

-- the status of a fault
pub fault_status : (kind : Kind) → (status_of kind ≡ 2) ⊎ ((status_of kind ≡ 3) ⊎ (status_of kind ≡ 4))
fault_status kinds.Full = inr (inr refl)
fault_status kinds.Memory = inr (inr refl)
fault_status kinds.ReadFault = inr (inl refl)
fault_status kinds.WriteFault = inr (inl refl)
fault_status kind = inl refl
