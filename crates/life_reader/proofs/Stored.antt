-- What calls leave in a store, one after the other, and refusals that are handed on.
use Rattle.std.proofs.Common.{◌≡◌, ℕ, List, [], ◌++◌, subst, ◌⊎◌, inl, inr, sym, ◌∙◌, Result, Ok, Err, ap, IfErr, IsErrAnd, OnOk}
use Rattle.life_base.specs.declared.cell.TheConstants.{MAX_LEVEL}
use Rattle.life_base.specs.declared.fault.Fault.{Fault}
use Rattle.life_quad.specs.Store.{Nodes}
use Rattle.life_pattern.specs.Files.{Refuses}
use Rattle.life_reader.specs.Feeding.{RefusesPrefix}
use Rattle.life_pattern.specs.Store.{IsShortageOf, RefusesIn}
use Rattle.life_base.specs.DeviceRuns.{SourceRun}
use Rattle.life_base.specs.Refusal.{fault_at, fault_of}
use Rattle.life_base.specs.Tree.{Tree}
use Rattle.life_base.specs.declared.kind.Kind.{Kind}
use Rattle.life_base.specs.declared.kind.Kind.TheVariants.{Full, LineTooLong, Memory, TooManyCells, WriteFault}
use Rattle.life_reader.specs.Calls.{ReadsInto, Stores}
use Rattle.life_reader.specs.Reading.{ReadsSource}
use Rattle.life_reader.proofs.RunFacts.{prefix-kind, full-not}
use Rattle.life_base.proofs.Results.{err_again}

-- refused memory is no full store
apart : {fault : Fault} → fault ≡ fault_of Memory → fault ≡ fault_of Full → ⊥
apart reported e = kinds (ap (λ (f : Fault). f.kind) (sym reported ∙ e))
  where
    kinds : Memory ≡ Full → ⊥
    kinds h = absurd (cc)

pub no-space : {A : Type 0} {r : Result A Fault} → IfErr r (λ e. e ≡ fault_of Memory) → r ≡ Err (fault_of Full) → ⊥
no-space {r = Ok x} reported e = absurd (cc)
no-space {r = Err x} reported e = let is : x ≡ fault_of Full = cc in apart reported is

-- nor are too many cells
pub not-stored : {A : Type 0} (P : Type 0) {r : Result A Fault} → IfErr r (λ e. (e ≡ fault_of Memory) ⊎ ((e ≡ fault_of TooManyCells) × P))
    → r ≡ Err (fault_of Full) → ⊥
not-stored P {r = Ok x} reported e = absurd (cc)
not-stored P {r = Err x} (inl memory) e = let is : x ≡ fault_of Full = cc in apart memory is
not-stored P {r = Err x} (inr many) e = let is : x ≡ fault_of Full = cc in kinds (ap (λ (f : Fault). f.kind) (sym many.0 ∙ is))
  where
    kinds : TooManyCells ≡ Full → ⊥
    kinds h = absurd (cc)

-- nor is a line that is too long
pub kept-no-space : {n : ℕ} {P : Type 0} {fault : Fault} → (fault ≡ fault_of Memory) ⊎ ((fault ≡ fault_at n LineTooLong) × P) → fault ≡ fault_of Full → ⊥
kept-no-space (inl memory) e = apart memory e
kept-no-space {n} {fault = fault} (inr long) e = full-long (ap (λ (f : Fault). f.kind) (sym e ∙ long.0))
  where
    full-long : Full ≡ LineTooLong → ⊥
    full-long h = absurd (cc)

-- nor is a sink that fails
pub write-no-space : {A : Type 0} {kind : Kind} → kind ≡ WriteFault → ◌≡◌ {A = Result A Fault} (Err (fault_of kind)) (Err (fault_of Full)) → ⊥
write-no-space {kind = kind} reported e =
    let is : fault_of kind ≡ fault_of Full = cc in
    kinds (sym reported ∙ ap (λ (f : Fault). f.kind) is)
  where
    kinds : WriteFault ≡ Full → ⊥
    kinds h = absurd (cc)

-- nor is what refuses a prefix of a file
pub prefix-no-space : {A : Type 0} (bytes : List ℕ) (r : Result A Fault) → IfErr r (λ e. (e ≡ fault_of Memory) ⊎ RefusesPrefix MAX_LEVEL bytes e)
    → r ≡ Err (fault_of Full) → ⊥
prefix-no-space bytes (Ok x) reported e = absurd (cc)
prefix-no-space bytes (Err x) (inl memory) e = let is : x ≡ fault_of Full = cc in apart memory is
prefix-no-space bytes (Err x) (inr prefix) e =
    let is : x ≡ fault_of Full = cc in
    full-not x.kind (prefix-kind bytes x prefix) (ap (λ (f : Fault). f.kind) is)

-- what holds, holds also where a call succeeds
whatever-comes : {T E P : Type 0} (r : Result T E) → P → OnOk r P
whatever-comes (Ok x) p = p
whatever-comes (Err e) p = tt

module _ {A B : Type 0} {old new : Nodes} where
  pub stores-err : {E : Type 0} {full e : E} {N : (Tree → Type 0) → Type 0} → Stores {A = A} full old new (Err e) N → Stores {A = B} full old new (Err e) N
  stores-err call = record { needed = λ h. call.needed (err_again h); adds = call.adds; keeps = call.keeps }

  -- a refusal that is handed on
  pub reads-err : {bytes : List ℕ} {e : Fault} {r : Result B Fault} → IsErrAnd r (λ f. f ≡ e) → ReadsInto {A = A} bytes old new (Err e)
      → ReadsInto bytes old new r
  reads-err {r = Ok x} h call = absurd h
  reads-err {r = Err f} h call =
      rw h (record { all = tt; needed = λ e. call.needed (err_again e); adds = call.adds; space = λ e. call.space (err_again e); keeps = call.keeps })

  pub source-err : {most : ℕ} {source : SourceRun} {e : Fault} → ReadsSource {A = A} most old new source (Err e)
      → ReadsSource {A = B} most old new source (Err e)
  source-err call =
      record {
        all = tt;
        needed = λ h. call.needed (err_again h);
        adds = call.adds;
        space = λ h. call.space (err_again h);
        reported = call.reported;
        keeps = call.keeps;
      }

  -- what is done after the reading and doesn't change the store
  pub reads-still : {bytes : List ℕ} {x : A} {r : Result B Fault} → ReadsInto bytes old new (Ok x) → (r ≡ Err (fault_of Full) → ⊥) → ReadsInto bytes old new r
  reads-still {r = r} call none = record {
    all = whatever-comes r call.all;
    needed = λ e. absurd (none e);
    adds = call.adds;
    space = λ e. absurd
        (none e);
    keeps = call.keeps;
  }

  pub source-still : {most : ℕ} {source : SourceRun} {x : A} {r : Result B Fault} → ReadsSource most old new source (Ok x)
      → (r ≡ Err (fault_of Full) → ⊥) → ReadsSource most old new source r
  source-still {r = r} call none =
      record {
        all = whatever-comes r call.all;
        needed = λ e. absurd (none e);
        adds = call.adds;
        space = λ e. absurd (none e);
        reported = λ e. absurd (call.reported e);
        keeps = call.keeps;
      }

-- what refuses a first piece refuses its bytes
pub feed-fault : (store : Nodes) (before piece : List ℕ) (fault : Fault) → before ≡ [] → IsShortageOf store fault
    ⊎ RefusesPrefix MAX_LEVEL (before ++ piece) fault
    → RefusesIn MAX_LEVEL piece store fault
feed-fault store before piece fault e (inl want) = inr want
feed-fault store before piece fault e (inr prefix) = inl (subst (λ bytes. Refuses MAX_LEVEL (bytes ++ piece) fault) e prefix.refuses)
