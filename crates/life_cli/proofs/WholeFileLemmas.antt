-- A file that was read whole, and then into a store, was read from its source into the store.
use Rattle.std.proofs.Common.{◌≡◌, ℕ, ◌^◌, ◌⊎◌, inl, inr, List, Result, Ok, Err, IfOk, IfErr, OnOk, sym, ◌∙◌}
use Rattle.life_base.specs.DeviceRuns.{SourceRun}
use Rattle.life_base.specs.Inputs.{ReadAll}
use Rattle.life_base.specs.Refusal.{fault_of}
use Rattle.life_base.specs.declared.cell.TheConstants.{MAX_LEVEL}
use Rattle.life_base.specs.declared.fault.Fault.{Fault}
use Rattle.life_base.specs.declared.kind.Kind.TheVariants.{Memory, ReadFault}
use Rattle.life_quad.specs.Store.{Nodes}
use Rattle.life_reader.specs.Calls.{ReadsInto}
use Rattle.life_reader.specs.Reading.{HoldsRead, ReadsPattern, ReadsSource, for_file}
use Rattle.life_reader.specs.Reading as reading
use Rattle.life_pattern.specs.Store.{IsRead, RefusesIn}
use Rattle.life_pattern.specs.declared.pattern.Pattern.{Pattern}
use Rattle.pattern_sources.specs.Sources.{ComesOf, InputRefuses, by_input, by_want}

module _ (bytes : List ℕ) (source : SourceRun) (read : ReadAll (2 ^ 30) source.before source.after bytes) (works : source.failures ≡ 0) (old new : Nodes) where
  whole : (r : Result Pattern Fault) → ReadsInto bytes old new r → OnOk r (HoldsRead (2 ^ 30) new source)
  whole (Ok pattern) into = record { bytes = bytes; read = read; all = into.all }
  whole (Err fault) into = tt

  reads-source : (r : Result Pattern Fault) → ReadsInto bytes old new r → ReadsSource (2 ^ 30) old new source r
  reads-source r into = record {
    all = whole r into;
    needed = λ full. for_file bytes read (into.needed full);
    adds = record { bytes = bytes; left = source.after; came = read.consumed; adds = into.adds };
    space = λ full. record { bytes = bytes; came = read.consumed; within = read.within; tight = into.space full };
    reported = λ failed. let bad : 0 ≡ 1 = sym works ∙ failed in absurd cc;
    keeps = into.keeps;
  }

  pub reads-pattern : (r : Result Pattern Fault) → IfOk r (IsRead MAX_LEVEL bytes new) → IfErr r (RefusesIn MAX_LEVEL bytes new) → ReadsInto bytes old new r
      → ReadsPattern (2 ^ 30) old new source r
  reads-pattern (Ok pattern) is refused into = record {
    pattern = record { bytes = bytes; read = read; is = is };
    works = works;
    fault = tt;
    reads = reads-source (Ok pattern) into;
  }
  reads-pattern (Err fault) is (inl refuses) into = record {
    pattern = tt;
    works = tt;
    fault = reading.by_file bytes read refuses;
    reads = reads-source (Err fault) into;
  }
  reads-pattern (Err fault) is (inr want) into = record {
    pattern = tt;
    works = tt;
    fault = reading.by_want want;
    reads = reads-source (Err fault) into;
  }

-- nothing comes of a source that isn't read to its end
pub unread : {X : Type 0} (items : X → List ℕ) (gives : List ℕ → List ℕ → Type 0) (refuses : List ℕ → Fault → Type 0) (source : SourceRun) (fault : Fault)
    → InputRefuses source fault ⊎ (fault ≡ fault_of Memory) → (source.failures ≡ 1 → fault.kind ≡ ReadFault)
    → ComesOf {A = X} items gives refuses source (Err fault)
unread items gives refuses source fault (inl input) reported = record { ok = tt; err = by_input input; reported = reported }
unread items gives refuses source fault (inr memory) reported = record { ok = tt; err = by_want (inl memory); reported = reported }
