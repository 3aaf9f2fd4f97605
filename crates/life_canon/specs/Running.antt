-- What a run from a source to a sink may leave, by its outcome. Of a device that doesn't tell its bytes these say nothing about bytes:
-- `bytes` is then any list.
use Rattle.std.specs.Prelude.{◌≡◌, ◌⊎◌, ℕ, Bool, true, false, List, Result, IfErr, OnOk, IsErrAnd}
use Rattle.std.specs.Io.KnownBytes.{Appends}
use Rattle.life_base.specs.DeviceRuns.{SourceRun, SinkRun}
use Rattle.life_base.specs.Inputs.{ReadAll}
use Rattle.life_base.specs.Refusal.{fault_of}
use Rattle.life_base.specs.Writing.{WritesPrefix}
use Rattle.life_base.specs.declared.cell.TheConstants.{MAX_LEVEL}
use Rattle.life_base.specs.declared.fault.Fault.{Fault}
use Rattle.life_base.specs.declared.kind.Kind.TheVariants.{WriteFault}
use Rattle.life_quad.specs.Store.{Nodes}
use Rattle.life_writer.specs.Texts.{IsCanonical}
use Rattle.life_reader.specs.Reading.{ReadRefuses, ReadsSource}

-- neither a source nor a sink has failed, by the ghost members that count their failures, and the sink takes what is written
abbrev pub AreWorking : {R W : Type 0} → (R → ℕ) → (W → ℕ) → (W → Bool) → R → W → Type 0
AreWorking reads_failed writes_failed stalled source sink = (reads_failed source ≡ 0) × (writes_failed sink ≡ 0) × (stalled sink ≡ false)

-- all was read, and the canonical text of what was read was written as `IsWritten` says
pub record Wrote (top most : ℕ) (source : SourceRun) (IsWritten : List ℕ → Type 0) : Type 0 where
  pub bytes : List ℕ
  pub text : List ℕ
  pub read : ReadAll most source.before source.after bytes
  pub canonical : IsCanonical top bytes text
  pub written : IsWritten text

-- that text was written, and nothing else
abbrev pub Ran : ℕ → ℕ → SourceRun → SinkRun → Type 0
Ran top most source sink = Wrote top most source (Appends sink.before sink.after)

-- a prefix of that text was written, and the sink failed or took no bytes
pub record Broke (top most : ℕ) (source : SourceRun) (sink : SinkRun) : Type 0 where
  pub wrote : Wrote top most source (WritesPrefix sink.before sink.after)
  pub cause : (sink.failures ≡ 1) ⊎ (sink.stalled ≡ true)

-- why a run is refused: nothing came of the input, or its text could not be written
pub data RunRefuses (top most : ℕ) (store : Nodes) (source : SourceRun) (sink : SinkRun) (fault : Fault) : Type 0 where
  by_reading : ReadRefuses top most store source fault → RunRefuses top most store source sink fault
  by_writing : fault ≡ fault_of WriteFault → Broke top most source sink → RunRefuses top most store source sink fault

-- the call writes the canonical text of the input
pub record RunsCanon {A : Type 0} (most : ℕ) (old new : Nodes) (source : SourceRun) (sink : SinkRun) (result : Result A Fault) : Type 0 where
  pub ok : OnOk result (Ran MAX_LEVEL most source sink)
  pub err : IfErr result (RunRefuses MAX_LEVEL most new source sink)
  pub reads : ReadsSource most old new source result
  pub write_reported : (sink.failures ≡ 1) ⊎ (sink.stalled ≡ true) → IsErrAnd result (λ fault. fault.kind ≡ WriteFault)
