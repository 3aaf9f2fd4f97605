-- What a call that reads a source to its end may leave, by its outcome. Of a device that doesn't tell its bytes these say nothing about bytes:
-- `bytes` is then any list.
use Rattle.std.specs.Prelude.{◌≡◌, ◌+◌, ◌<◌, ◌≤◌, ℕ, List, Option, length, Result, Err, IfOk, IfErr, OnOk, IsErrAnd}
use Rattle.std.specs.Io.KnownBytes.{Consumes}
use Rattle.life_base.specs.DeviceRuns.{SourceRun}
use Rattle.life_base.specs.Inputs.{ReadAll, CameBeyond}
use Rattle.life_base.specs.Refusal.{fault_of}
use Rattle.life_base.specs.declared.cell.TheConstants.{MAX_LEVEL}
use Rattle.life_base.specs.declared.fault.Fault.{Fault}
use Rattle.life_base.specs.declared.kind.Kind.TheVariants.{Full, ReadFault, InputTooLong}
use Rattle.life_quad.specs.Store.{Nodes, stored_squares}
use Rattle.life_pattern.specs.Files.{Refuses}
use Rattle.life_reader.specs.Needs.{LacksFor, LacksForPrefix}
use Rattle.life_reader.specs.Space.{AddsFile, HoldsFile, sufficient_for}
use Rattle.life_pattern.specs.Store.{Keeps, IsRead, IsShortageOf}
use Rattle.life_pattern.specs.declared.pattern.Pattern.{Pattern}

-- why nothing comes of an input: all of it was read and is no file; the store holds its limit, or memory was refused; too much came; or
-- the source failed
pub data ReadRefuses (top most : ℕ) (store : Nodes) (source : SourceRun) (fault : Fault) : Type 0 where
  by_file : (bytes : List ℕ) → ReadAll most source.before source.after bytes → Refuses top bytes fault → ReadRefuses top most store source fault
  by_want : IsShortageOf store fault → ReadRefuses top most store source fault
  by_length : fault ≡ fault_of InputTooLong → CameBeyond most source.before source.after → ReadRefuses top most store source fault
  by_source : fault ≡ fault_of ReadFault → source.failures ≡ 1 → ReadRefuses top most store source fault

-- The store lacks a square which the bytes need that were read: what was left to read before, without what is left now. It is one of the
-- lines that have ended, or, where all was read, of the file.
pub data LacksForRead (top most : ℕ) (store : Nodes) (source : SourceRun) : Type 0 where
  for_prefix : (bytes : List ℕ) → Consumes source.before source.after bytes → length bytes ≤ most → LacksForPrefix top bytes store
      → LacksForRead top most store source
  for_file : (bytes : List ℕ) → ReadAll most source.before source.after bytes → LacksFor top bytes store → LacksForRead top most store source

-- No square was stored but such as a prefix of the input needs: of what was left to read before.
pub record AddsForRead (input : Option (List ℕ)) (old new : Nodes) : Type 0 where
  pub bytes : List ℕ
  pub left : Option (List ℕ)
  pub came : Consumes input left bytes
  pub adds : AddsFile bytes old new

-- The limit of the store leaves less than the squares for the bytes that were read, beside the squares that it holds.
pub record IsTightForRead (most : ℕ) (store : Nodes) (source : SourceRun) : Type 0 where
  pub bytes : List ℕ
  pub came : Consumes source.before source.after bytes
  pub within : length bytes ≤ most
  pub tight : store.limit < length (stored_squares store) + sufficient_for (length bytes)

-- all was read, and the pattern is what was read
pub record HasRead (top most : ℕ) (store : Nodes) (source : SourceRun) (pattern : Pattern) : Type 0 where
  pub bytes : List ℕ
  pub read : ReadAll most source.before source.after bytes
  pub is : IsRead top bytes store pattern

-- all was read, and the store holds every square of the file that isn't blank
pub record HoldsRead (most : ℕ) (store : Nodes) (source : SourceRun) : Type 0 where
  pub bytes : List ℕ
  pub read : ReadAll most source.before source.after bytes
  pub all : HoldsFile bytes (stored_squares store)

-- What a call leaves that reads an input of at most so many bytes into the store: where it succeeds, the store holds every square of the file; a store
-- that gets full lacks a square which the bytes need that were read, and its limit left less than the squares for them; and a failure of the source is
-- reported.
pub record ReadsSource {A : Type 0} (most : ℕ) (old new : Nodes) (source : SourceRun) (result : Result A Fault) : Type 0 where
  pub all : OnOk result (HoldsRead most new source)
  pub needed : result ≡ Err (fault_of Full) → LacksForRead MAX_LEVEL most new source
  pub adds : AddsForRead source.before old new
  pub space : result ≡ Err (fault_of Full) → IsTightForRead most old source
  pub reported : source.failures ≡ 1 → IsErrAnd result (λ fault. fault.kind ≡ ReadFault)
  pub keeps : Keeps old new

-- the call answers the pattern of the input
pub record ReadsPattern (most : ℕ) (old new : Nodes) (source : SourceRun) (result : Result Pattern Fault) : Type 0 where
  pub pattern : IfOk result (HasRead MAX_LEVEL most new source)
  pub works : OnOk result (source.failures ≡ 0)
  pub fault : IfErr result (ReadRefuses MAX_LEVEL most new source)
  pub reads : ReadsSource most old new source result
