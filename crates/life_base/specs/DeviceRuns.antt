-- What a source and a sink were and are, before and after what a call did with them. The project's own.
use Rattle.std.specs.Prelude.{ℕ, Bool, List, Option, option_and_then}
use Rattle.std.specs.Option.{option_map_or}

-- a source: the bytes that were left to read before and after, where it tells them, and how many of its calls have failed
pub record SourceRun : Type 0 where
  pub before : Option (List ℕ)
  pub after : Option (List ℕ)
  pub failures : ℕ

-- a sink: the bytes that it held before and after, where it tells them, how many of its calls have failed, and whether a write took none
-- of the bytes that it was given
pub record SinkRun : Type 0 where
  pub before : Option (List ℕ)
  pub after : Option (List ℕ)
  pub failures : ℕ
  pub stalled : Bool

-- a source that was `old` and is `new`, by its ghost members
abbrev pub source_run : {R : Type 0} → (R → Option (List ℕ)) → (R → ℕ) → R → R → SourceRun
source_run remaining failures old new = record { before = remaining old; after = remaining new; failures = failures new }

-- the same of a source that may be absent: it has no bytes that it tells, and has not failed
abbrev pub optional_source_run : {R : Type 0} → (R → Option (List ℕ)) → (R → ℕ) → Option R → Option R → SourceRun
optional_source_run remaining failures old new =
    record { before = option_and_then remaining old; after = option_and_then remaining new; failures = option_map_or failures new 0 }

-- a sink that was `old` and is `new`, by its ghost members
abbrev pub sink_run : {W : Type 0} → (W → Option (List ℕ)) → (W → ℕ) → (W → Bool) → W → W → SinkRun
sink_run contents failures stalled old new =
    record { before = contents old; after = contents new; failures = failures new; stalled = stalled new }
