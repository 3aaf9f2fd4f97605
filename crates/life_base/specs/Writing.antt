-- What a sink holds after a text was written to it, where it tells its bytes (of another sink these say nothing), and what else a call that
-- writes leaves of it. The project's own.
use Rattle.std.specs.Prelude.{◌≡◌, ◌⊎◌, ◌≤◌, ℕ, Bool, true, List, Option, Result, MatchResult, OnOk, OnErr, IfErr, take, length}
use Rattle.std.specs.Io.KnownBytes.{Appends}
use Rattle.life_base.specs.declared.kind.Kind.{Kind}
use Rattle.life_base.specs.declared.kind.Kind.TheVariants.{WriteFault}

-- a prefix of the text was written
pub record WritesPrefix (old new : Option (List ℕ)) (text : List ℕ) : Type 0 where
  pub count : ℕ
  pub within : count ≤ length text
  pub written : Appends old new (take count text)

-- at Ok the text was written, and else a prefix of it
abbrev pub WritesText : {E : Type 0} → Option (List ℕ) → Option (List ℕ) → List ℕ → Result (Unit {0}) E → Type 0
WritesText old new text r = MatchResult r (λ _. Appends old new text) (λ _. WritesPrefix old new text)

-- What a call that writes leaves of its sink, and why it is refused: of a sink that was `old` and is `new`, by the ghost members of its type,
-- where the call answers `result`
pub record LeavesSink {W A : Type 0} (failures : W → ℕ) (has_stalled : W → Bool) (old new : W) (result : Result A Kind) : Type 0 where
  -- at Ok no call on the sink has failed
  pub works : OnOk result (failures new ≡ 0)
  -- the only refusal
  pub kind : IfErr result (λ kind. kind ≡ WriteFault)
  -- at a refusal the sink has failed, or it has stalled
  pub cause : OnErr result ((failures new ≡ 1) ⊎ (has_stalled new ≡ true))
  -- at Ok it has stalled exactly if it had before
  pub stalled : OnOk result (has_stalled new ≡ has_stalled old)
  -- and so has a sink that failed
  pub failed : failures new ≡ 1 → has_stalled new ≡ has_stalled old
