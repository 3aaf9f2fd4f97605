-- What one call on a device does to its count of failures, and when a write stalls. The rules of this file are the project's own.
use Rattle.std.specs.Prelude.{◌≡◌, ◌==◌, ◌&&◌, ℕ, ◌+◌, Bool, true, false, not, List, Result, Ok, Err, MatchResult}
use Rattle.life_base.specs.Text.{is_empty}
use Rattle.life_base.specs.declared.kind.Kind.{Kind}

-- a call adds one failure exactly where it fails, and then answers this kind
abbrev pub CountsFailure : {A : Type 0} → ℕ → ℕ → Result A Kind → Kind → Type 0
CountsFailure old new r kind = MatchResult r (λ _. new ≡ old) (λ k. (new ≡ old + 1) × (k ≡ kind))

-- a flag as a count
abbrev pub flag_count : Bool → ℕ
flag_count true = 1
flag_count false = 0

-- a write that answers this took no byte of these
abbrev pub takes_none : {E : Type 0} → Result ℕ E → List ℕ → Bool
takes_none (Ok count) bytes = count == 0 && not (is_empty bytes)
takes_none (Err error) bytes = false
