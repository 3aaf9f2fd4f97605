-- What a call tells a program in C: a status, numbers, and bytes in the memory that the caller handed over, which stand there before and after it.
use Rattle.std.specs.Prelude.{◌≡◌, ◌⊎◌, ◌++◌, ◌<◌, ◌≤◌, ℕ, List, length, drop}
use Rattle.life_base.specs.Kinds.{kind_number}
use Rattle.life_base.specs.declared.fault.Fault.{Fault}
pub use Rattle.library_calls.specs.declared.reported.Reported.{Reported}

-- the status, the length and the line that are reported
abbrev pub reply : (status needed line : ℕ) → Reported
reply status needed line = record { status = status; needed = needed; line = line }

-- the text is at the beginning of the memory, and the bytes after it are as they were
pub record Copies (text before after : List ℕ) (it : Reported) : Type 0 where
  pub status : it.status ≡ 0
  pub fits : length text ≤ length before
  pub copied : after ≡ text ++ drop (length text) before

-- the text is longer than the memory, where no byte was written
pub record LacksTextSpace (text before after : List ℕ) (it : Reported) : Type 0 where
  pub status : it.status ≡ 64
  pub long : length before < length text
  pub kept : after ≡ before

-- the text's length is reported, and the text where it fits
abbrev pub ReturnsText : (text before after : List ℕ) → Reported → Type 0
ReturnsText text before after it = (it.needed ≡ length text) × (Copies text before after it ⊎ LacksTextSpace text before after it)

-- the fault's number and line are reported, and no byte was written
pub record ReturnsFault (fault : Fault) (before after : List ℕ) (it : Reported) : Type 0 where
  pub status : it.status ≡ kind_number fault.kind
  pub line : it.line ≡ fault.place.line
  pub needed : it.needed ≡ 0
  pub kept : after ≡ before

-- what a call answers: such a text, or such a fault
pub data Returns (IsText : List ℕ → Type 0) (IsFault : Fault → Type 0) (before after : List ℕ) (it : Reported) : Type 0 where
  by_text : (text : List ℕ) → IsText text → ReturnsText text before after it → it.line ≡ 0 → Returns IsText IsFault before after it
  by_fault : (fault : Fault) → IsFault fault → ReturnsFault fault before after it → Returns IsText IsFault before after it
