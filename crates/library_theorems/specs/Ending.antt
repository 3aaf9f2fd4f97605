-- What keeps the end of a stream from giving a text.
use Rattle.std.specs.Prelude.{◌⊎◌, ℕ, List}
use Rattle.life_base.specs.declared.fault.Fault.{Fault}
use Rattle.library_calls.specs.Outputs.{RefusesTextOf}
use Rattle.library_calls.specs.declared.texts.Output.{Output}
use Rattle.library_theorems.specs.Answered.{IsUnreadWithin}

-- why the end of a stream gives no text
abbrev pub IsEndFault : Output → ℕ → List ℕ → Fault → Type 0
IsEndFault output limit file fault = IsUnreadWithin limit file fault ⊎ RefusesTextOf output limit file fault
