-- What is said of arguments that can't be read, and the status that they end the program with. The project's own.
use Rattle.std.specs.Prelude.{◌≡◌, ◌≢◌, ◌⊎◌, ◌++◌, ℕ, List, codes}
use Rattle.std.specs.IoError.{error_kind}
use Rattle.std.specs.declared.io.Error.{Error}
use Rattle.std.specs.declared.io.ErrorKind.TheVariants.{OutOfMemory}
use Rattle.life_base.specs.Refusal.{fault_of}
use Rattle.life_base.specs.declared.kind.Kind.TheVariants as kinds
use Rattle.pattern_sources.specs.Faults.{fault_line, refusal_of, status_of}
use Rattle.golly_canon.specs.declared.arguments.Unreadable.{Unreadable}
use Rattle.golly_canon.specs.declared.arguments.Unreadable.TheVariants.{NoText, Memory}

-- what an error says that came where the arguments were read: that memory was refused, or that an argument isn't text
abbrev pub SaysUnreadable : Error → Unreadable → Type 0
SaysUnreadable error unreadable = ((error_kind error ≡ OutOfMemory) × (unreadable ≡ Memory)) ⊎ ((error_kind error ≢ OutOfMemory) × (unreadable ≡ NoText))

-- the line on standard error, in which `argument` is the first one that isn't text, as it is shown
abbrev pub unreadable_line : Unreadable → List ℕ → List ℕ
unreadable_line NoText argument = codes "error: an argument isn't UTF-8 text: " ++ (argument ++ codes "\n")
unreadable_line Memory _ = fault_line (refusal_of (fault_of kinds.Memory))

-- the status that the program ends with
abbrev pub unreadable_status : Unreadable → ℕ
unreadable_status NoText = 5
unreadable_status Memory = status_of kinds.Memory
