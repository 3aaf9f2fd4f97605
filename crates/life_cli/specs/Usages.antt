-- What is said of words that ask for nothing that can be done, and the status that it ends the program with. The project's own.
use Rattle.std.specs.Prelude.{ℕ, Bool, true, false, List, [], codes, if◌then◌else◌}
use Rattle.clap.specs.Words.{kind_of}
use Rattle.clap.specs.declared.error.kind.ErrorKind.{ErrorKind}
use Rattle.clap.specs.declared.error.kind.ErrorKind.TheVariants.{DisplayHelp, DisplayVersion, OutOfMemory}
use Rattle.life_base.specs.Refusal.{fault_of}
use Rattle.life_base.specs.declared.kind.Kind.TheVariants as kinds
use Rattle.pattern_sources.specs.Faults.{fault_line, refusal_of, status_of}
use Rattle.command_line.specs.declared.plans.Usage.{Usage}
use Rattle.command_line.specs.declared.plans.Usage.TheVariants.{Words, TwoInputs, Memory}

-- the text was asked for: help or the version, which go to standard output
abbrev pub is_asked : ErrorKind → Bool
is_asked DisplayHelp = true
is_asked DisplayVersion = true
is_asked _ = false

-- `clap` was out of memory, so that it has no text
abbrev pub is_out_of_memory : ErrorKind → Bool
is_out_of_memory OutOfMemory = true
is_out_of_memory _ = false

-- the line after a text of `clap`, where this tells whether all of the text was printed: that of a WriteFault where it was asked for and was not
-- printed, and else none
abbrev pub text_line : ErrorKind → Bool → List ℕ
text_line kind is_printed =
    if is_asked kind then (if is_printed then [] else fault_line (refusal_of (fault_of kinds.WriteFault))) else []

-- the same, and where `clap` was out of memory the line of a Memory
abbrev pub words_line : ErrorKind → Bool → List ℕ
words_line kind is_printed = if is_out_of_memory kind then fault_line (refusal_of (fault_of kinds.Memory)) else text_line kind is_printed

-- 5 for words at fault, whether or not their text was printed; 0 for a text that was asked for, and where it was not printed that of a WriteFault
abbrev pub text_status : ErrorKind → Bool → ℕ
text_status kind is_printed = if is_asked kind then (if is_printed then 0 else status_of kinds.WriteFault) else 5

-- the same, and where `clap` was out of memory that of a Memory
abbrev pub words_status : ErrorKind → Bool → ℕ
words_status kind is_printed = if is_out_of_memory kind then status_of kinds.Memory else text_status kind is_printed

-- what standard error gets besides the text of `clap`
abbrev pub usage_line : Usage → Bool → List ℕ
usage_line (Words error) is_printed = words_line (kind_of error) is_printed
usage_line TwoInputs is_printed = codes "TwoInputs\n"
usage_line Memory is_printed = fault_line (refusal_of (fault_of kinds.Memory))

-- the status that the words end the program with
abbrev pub usage_status : Usage → Bool → ℕ
usage_status (Words error) is_printed = words_status (kind_of error) is_printed
usage_status TwoInputs is_printed = 5
usage_status Memory is_printed = status_of kinds.Memory
