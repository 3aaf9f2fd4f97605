-- What a fault writes to standard error, and the status that it ends the program with.
use Rattle.std.specs.Prelude.{◌≡◌, ◌⊎◌, ◌==◌, ◌++◌, ℕ, Bool, true, false, List, [], codes, decimal, if◌then◌else◌}
use Rattle.std.specs.Io.KnownBytes.{Appends}
use Rattle.life_base.specs.DeviceRuns.{SinkRun}
use Rattle.life_base.specs.Kinds.{kind_name}
use Rattle.life_base.specs.Writing.{WritesPrefix}
use Rattle.life_base.specs.declared.fault.Fault.{Fault}
use Rattle.life_base.specs.declared.kind.Kind.{Kind}
use Rattle.life_table.specs.Reading.{is_table_kind}
use Rattle.pattern_sources.specs.declared.refusals.Refusal.{Refusal}
use Rattle.life_base.specs.declared.kind.Kind.TheVariants as kinds

-- A line of this kind of fault is one of a rule table: the kinds that only tables have, and a line that is too long where the table was
-- being read.
abbrev pub is_of_table : Bool → Kind → Bool
is_of_table in_table kinds.LineTooLong = in_table
is_of_table in_table kinds.Ambiguous = true
is_of_table in_table kind = is_table_kind kind

-- the word before a line's number
abbrev pub line_word : Bool → List ℕ
line_word of_table = if of_table then codes "table line " else codes "line "

-- the place of a fault line: nothing where the fault names no line
abbrev pub place_text : Bool → ℕ → List ℕ
place_text of_table line = if line == 0 then [] else line_word of_table ++ decimal line ++ codes ": "

-- the line that a refusal writes
abbrev pub fault_line : Refusal → List ℕ
fault_line refusal =
    place_text (is_of_table refusal.in_table refusal.fault.kind) refusal.fault.place.line ++ kind_name refusal.fault.kind ++ codes "\n"

-- the refusal with a fault of another file than a table or than the second of two, or of none, before any generation was made
abbrev pub refusal_of : Fault → Refusal
refusal_of fault = record { fault = fault; in_table = false; of_second = false; made = 0 }

-- the status that a fault ends the program with: 3 for devices, 4 because the store was full, else 2
abbrev pub status_of : Kind → ℕ
status_of kinds.ReadFault = 3
status_of kinds.WriteFault = 3
status_of kinds.Full = 4
status_of kinds.Memory = 4
status_of _ = 2

-- the text was written, or a prefix of it where the sink failed or took no bytes
abbrev pub Reports : SinkRun → List ℕ → Type 0
Reports output text = Appends output.before output.after text
    ⊎ (WritesPrefix output.before output.after text × ((output.failures ≡ 1) ⊎ (output.stalled ≡ true)))
