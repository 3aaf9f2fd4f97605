-- What the program tells of a fault. All of it is this project's own.
use Rattle.std.specs.Prelude.{ℕ, ◌==◌, Bool, List, [], ◌++◌, codes, decimal, if◌then◌else◌}
use Rattle.life_base.specs.Kinds.{kind_name}
use Rattle.life_base.specs.declared.fault.Fault.{Fault}
use Rattle.life_base.specs.declared.kind.Kind.{Kind}
use Rattle.life_base.specs.declared.kind.Kind.TheVariants.{ReadFault, WriteFault, Full, Memory}

-- the status with which a fault ends the program: 3 for devices, 4 for a full store or refused memory, and else 2
abbrev pub claimed_status_of : Kind → ℕ
claimed_status_of ReadFault = 3
claimed_status_of WriteFault = 3
claimed_status_of Full = 4
claimed_status_of Memory = 4
claimed_status_of _ = 2

-- the line of a fault: before the name of its kind its place, where it has one, in a rule table or in a pattern file
abbrev pub claimed_fault_line : Bool → Fault → List ℕ
claimed_fault_line of_table fault =
    (if fault.place.line == 0 then [] else (if of_table then codes "table line " else codes "line ") ++ decimal fault.place.line ++ codes ": ")
    ++ kind_name fault.kind ++ codes "\n"
