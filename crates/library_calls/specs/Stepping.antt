-- What the steps of a pattern tell.
use Rattle.std.specs.Prelude.{◌≡◌, ◌⊎◌, ℕ, List, Some}
use Rattle.life_base.specs.Refusal.{OrMemory, fault_of}
use Rattle.life_base.specs.Text.{lines_of}
use Rattle.life_base.specs.declared.cell.TheConstants.{MAX_LEVEL}
use Rattle.life_base.specs.declared.fault.Fault.{Fault}
use Rattle.life_base.specs.declared.kind.Kind.TheVariants.{Full, Memory}
use Rattle.life_pattern.specs.Files.{Reads, Refuses}
use Rattle.life_pattern.specs.Universe.{Universe}
use Rattle.life_table.specs.Grammar.{IsPlainTable}
use Rattle.life_table.specs.Reading.{RefusesTable}
use Rattle.life_table.specs.declared.table.Table.{Table}
use Rattle.life_step.specs.Refusals.{LifeRefusal, SomeOfStep, SomeOfStepBy, TableRefusal}
use Rattle.life_step.specs.Stepped.{IsSteppedBy}
use Rattle.life_generations.specs.Later.{LaterRefusal}
use Rattle.library_calls.specs.Reported.{Reported, ReturnsFault, Returns}
use Rattle.library_calls.specs.Texts.{NeedsMore, IsLimitShortage}

-- Why bytes aren't stepped under their own rule: they are no file, or the store is full or memory is refused, or their pattern has no next generation. The
-- squares
-- of that generation are bounded by no length of a file, and so the limit isn't either.
abbrev pub RefusesStepWithin : ℕ → List ℕ → Fault → Type 0
RefusesStepWithin limit bytes fault =
    Refuses MAX_LEVEL bytes fault
    ⊎ (IsLimitShortage (NeedsMore (λ P. SomeOfStep P bytes)) limit fault ⊎ ((u : Universe) × Reads MAX_LEVEL bytes u × LifeRefusal MAX_LEVEL u (Some fault)))

-- the same by a table
abbrev pub RefusesStepByWithin : Table → ℕ → List ℕ → Fault → Type 0
RefusesStepByWithin table limit bytes fault =
    Refuses MAX_LEVEL bytes fault
    ⊎ (IsLimitShortage (NeedsMore (λ P. SomeOfStepBy P table bytes)) limit fault ⊎
    ((u : Universe) × Reads MAX_LEVEL bytes u × TableRefusal MAX_LEVEL table u (Some fault)))

-- Why bytes aren't advanced by n generations under their own rule: they are no file, or the store is full or memory is refused, or their pattern has no such
-- generation.
-- (No length of a file bounds how many squares are stored on the way, and so the store may be full with any limit.)
abbrev pub RefusesLater : ℕ → List ℕ → Fault → Type 0
RefusesLater n bytes fault =
    Refuses MAX_LEVEL bytes fault
    ⊎ (((fault ≡ fault_of Full) ⊎ (fault ≡ fault_of Memory)) ⊎ ((u : Universe) × Reads MAX_LEVEL bytes u × LaterRefusal n u (Some fault)))

-- The file of the table is one, and the step by it is reported; or the fault of the table's file is reported.
pub data StepsByTable (limit : ℕ) (bytes table_bytes : List ℕ) (in_table : ℕ) (before after : List ℕ) (it : Reported) : Type 0 where
  by_table : (table : Table) → IsPlainTable (lines_of table_bytes) table → in_table ≡ 0
      → Returns (IsSteppedBy table bytes) (RefusesStepByWithin table limit bytes) before after it
      → StepsByTable limit bytes table_bytes in_table before after it
  by_no_table : (fault : Fault) → OrMemory fault (RefusesTable (lines_of table_bytes) fault) → in_table ≡ 1 → ReturnsFault fault before after it
      → StepsByTable limit bytes table_bytes in_table before after it
