-- The period of the pattern of a file under its own B/S rule, and why it isn't found. The order of the refusals is this project's own.
use Rattle.std.specs.Prelude.{◌≡◌, ◌⊎◌, ℕ, List, ◌++◌, ℤ, Option, Some, None}
use Rattle.life_base.specs.Refusal.{fault_of}
use Rattle.life_base.specs.declared.cell.TheConstants.{MAX_LEVEL}
use Rattle.life_base.specs.declared.fault.Fault.{Fault}
use Rattle.life_base.specs.declared.kind.Kind.TheVariants as kinds
use Rattle.life_base.specs.declared.rule.Rule.{Rule}
use Rattle.life_base.specs.declared.rule.Rule.TheVariants.{Life, Named}
use Rattle.life_quad.specs.Store.{Nodes}
use Rattle.life_sweep.specs.Refused.{IfElse}
use Rattle.life_pattern.specs.Files.{Reads, Refuses}
use Rattle.life_pattern.specs.Store.{ForEachFile}
use Rattle.life_writer.specs.Texts.{IsShownText}
use Rattle.life_pattern.specs.Universe.{Universe}
use Rattle.life_pattern.specs.declared.pattern.Pattern.{Pattern}
use Rattle.life_phases.specs.Periods.{IsPeriodUpTo, LeavesFromMiddle}
use Rattle.life_phases.specs.declared.period.Period.{Period}
use Rattle.life_periods.specs.Line.{period_line}

-- the least period under a rule, if there is one up to this number of generations; under a name, which has no next generation without a table, nothing is
abbrev pub IsPeriodUnder : ℕ → Rule → (ℤ → ℤ → ℕ) → Option Period → Type 0
IsPeriodUnder most (Life rule) cell answer = IsPeriodUpTo rule cell most answer
IsPeriodUnder most (Named name) cell answer = ⊥

-- why the period of a pattern under this rule isn't found, if it isn't
abbrev pub PeriodRuleRefusal : ℕ → Rule → Universe → Option Fault → Type 0
PeriodRuleRefusal most (Named name) u refusal = refusal ≡ Some (fault_of kinds.NeedsTable)
PeriodRuleRefusal most (Life rule) u refusal =
    IfElse (LeavesFromMiddle rule most u.cell) (refusal ≡ Some (fault_of kinds.OutOfPlane)) (refusal ≡ None)

abbrev pub PeriodRefusal : ℕ → Universe → Option Fault → Type 0
PeriodRefusal most u refusal = PeriodRuleRefusal most u.rule u refusal

-- the bytes are a file whose pattern has this period, or none up to `most`
abbrev pub IsPeriodOfFile : ℕ → List ℕ → Option Period → Type 0
IsPeriodOfFile most bytes answer = (u : Universe) × Reads MAX_LEVEL bytes u × PeriodRefusal most u None × IsPeriodUnder most u.rule u.cell answer

-- the bytes are a file, and the text is its five lines and the line of its period up to `most`
pub record IsShownWithPeriod (most : ℕ) (bytes text : List ℕ) : Type 0 where
  pub lines : List ℕ
  pub shown : IsShownText MAX_LEVEL bytes lines
  pub answer : Option Period
  pub period : IsPeriodOfFile most bytes answer
  pub is : text ≡ lines ++ period_line most answer

-- memory ran out, or a store is full
abbrev pub IsWantFault : Fault → Type 0
IsWantFault fault = (fault ≡ fault_of kinds.Memory) ⊎ (fault ≡ fault_of kinds.Full)

-- the bytes are a file whose pattern is refused for this
abbrev pub RefusesPeriodOf : ℕ → List ℕ → Fault → Type 0
RefusesPeriodOf most bytes fault = (u : Universe) × Reads MAX_LEVEL bytes u × PeriodRefusal most u (Some fault)

-- why the period of a pattern in a store isn't found
abbrev pub RefusesPeriod : ℕ → Nodes → Pattern → Fault → Type 0
RefusesPeriod most store pattern fault = IsWantFault fault ⊎ ForEachFile store pattern (λ bytes. RefusesPeriodOf most bytes fault)

-- why that of the pattern of a file isn't: the bytes are no file, or one of these
abbrev pub RefusesPeriodOfFile : ℕ → List ℕ → Fault → Type 0
RefusesPeriodOfFile most bytes fault = Refuses MAX_LEVEL bytes fault ⊎ (IsWantFault fault ⊎ RefusesPeriodOf most bytes fault)

-- a file has one answer up to a greatest period
abbrev pub FilesHaveOnePeriod : Type 0
FilesHaveOnePeriod =
    (most : ℕ) (bytes : List ℕ) (a b : Option Period) → IsPeriodOfFile most bytes a → IsPeriodOfFile most bytes b → a ≡ b
