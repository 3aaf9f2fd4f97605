-- Many generations of a pattern under its B/S rule (Golly Help, QuickLife), and why they are refused. The order of the refusals, and that no cell may
-- leave the plane on the way, are this project's own.
use Rattle.std.specs.Prelude.{◌≡◌, ℕ, ◌+◌, ◌^◌, ◌≤◌, List, ℤ, Option, Some, None}
use Rattle.life_base.specs.Refusal.{fault_of}
use Rattle.life_base.specs.declared.cell.TheConstants.{MAX_LEVEL}
use Rattle.life_base.specs.declared.fault.Fault.{Fault}
use Rattle.life_base.specs.declared.kind.Kind.TheVariants as kinds
use Rattle.life_base.specs.declared.rule.Rule.{Rule}
use Rattle.life_base.specs.declared.rule.Rule.TheVariants.{Life, Named}
use Rattle.life_sweep.specs.Refused.{IfElse}
use Rattle.life_pattern.specs.Files.{Reads}
use Rattle.life_pattern.specs.Universe.{Universe}
use Rattle.life_leap.specs.After.{after}
use Rattle.life_later.specs.Course.{LeavesWithin}
use Rattle.life_step.specs.Stepped.{IsTextWith}

-- the state of a cell n generations later; under a name, which has no next generation without a table, only the state now
abbrev pub IsStateAfter : ℕ → Rule → (ℤ → ℤ → ℕ) → ℤ → ℤ → ℕ → Type 0
IsStateAfter n (Life rule) cell x y state = state ≡ after rule n cell x y
IsStateAfter n (Named name) cell x y state = (n ≡ 0) × (state ≡ cell x y)

-- the pattern n generations later
pub record IsLaterBy (n : ℕ) (before later : Universe) : Type 0 where
  pub same_rule : later.rule ≡ before.rule
  pub generation : later.generation ≡ before.generation + n
  pub cells : (x y : ℤ) → IsStateAfter n before.rule before.cell x y (later.cell x y)

-- why a pattern under this rule isn't advanced by n generations without a table, if it isn't
abbrev pub LaterRuleRefusal : ℕ → Rule → Universe → Option Fault → Type 0
LaterRuleRefusal n (Named name) u refusal = IfElse (n ≡ 0) (refusal ≡ None) (refusal ≡ Some (fault_of kinds.NeedsTable))
LaterRuleRefusal n (Life rule) u refusal =
    IfElse (2 ^ 64 ≤ u.generation + n) (refusal ≡ Some (fault_of kinds.GenerationTooLarge))
    (IfElse (LeavesWithin rule n u.cell) (refusal ≡ Some (fault_of kinds.OutOfPlane)) (refusal ≡ None))

abbrev pub LaterRefusal : ℕ → Universe → Option Fault → Type 0
LaterRefusal n u refusal = LaterRuleRefusal n u.rule u refusal

-- the bytes are a file whose pattern can be advanced by n generations under its B/S rule, and the text is the canonical text of that generation
abbrev pub IsTextLater : ℕ → List ℕ → List ℕ → Type 0
IsTextLater n bytes text = (u : Universe) × Reads MAX_LEVEL bytes u × LaterRefusal n u None × IsTextWith MAX_LEVEL (IsLaterBy n u) text
