-- The phases of a pattern under its B/S rule (LifeWiki, Phase): the pattern and its later generations, up to its least period. This project's own are that
-- each of them is taken in generation 0, up to which period there are any, and that no cell may leave the plane before the period is found.
use Rattle.std.specs.Prelude.{◌≡◌, ℕ, ◌≤◌, List, ℤ}
use Rattle.life_phases.specs.declared.period.Period.{Period}
use Rattle.claims.specs.Pattern.{Pattern}
use Rattle.claims.specs.Rules.{counting}
use Rattle.generation_theorems.specs.ManyGenerations.{claimed_life_after}
use Rattle.program_theorems.specs.Periods.{HasClaimedPeriod, IsClaimedLeastPeriod, LeavesFromClaimedMiddle}

-- the same pattern in generation 0
abbrev pub claimed_begun : Pattern → Pattern
claimed_begun p = record { rule = p.rule; generation = 0; cell = p.cell }

-- the pattern so many generations later over all pairs of whole numbers, in generation 0
abbrev pub claimed_phase : (neighbours : ℕ) → (births survivals : List ℕ) → ℕ → Pattern → Pattern
claimed_phase neighbours births survivals n p =
    record { rule = p.rule; generation = 0; cell = claimed_life_after neighbours births survivals n p.cell }

-- The pattern has phases: those of its least period under its B/S rule, which is at most so many generations.
pub record HasClaimedPhases (most : ℕ) (p : Pattern) (neighbours : ℕ) (births survivals : List ℕ) (period : Period) : Type 0 where
  pub under : p.rule ≡ counting neighbours births survivals
  pub within : period.generations ≤ most
  pub least : IsClaimedLeastPeriod neighbours births survivals p.cell period

-- it has none: its rule is a name, or it has no period of at most so many generations
abbrev pub HasNoClaimedPhases : ℕ → Pattern → Type 0
HasNoClaimedPhases most p =
    (neighbours : ℕ) (births survivals : List ℕ) → p.rule ≡ counting neighbours births survivals
    → (n : ℕ) (columns rows : ℤ) → n ≤ most → ¬ (HasClaimedPeriod neighbours births survivals p.cell n columns rows)

-- The pattern's period is sought, but not found: begun in the middle of the plane, the pattern leaves the plane in a generation up to `most`, before it is the
-- same again.
pub record LacksClaimedPhases (most : ℕ) (p : Pattern) : Type 0 where
  pub neighbours : ℕ
  pub births : List ℕ
  pub survivals : List ℕ
  pub under : p.rule ≡ counting neighbours births survivals
  pub leaves : LeavesFromClaimedMiddle neighbours births survivals most p.cell
