-- The phases of a pattern, and the text that all of them share. The form is this project's own; phases and periods are those of the field (LifeWiki, Phase,
-- Oscillator and Spaceship).
use Rattle.std.specs.Prelude.{◌≡◌, ℕ, ◌≤◌, ◌<◌, List}
use Rattle.life_base.specs.Sets.{OuterTotalistic}
use Rattle.life_base.specs.declared.rule.Rule.TheVariants.{Life}
use Rattle.life_leap.specs.After.{after}
use Rattle.life_phases.specs.Periods.{HasNoPeriodUpTo, IsLeastPeriod, LeavesFromMiddle}
use Rattle.life_phases.specs.declared.period.Period.{Period}
use Rattle.life_writer.specs.Lesser.{IsUpTo}
use Rattle.life_pattern.specs.Universe.{Universe}
use Rattle.life_forms.specs.Forms.{IsTurnedShift}
use Rattle.life_forms.specs.Images.{IsTurnedText}

-- the same pattern in generation 0
abbrev pub begun : Universe → Universe
begun u = record { rule = u.rule; generation = 0; cell = u.cell }

-- the pattern k generations later over all pairs of whole numbers, in generation 0
abbrev pub phase : OuterTotalistic → ℕ → Universe → Universe
phase rule k u = record { rule = u.rule; generation = 0; cell = after rule k u.cell }

-- The pattern has phases: those of its least period under its B/S rule, which is at most so many generations.
pub record HasPhases (most : ℕ) (u : Universe) (rule : OuterTotalistic) (period : Period) : Type 0 where
  pub under : u.rule ≡ Life rule
  pub within : period.generations ≤ most
  pub least : IsLeastPeriod rule u.cell period

-- it has none: its rule is a name, or it has no period up to so many generations
abbrev pub HasNoPhases : ℕ → Universe → Type 0
HasNoPhases most u = (rule : OuterTotalistic) → u.rule ≡ Life rule → HasNoPeriodUpTo rule u.cell most

-- the text is that of the turned form of one of the first `count` phases, and no greater than that of any of them
pub record IsLeastOfPhases (top : ℕ) (rule : OuterTotalistic) (count : ℕ) (u : Universe) (text : List ℕ) : Type 0 where
  pub number : ℕ
  pub below : number < count
  pub is : IsTurnedText top (phase rule number u) text
  pub least : (k : ℕ) (other : List ℕ) → k < count → IsTurnedText top (phase rule k u) other → IsUpTo text other

-- the text of a pattern for all its places, orientations and phases: the least text of its phases, or its own if it has none
pub data IsPhasesText (top most : ℕ) (u : Universe) (text : List ℕ) : Type 0 where
  of_phases : (rule : OuterTotalistic) (period : Period) → HasPhases most u rule period → IsLeastOfPhases top rule period.generations u text
      → IsPhasesText top most u text
  of_pattern : HasNoPhases most u → IsTurnedText top (begun u) text → IsPhasesText top most u text

-- Two patterns are one but for their places, orientations and phases: a turn and a shift take the first to the second, whatever their generations are; or the
-- first has phases, and a turn and a shift take the first so many generations later to the second.
pub data AreOfOneCourse (most : ℕ) (u v : Universe) : Type 0 where
  in_one_phase : IsTurnedShift (begun u) (begun v) → AreOfOneCourse most u v
  in_two_phases : (rule : OuterTotalistic) (period : Period) → HasPhases most u rule period → (n : ℕ) → IsTurnedShift (phase rule n u) (begun v)
      → AreOfOneCourse most u v

-- The pattern's period is sought, but not found: begun in the middle of the plane, the pattern leaves the plane in a generation up to `most`, before it is the
-- same again.
pub record LeavesUnderway (most : ℕ) (u : Universe) : Type 0 where
  pub rule : OuterTotalistic
  pub under : u.rule ≡ Life rule
  pub leaves : LeavesFromMiddle rule most u.cell
