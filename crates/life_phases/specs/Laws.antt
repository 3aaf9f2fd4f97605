-- The laws of periods.
use Rattle.std.specs.Prelude.{◌≡◌, ◌≢◌, ◌↔◌, ℕ, ℤ}
use Rattle.life_base.specs.Sets.{OuterTotalistic}
use Rattle.life_leap.specs.After.{after}
use Rattle.life_leap.specs.Edge.{IsPlaneCoordinate}
use Rattle.life_phases.specs.Middle.{IsMovedBy}
use Rattle.life_phases.specs.Periods.{HasPeriod, IsLeastPeriod}
use Rattle.life_phases.specs.declared.period.Period.{Period}

-- the generations of a shifted pattern are shifted as far
abbrev pub GenerationsKeepShifts : Type 0
GenerationsKeepShifts =
    (rule : OuterTotalistic) (n : ℕ) (columns rows : ℤ) (f g : ℤ → ℤ → ℕ)
    → IsMovedBy columns rows f g → IsMovedBy columns rows (after rule n f) (after rule n g)

-- a shifted pattern has the same periods
abbrev pub ShiftsKeepPeriods : Type 0
ShiftsKeepPeriods =
    (rule : OuterTotalistic) (n : ℕ) (a b columns rows : ℤ) (f g : ℤ → ℤ → ℕ)
    → IsMovedBy a b f g → HasPeriod rule f n columns rows ↔ HasPeriod rule g n columns rows

-- every cell that isn't 0 is on the plane
abbrev pub IsWithinPlane : (ℤ → ℤ → ℕ) → Type 0
IsWithinPlane cells = (x y : ℤ) → cells x y ≢ 0 → IsPlaneCoordinate x × IsPlaneCoordinate y

-- a pattern on the plane has at most one least period, and moves by one distance in it
abbrev pub PeriodsAreUnique : Type 0
PeriodsAreUnique =
    (rule : OuterTotalistic) (cells : ℤ → ℤ → ℕ) (p q : Period) → IsWithinPlane cells
    → IsLeastPeriod rule cells p → IsLeastPeriod rule cells q → p ≡ q
