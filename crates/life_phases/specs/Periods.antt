-- The period of a pattern under a B/S rule (LifeWiki, Oscillator, Spaceship and Still life): after so many generations the pattern is the same again, moved or
-- not. All of this is over all pairs of whole numbers.
use Rattle.std.specs.Prelude.{◌≡◌, ◌⊎◌, ℕ, ◌≤◌, ◌<◌, ℤ, pos, Option, Some, None}
use Rattle.life_base.specs.Refusal.{fault_of}
use Rattle.life_base.specs.Sets.{OuterTotalistic}
use Rattle.life_base.specs.declared.fault.Fault.{Fault}
use Rattle.life_base.specs.declared.kind.Kind.TheVariants as kinds
use Rattle.life_leap.specs.After.{after}
use Rattle.life_later.specs.Course.{LeavesWithin}
use Rattle.life_phases.specs.Middle.{IsInMiddle, IsMovedBy, moved_by}
use Rattle.life_phases.specs.declared.period.Period.{Period}

-- n generations later the pattern is the same, moved so many columns east and rows south
pub record HasPeriod (rule : OuterTotalistic) (cells : ℤ → ℤ → ℕ) (n : ℕ) (columns rows : ℤ) : Type 0 where
  pub some : 1 ≤ n
  pub moved : IsMovedBy columns rows cells (after rule n cells)

-- up to this number of generations it is never the same
abbrev pub HasNoPeriodUpTo : OuterTotalistic → (ℤ → ℤ → ℕ) → ℕ → Type 0
HasNoPeriodUpTo rule cells most = (n : ℕ) (columns rows : ℤ) → n ≤ most → ¬ (HasPeriod rule cells n columns rows)

-- The least period, and how far the pattern moves in it. A pattern without cells is every shift of itself: it moves by nothing.
pub record IsLeastPeriod (rule : OuterTotalistic) (cells : ℤ → ℤ → ℕ) (period : Period) : Type 0 where
  pub is : HasPeriod rule cells period.generations period.shift.columns period.shift.rows
  pub least : (n : ℕ) (columns rows : ℤ) → HasPeriod rule cells n columns rows → period.generations ≤ n
  pub still : ((x y : ℤ) → cells x y ≡ 0) → (period.shift.columns ≡ pos 0) × (period.shift.rows ≡ pos 0)

-- the least period, if there is one up to this number of generations
abbrev pub IsPeriodUpTo : OuterTotalistic → (ℤ → ℤ → ℕ) → ℕ → Option Period → Type 0
IsPeriodUpTo rule cells most None = HasNoPeriodUpTo rule cells most
IsPeriodUpTo rule cells most (Some period) = (period.generations ≤ most) × IsLeastPeriod rule cells period

-- the period of a pattern without cells: a still life has period 1, and moves by nothing
abbrev pub still_life : Period
still_life = record { generations = 1; shift = record { columns = pos 0; rows = pos 0 } }

-- in one of the generations up to `most` a cell outside the plane isn't 0, and in no generation before it the pattern is the same again
pub record LeavesFirst (rule : OuterTotalistic) (most : ℕ) (cells : ℤ → ℤ → ℕ) : Type 0 where
  pub generation : ℕ
  pub within : generation ≤ most
  pub leaves : LeavesWithin rule generation cells
  pub none : (n : ℕ) (columns rows : ℤ) → n < generation → ¬ (HasPeriod rule cells n columns rows)

-- so it is with the pattern, moved to the middle of the plane
pub record LeavesFromMiddle (rule : OuterTotalistic) (most : ℕ) (cells : ℤ → ℤ → ℕ) : Type 0 where
  pub columns : ℤ
  pub rows : ℤ
  pub middle : IsInMiddle (moved_by columns rows cells)
  pub leaves : LeavesFirst rule most (moved_by columns rows cells)

-- why the period of a pattern in the middle isn't found: memory ran out, a store is full, or a cell leaves the plane
abbrev pub IsFirstFault : OuterTotalistic → ℕ → (ℤ → ℤ → ℕ) → Fault → Type 0
IsFirstFault rule most cells fault =
    (fault ≡ fault_of kinds.Memory) ⊎ ((fault ≡ fault_of kinds.Full) ⊎ ((fault ≡ fault_of kinds.OutOfPlane) × LeavesFirst rule most cells))

-- the same of a pattern anywhere
abbrev pub IsPeriodFault : OuterTotalistic → ℕ → (ℤ → ℤ → ℕ) → Fault → Type 0
IsPeriodFault rule most cells fault =
    (fault ≡ fault_of kinds.Memory) ⊎ ((fault ≡ fault_of kinds.Full) ⊎ ((fault ≡ fault_of kinds.OutOfPlane) × LeavesFromMiddle rule most cells))
