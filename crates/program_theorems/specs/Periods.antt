-- The period of a pattern under its B/S rule (LifeWiki, Still life, Oscillator and Spaceship), and the line that says it. This project's own are the line, the
-- order of the refusals, and that no cell may leave the plane on the way (Golly's plane has no edge).
use Rattle.std.specs.Prelude.{◌≡◌, ◌==◌, ◌||◌, not, ℕ, ◌≤◌, ◌<◌, Bool, if◌then◌else◌, List, ◌++◌, ℤ, pos, negsuc, neg_ℤ, ◌+ℤ◌, ◌≤ℤ◌, Option, Some, None, Ok, codes, decimal}
use Rattle.std.specs.Fmt.{signed_decimal}
use Rattle.std.specs.Ordering.{int_eq}
use Rattle.life_base.specs.declared.bounds.Bounds.{Bounds}
use Rattle.life_base.specs.declared.fault.Fault.{Fault}
use Rattle.life_base.specs.declared.kind.Kind.TheVariants.{NeedsTable, OutOfPlane}
use Rattle.life_phases.specs.declared.middle.Shift.{Shift}
use Rattle.life_phases.specs.declared.period.Period.{Period}
use Rattle.claims.specs.Files.{pattern_of, claimed_fault_of}
use Rattle.claims.specs.Pattern.{Pattern}
use Rattle.claims.specs.Rules.{Rule, counting, named}
use Rattle.claims.specs.Shown.{IsClaimedBoundingBox, IsClaimedShown}
use Rattle.generation_theorems.specs.ManyGenerations.{claimed_life_after, LeavesClaimedPlaneWithin}

-- n generations later each cell is so many columns further east and rows further south
pub record HasClaimedPeriod (neighbours : ℕ) (births survivals : List ℕ) (cell : ℤ → ℤ → ℕ) (n : ℕ) (columns rows : ℤ) : Type 0 where
  pub some : 1 ≤ n
  pub moved : (x y : ℤ) → claimed_life_after neighbours births survivals n cell (x +ℤ columns) (y +ℤ rows) ≡ cell x y

-- the least period, and how far the pattern moves in it; a pattern without cells moves by nothing
pub record IsClaimedLeastPeriod (neighbours : ℕ) (births survivals : List ℕ) (cell : ℤ → ℤ → ℕ) (period : Period) : Type 0 where
  pub is : HasClaimedPeriod neighbours births survivals cell period.generations period.shift.columns period.shift.rows
  pub least : (n : ℕ) (columns rows : ℤ) → HasClaimedPeriod neighbours births survivals cell n columns rows → period.generations ≤ n
  pub still : ((x y : ℤ) → cell x y ≡ 0) → (period.shift.columns ≡ pos 0) × (period.shift.rows ≡ pos 0)

-- the least period under a rule, if there is one up to this number of generations; under a name, which has no next generation without a table, nothing is
abbrev pub IsClaimedPeriod : ℕ → Rule → (ℤ → ℤ → ℕ) → Option Period → Type 0
IsClaimedPeriod most (counting neighbours births survivals) cell None =
    (n : ℕ) (columns rows : ℤ) → n ≤ most → ¬ (HasClaimedPeriod neighbours births survivals cell n columns rows)
IsClaimedPeriod most (counting neighbours births survivals) cell (Some period) =
    (period.generations ≤ most) × IsClaimedLeastPeriod neighbours births survivals cell period
IsClaimedPeriod most (named name) cell answer = ⊥

-- in one of the generations up to `most` a cell outside the plane isn't 0, and before it the pattern is never the same again
pub record LeavesClaimedPlaneFirst (neighbours : ℕ) (births survivals : List ℕ) (most : ℕ) (cell : ℤ → ℤ → ℕ) : Type 0 where
  pub generation : ℕ
  pub within : generation ≤ most
  pub leaves : LeavesClaimedPlaneWithin neighbours births survivals generation cell
  pub none : (n : ℕ) (columns rows : ℤ) → n < generation → ¬ (HasClaimedPeriod neighbours births survivals cell n columns rows)

-- the cells, each so many columns further east and rows further south
abbrev pub claimed_moved : ℤ → ℤ → (ℤ → ℤ → ℕ) → ℤ → ℤ → ℕ
claimed_moved columns rows cell x y = cell (x +ℤ neg_ℤ columns) (y +ℤ neg_ℤ rows)

-- a side of a box with as many coordinates below 0 as from 0 on, or with one more from 0 on
abbrev pub IsClaimedMiddleSide : (low high : ℤ) → Type 0
IsClaimedMiddleSide low high = (negsuc 0 ≤ℤ (low +ℤ high)) × ((low +ℤ high) ≤ℤ pos 0)

-- the bounding box is in the middle of the plane
abbrev pub IsInClaimedMiddle : (ℤ → ℤ → ℕ) → Type 0
IsInClaimedMiddle cell =
    (box : Bounds) × IsClaimedBoundingBox cell box × IsClaimedMiddleSide box.left box.right × IsClaimedMiddleSide box.top box.bottom

-- the pattern, moved to the middle of the plane, leaves the plane on the way to `most`, before it is the same again
abbrev pub LeavesFromClaimedMiddle : ℕ → List ℕ → List ℕ → ℕ → (ℤ → ℤ → ℕ) → Type 0
LeavesFromClaimedMiddle neighbours births survivals most cell =
    (columns : ℤ) × (rows : ℤ) × IsInClaimedMiddle (claimed_moved columns rows cell)
    × LeavesClaimedPlaneFirst neighbours births survivals most (claimed_moved columns rows cell)

-- why the period up to `most` of a pattern isn't sought, or isn't found: the fault of no line
pub data IsPeriodReason (most : ℕ) (now : Pattern) : Fault → Type 0 where
  no_table_for_period : (name : List ℕ) → now.rule ≡ named name → IsPeriodReason most now (claimed_fault_of NeedsTable)
  leaves_from_middle : (neighbours : ℕ) (births survivals : List ℕ) → now.rule ≡ counting neighbours births survivals
      → LeavesFromClaimedMiddle neighbours births survivals most now.cell → IsPeriodReason most now (claimed_fault_of OutOfPlane)

-- the pattern isn't where it was
abbrev pub is_claimed_moving : Shift → Bool
is_claimed_moving shift = not (int_eq shift.columns (pos 0)) || not (int_eq shift.rows (pos 0))

-- what a pattern with this period is called; and how far it moves, if it does
abbrev pub claimed_kind_words : Period → List ℕ
claimed_kind_words period =
    if is_claimed_moving period.shift
    then codes " spaceship " ++ signed_decimal period.shift.columns ++ codes " " ++ signed_decimal period.shift.rows
    else (if period.generations == 1 then codes " still life" else codes " oscillator")

-- the line of a period, or where there is none up to `most`
abbrev pub claimed_period_line : ℕ → Option Period → List ℕ
claimed_period_line most None = codes "period none up to " ++ decimal most ++ codes "\n"
claimed_period_line most (Some period) = codes "period " ++ decimal period.generations ++ claimed_kind_words period ++ codes "\n"

-- the text tells the pattern, as without a period, and then its period up to `most`
pub record IsClaimedShownWithPeriod (most : ℕ) (pattern : Pattern) (nodes : ℕ) (text : List ℕ) : Type 0 where
  pub lines : List ℕ
  pub shown : IsClaimedShown pattern nodes lines
  pub answer : Option Period
  pub period : IsClaimedPeriod most pattern.rule pattern.cell answer
  pub no_reason : (fault : Fault) → IsPeriodReason most pattern fault → ⊥
  pub is : text ≡ lines ++ claimed_period_line most answer

-- the bytes are a file of a pattern whose period up to `most` isn't found, for this reason
abbrev pub HasNoClaimedPeriod : ℕ → List ℕ → Fault → Type 0
HasNoClaimedPeriod most bytes fault = (now : Pattern) × (pattern_of bytes ≡ Ok now) × IsPeriodReason most now fault
