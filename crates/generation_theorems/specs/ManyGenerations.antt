-- Many generations of a pattern under its B/S rule, of which each cell gets its next state from the one before (Golly Help, QuickLife). This project's own
-- are the order of the refusals, and that no cell outside the plane may get a state other than 0 on the way (Golly's plane has no edge).
use Rattle.std.specs.Prelude.{◌≡◌, ◌≢◌, ℕ, zero, suc, ◌+◌, ◌^◌, ◌<◌, ◌≤◌, List, ℤ, Ok}
use Rattle.life_base.specs.declared.fault.Fault.{Fault}
use Rattle.life_base.specs.declared.kind.Kind.TheVariants.{NeedsTable, GenerationTooLarge, OutOfPlane}
use Rattle.claims.specs.Canonical.{IsTextOfPattern}
use Rattle.claims.specs.Files.{pattern_of, claimed_fault_of}
use Rattle.claims.specs.Generation.{claimed_next_life, LeavesClaimedPlane}
use Rattle.claims.specs.Pattern.{Pattern}
use Rattle.claims.specs.Rules.{Rule, counting, named}

-- the states of all cells n generations later
unfoldable pub claimed_life_after : ℕ → List ℕ → List ℕ → ℕ → (ℤ → ℤ → ℕ) → ℤ → ℤ → ℕ
claimed_life_after neighbours births survivals zero cell = cell
claimed_life_after neighbours births survivals (suc n) cell =
    claimed_next_life neighbours births survivals (claimed_life_after neighbours births survivals n cell)

-- in one of the generations 1 to n a cell outside the plane isn't 0
abbrev pub LeavesClaimedPlaneWithin : ℕ → List ℕ → List ℕ → ℕ → (ℤ → ℤ → ℕ) → Type 0
LeavesClaimedPlaneWithin neighbours births survivals n cell =
    (m : ℕ) × (1 ≤ m) × (m ≤ n) × LeavesClaimedPlane (claimed_life_after neighbours births survivals m cell)

-- the state of a cell n generations later; under a name, which has no next generation without a table, only the state now
abbrev pub IsClaimedStateAfter : ℕ → Rule → (ℤ → ℤ → ℕ) → ℤ → ℤ → ℕ → Type 0
IsClaimedStateAfter n (counting neighbours births survivals) cell x y state = state ≡ claimed_life_after neighbours births survivals n cell x y
IsClaimedStateAfter n (named name) cell x y state = (n ≡ 0) × (state ≡ cell x y)

-- why a pattern isn't advanced by n generations under its rule without a table: the first of three reasons that holds, which is the fault of no line
pub data IsFirstReasonWithin (n : ℕ) (now : Pattern) : Fault → Type 0 where
  no_table_for : (name : List ℕ) → now.rule ≡ named name → n ≢ 0 → IsFirstReasonWithin n now (claimed_fault_of NeedsTable)
  beyond_last_generation : (neighbours : ℕ) (births survivals : List ℕ) → now.rule ≡ counting neighbours births survivals → 2 ^ 64 ≤ now.generation + n
      → IsFirstReasonWithin n now (claimed_fault_of GenerationTooLarge)
  leaves_plane_within : (neighbours : ℕ) (births survivals : List ℕ) → now.rule ≡ counting neighbours births survivals → now.generation + n < 2 ^ 64
      → LeavesClaimedPlaneWithin neighbours births survivals n now.cell → IsFirstReasonWithin n now (claimed_fault_of OutOfPlane)

-- a pattern can be advanced by n generations under its rule: none of the reasons against it holds, and each cell of the plane and outside it has its state
-- of that generation
pub record IsClaimedLater (n : ℕ) (now later : Pattern) : Type 0 where
  pub same_rule : later.rule ≡ now.rule
  pub generation : later.generation ≡ now.generation + n
  pub cells : (x y : ℤ) → IsClaimedStateAfter n now.rule now.cell x y (later.cell x y)
  pub no_reason : (fault : Fault) → IsFirstReasonWithin n now fault → ⊥

-- the bytes are a file whose pattern can be advanced by n generations under its B/S rule, and the text is a file of that generation, and its canonical text
pub record IsClaimedTextLater (n : ℕ) (bytes text : List ℕ) : Type 0 where
  pub now : Pattern
  pub later : Pattern
  pub now_is : pattern_of bytes ≡ Ok now
  pub later_is : pattern_of text ≡ Ok later
  pub is : IsClaimedLater n now later
  pub canonical : IsTextOfPattern later text

-- the bytes are a file of a pattern that isn't advanced by n generations under its rule without a table, for this reason
abbrev pub IsNotAdvanced : ℕ → List ℕ → Fault → Type 0
IsNotAdvanced n bytes fault = (now : Pattern) × (pattern_of bytes ≡ Ok now) × IsFirstReasonWithin n now fault
