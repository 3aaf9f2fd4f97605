-- One generation by a rule table: which file a text is, and why there is none. What a cell becomes is of Golly Help, File Formats, "@TABLE". This
-- project's own are the limits and the order of the refusals, and that a step is refused where a cell outside the plane would not become 0.
use Rattle.std.specs.Prelude.{◌≡◌, ◌≢◌, ℕ, ◌-◌, ◌^◌, ◌≤◌, false, ◌&&◌, List, ℤ, ◌<ℤ◌, ◌⊎◌, Ok}
use Rattle.std.specs.Option.{unwrap_or}
use Rattle.life_base.specs.declared.fault.Fault.{Fault}
use Rattle.life_base.specs.declared.kind.Kind.TheVariants.{RuleMismatch, GenerationTooLarge, TooManyCells, StateBeyondTable, Ambiguous, OutOfPlane}
use Rattle.claims.specs.Rules.{named}
use Rattle.claims.specs.Table.{Table, becomes, ambiguous}
use Rattle.claims.specs.Files.{pattern_of, claimed_fault_of}
use Rattle.claims.specs.Canonical.{IsTextOfPattern}
use Rattle.claims.specs.Pattern.{Pattern, is_claimed_coordinate}
use Rattle.claims.specs.Generation.{HasMoreClaimedCells, decided_at, IsNextByTable}

-- the bytes are a file with a next pattern by the table, and the text is a file of that one, and its canonical text
pub record IsClaimedStepBy (table : Table) (bytes text : List ℕ) : Type 0 where
  pub now : Pattern
  pub next : Pattern
  pub now_is : pattern_of bytes ≡ Ok now
  pub next_is : pattern_of text ≡ Ok next
  pub is : IsNextByTable table now next
  pub canonical : IsTextOfPattern next text

-- a cell has none of the table's states
abbrev pub HasStateBeyond : Table → (ℤ → ℤ → ℕ) → Type 0
HasStateBeyond table cell = (x : ℤ) × (y : ℤ) × (unwrap_or table.n_states 0 ≤ cell x y)

-- the line that gives a cell two states: of the first such cell, row by row from the north, and in a row from the west
pub record IsFirstClaimedAmbiguous (table : Table) (cell : ℤ → ℤ → ℕ) (line : ℕ) : Type 0 where
  pub x : ℤ
  pub y : ℤ
  pub here : decided_at table cell x y ≡ ambiguous line
  pub before : (c r : ℤ) (other : ℕ) → (r <ℤ y) ⊎ ((r ≡ y) × (c <ℤ x)) → decided_at table cell c r ≡ ambiguous other → ⊥

-- a cell outside the plane would not become 0
abbrev pub LeavesPlaneBy : Table → (ℤ → ℤ → ℕ) → Type 0
LeavesPlaneBy table cell =
    (x : ℤ) × (y : ℤ) × (state : ℕ) × ((is_claimed_coordinate x && is_claimed_coordinate y) ≡ false) × (state ≢ 0) × (decided_at table cell x y ≡ becomes state)

-- Why a pattern has no next one by a table: the first of six reasons that holds. That of a line that gives a cell two states is the fault of this
-- line, and the others are the faults of none.
pub data IsFirstReasonBy (table : Table) (now : Pattern) : Fault → Type 0 where
  rule_differs : now.rule ≢ named table.name → IsFirstReasonBy table now (claimed_fault_of RuleMismatch)
  last_generation : now.rule ≡ named table.name → now.generation ≡ 2 ^ 64 - 1 → IsFirstReasonBy table now (claimed_fault_of GenerationTooLarge)
  many_cells : now.rule ≡ named table.name → now.generation ≢ 2 ^ 64 - 1 → HasMoreClaimedCells (2 ^ 20) now.cell
      → IsFirstReasonBy table now (claimed_fault_of TooManyCells)
  state_beyond : now.rule ≡ named table.name → now.generation ≢ 2 ^ 64 - 1 → (HasMoreClaimedCells (2 ^ 20) now.cell → ⊥) → HasStateBeyond table now.cell
      → IsFirstReasonBy table now (claimed_fault_of StateBeyondTable)
  two_states : now.rule ≡ named table.name → now.generation ≢ 2 ^ 64 - 1 → (HasMoreClaimedCells (2 ^ 20) now.cell → ⊥)
      → (HasStateBeyond table now.cell → ⊥) → (line : ℕ) → IsFirstClaimedAmbiguous table now.cell line
      → IsFirstReasonBy table now (record { place = record { line = line }; kind = Ambiguous })
  leaves_plane : now.rule ≡ named table.name → now.generation ≢ 2 ^ 64 - 1 → (HasMoreClaimedCells (2 ^ 20) now.cell → ⊥)
      → (HasStateBeyond table now.cell → ⊥) → ((x y : ℤ) (line : ℕ) → decided_at table now.cell x y ≡ ambiguous line → ⊥)
      → LeavesPlaneBy table now.cell → IsFirstReasonBy table now (claimed_fault_of OutOfPlane)

-- the bytes are a file of a pattern that has no next one by the table, for this reason
abbrev pub IsUnsteppedBy : Table → List ℕ → Fault → Type 0
IsUnsteppedBy table bytes fault = (now : Pattern) × (pattern_of bytes ≡ Ok now) × IsFirstReasonBy table now fault
