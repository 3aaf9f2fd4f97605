-- One generation. What a cell becomes is of Golly Help, by a B/S rule in QuickLife and by a table in File Formats, "@TABLE". This project's own are
-- the limits and the order of the refusals, and that a step is refused where a cell outside the plane would not become 0 (Golly's plane has no edge).
use Rattle.std.specs.Prelude.{◌≡◌, ◌≢◌, ℕ, ◌+◌, ◌-◌, ◌^◌, ◌<◌, false, ◌&&◌, List, [], ◌∷◌, ◌==◌, length, if◌then◌else◌, ℤ, pos, negsuc, ◌+ℤ◌, count_by, Contains, AllPairs, ◌<ℤ◌, ◌⊎◌, Ok}
use Rattle.std.specs.List.{list_any}
use Rattle.std.specs.Option.{unwrap_or}
use Rattle.life_base.specs.declared.cell.Cell.{Cell}
use Rattle.life_base.specs.declared.fault.Fault.{Fault}
use Rattle.life_base.specs.declared.kind.Kind.TheVariants.{NeedsTable, GenerationTooLarge, TooManyCells, OutOfPlane}
use Rattle.claims.specs.Rules.{counting, named}
use Rattle.claims.specs.Table.{Table, ClaimedAnswer, becomes, claimed_decision}
use Rattle.claims.specs.Files.{pattern_of, claimed_fault_of}
use Rattle.claims.specs.Canonical.{IsTextOfPattern}
use Rattle.claims.specs.Pattern.{Pattern, is_claimed_coordinate}

-- the states of the neighbours of a cell from north clockwise, of four or of eight
abbrev pub claimed_four_around : (ℤ → ℤ → ℕ) → ℤ → ℤ → List ℕ
claimed_four_around cell x y = cell x (y +ℤ negsuc 0) ∷ cell (x +ℤ pos 1) y ∷ cell x (y +ℤ pos 1) ∷ cell (x +ℤ negsuc 0) y ∷ []

abbrev pub claimed_eight_around : (ℤ → ℤ → ℕ) → ℤ → ℤ → List ℕ
claimed_eight_around cell x y =
    let north = y +ℤ negsuc 0 in
    let south = y +ℤ pos 1 in
    let west = x +ℤ negsuc 0 in
    let east = x +ℤ pos 1 in
    cell x north ∷ cell east north ∷ cell east y ∷ cell east south ∷ cell x south ∷ cell west south ∷ cell west y ∷ cell west north ∷ []

-- a cell of state 0 is born, and one of state 1 stays, by the number of its neighbours in state 1
abbrev pub claimed_next_life : ℕ → List ℕ → List ℕ → (ℤ → ℤ → ℕ) → ℤ → ℤ → ℕ
claimed_next_life neighbours births survivals cell x y =
    let around = if neighbours == 4 then claimed_four_around cell x y else claimed_eight_around cell x y in
    let live = count_by (λ state. state == 1) around in
    let alive_at = if cell x y == 0 then births else if cell x y == 1 then survivals else [] in
    if list_any (λ n. n == live) alive_at then 1 else 0

-- the list has every cell with a state other than 0, once, row by row from the north, and in a row from the west
pub record AreClaimedCells (cell : ℤ → ℤ → ℕ) (cells : List Cell) : Type 0 where
  pub in_order : AllPairs (λ (a b : Cell). (a.y <ℤ b.y) ⊎ ((a.y ≡ b.y) × (a.x <ℤ b.x))) cells
  pub true_cells : (c : Cell) → Contains cells c → (cell c.x c.y ≡ c.state) × (c.state ≢ 0)
  pub all_cells : (c : Cell) → cell c.x c.y ≡ c.state → c.state ≢ 0 → Contains cells c

-- more cells than this have a state other than 0
abbrev pub HasMoreClaimedCells : ℕ → (ℤ → ℤ → ℕ) → Type 0
HasMoreClaimedCells most cell = (cells : List Cell) × AreClaimedCells cell cells × (most < length cells)

-- the bytes are a file of a pattern in which more cells than this have a state other than 0
abbrev pub SaysMoreCells : ℕ → List ℕ → Type 0
SaysMoreCells most bytes = (pattern : Pattern) × (pattern_of bytes ≡ Ok pattern) × HasMoreClaimedCells most pattern.cell

-- what a table decides for the cell (x, y)
abbrev pub decided_at : Table → (ℤ → ℤ → ℕ) → ℤ → ℤ → ClaimedAnswer
decided_at table cell x y =
    let around = if unwrap_or table.neighbours 0 == 4 then claimed_four_around cell x y else claimed_eight_around cell x y in
    claimed_decision table (cell x y) around table.transitions

-- a cell outside the plane would not become 0
abbrev pub LeavesClaimedPlane : (ℤ → ℤ → ℕ) → Type 0
LeavesClaimedPlane next = (x : ℤ) × (y : ℤ) × ((is_claimed_coordinate x && is_claimed_coordinate y) ≡ false) × (next x y ≢ 0)

-- a pattern has a next one under its B/S rule: none of the three reasons against it holds, and each cell of the plane and outside it gets its next state
pub record IsClaimedNext (neighbours : ℕ) (births survivals : List ℕ) (now next : Pattern) : Type 0 where
  pub rule : now.rule ≡ counting neighbours births survivals
  pub same_rule : next.rule ≡ now.rule
  pub generation : next.generation ≡ now.generation + 1
  pub not_last : now.generation ≢ 2 ^ 64 - 1
  pub few : HasMoreClaimedCells (2 ^ 20) now.cell → ⊥
  pub inside : LeavesClaimedPlane (claimed_next_life neighbours births survivals now.cell) → ⊥
  pub cells : (x y : ℤ) → next.cell x y ≡ claimed_next_life neighbours births survivals now.cell x y

-- why a pattern has no next one under its rule without a table: the first of four reasons that holds, which is the fault of no line
pub data IsFirstReason (now : Pattern) : Fault → Type 0 where
  no_table : (name : List ℕ) → now.rule ≡ named name → IsFirstReason now (claimed_fault_of NeedsTable)
  last_generation : (neighbours : ℕ) (births survivals : List ℕ) → now.rule ≡ counting neighbours births survivals → now.generation ≡ 2 ^ 64 - 1
      → IsFirstReason now (claimed_fault_of GenerationTooLarge)
  many_cells : (neighbours : ℕ) (births survivals : List ℕ) → now.rule ≡ counting neighbours births survivals → now.generation ≢ 2 ^ 64 - 1
      → HasMoreClaimedCells (2 ^ 20) now.cell → IsFirstReason now (claimed_fault_of TooManyCells)
  leaves_plane : (neighbours : ℕ) (births survivals : List ℕ) → now.rule ≡ counting neighbours births survivals → now.generation ≢ 2 ^ 64 - 1
      → (HasMoreClaimedCells (2 ^ 20) now.cell → ⊥) → LeavesClaimedPlane (claimed_next_life neighbours births survivals now.cell)
      → IsFirstReason now (claimed_fault_of OutOfPlane)

-- the bytes are a file of a pattern that has no next one under its rule without a table, for this reason
abbrev pub IsUnstepped : List ℕ → Fault → Type 0
IsUnstepped bytes fault = (now : Pattern) × (pattern_of bytes ≡ Ok now) × IsFirstReason now fault

-- a pattern has a next one by the table of its rule: none of the reasons against it (`IsFirstReasonBy`) holds, and each cell gets the state that the
-- table decides
pub record IsNextByTable (table : Table) (now next : Pattern) : Type 0 where
  pub rule : now.rule ≡ named table.name
  pub same_rule : next.rule ≡ now.rule
  pub generation : next.generation ≡ now.generation + 1
  pub not_last : now.generation ≢ 2 ^ 64 - 1
  pub few : HasMoreClaimedCells (2 ^ 20) now.cell → ⊥
  pub known : (x y : ℤ) → now.cell x y < unwrap_or table.n_states 0
  pub inside : (x y : ℤ) → (is_claimed_coordinate x && is_claimed_coordinate y) ≡ false → next.cell x y ≡ 0
  pub cells : (x y : ℤ) → decided_at table now.cell x y ≡ becomes (next.cell x y)

-- the bytes are a file with a next pattern under its B/S rule, and the text is a file of that one, and its canonical text
pub record IsClaimedStep (bytes text : List ℕ) : Type 0 where
  pub now : Pattern
  pub next : Pattern
  pub now_is : pattern_of bytes ≡ Ok now
  pub next_is : pattern_of text ≡ Ok next
  pub neighbours : ℕ
  pub births : List ℕ
  pub survivals : List ℕ
  pub is : IsClaimedNext neighbours births survivals now next
  pub canonical : IsTextOfPattern next text
