-- An index of the lines of a table: sets of lines, among which is each line that gives something at a cell.
use Rattle.std.specs.Prelude.{◌≡◌, ◌≢◌, ℕ, ◌+◌, ◌-◌, ◌*◌, ◌<◌, ◌≤◌, ◌∷◌, [], List, All, Contains, take, drop, length, slice_index, slice_index_or, count_by, Bool, true, nat_eq, Option, Result, MatchOption}
use Rattle.std.specs.Int.{bit_at}
use Rattle.std.specs.List.{list_any}
use Rattle.life_base.specs.declared.fault.Fault.{Fault}
use Rattle.life_table.specs.Meaning.{Gives, GivesNothing, DecidesAs}
use Rattle.life_table.specs.Orders.{turn, reflected_turn, orders}
use Rattle.life_table.specs.Site.{centre_of, others_of}
use Rattle.life_table.specs.Taking.{can_be_state}
use Rattle.life_table.specs.declared.block.Block.{Block}
use Rattle.life_table.specs.declared.index.Query.{Query}
use Rattle.life_table.specs.declared.index.Query.TheVariants as queries
use Rattle.life_table.specs.declared.site.Site.{Site}
use Rattle.life_table.specs.declared.some_order.Counts.{Counts}
use Rattle.life_table.specs.declared.table.Entry.{Entry}
use Rattle.life_table.specs.declared.table.Entry.TheVariants as entries
use Rattle.life_table.specs.declared.table.Symmetry.{Symmetry}
use Rattle.life_table.specs.declared.table.Transition.{Transition}
use Rattle.life_table.specs.declared.table.Var.{Var}
use Rattle.life_table.specs.declared.turn.Turns.{Turns}

-- what was in a set stays in it
abbrev pub Stay : List ℕ → List ℕ → Type 0
Stay old new = (i k : ℕ) → bit_at (slice_index old i) k ≡ 1 → bit_at (slice_index new i) k ≡ 1

-- the entry of an input
abbrev pub entry_at : List Entry → ℕ → Entry
entry_at inputs p = slice_index_or inputs p (entries.Fixed 0)

-- a line is in the set of each state that its entry at a place may be
abbrev pub InSets : List Var → Entry → ℕ → ℕ → List ℕ → Type 0
InSets vars entry p k sets = (s : ℕ) → s < 256 → can_be_state vars entry s ≡ true → bit_at (slice_index sets (256 * p + s)) k ≡ 1

-- and in that of each place before it where it has another entry
abbrev pub IsApart : List Entry → ℕ → ℕ → List ℕ → Type 0
IsApart inputs p k apart = (q : ℕ) → q < p → entry_at inputs p ≢ entry_at inputs q → bit_at (slice_index apart (9 * p + q)) k ≡ 1

-- a block has a line: in the set of each state that one of its inputs may be, and of each two places with different inputs
pub record BlockHasLine (vars : List Var) (inputs : List Entry) (k : ℕ) (block : Block) : Type 0 where
  pub states : (p : ℕ) → p < length inputs → InSets vars (entry_at inputs p) p k block.sets
  pub apart : (p : ℕ) → p < length inputs → IsApart inputs p k block.apart

-- so are up to 64 lines, from a number on
abbrev pub HasLines : List Var → List Transition → ℕ → Block → Type 0
HasLines vars lines from block = (k : ℕ) (d : Transition) → k < 64 → from + k < length lines
    → BlockHasLine vars (slice_index_or lines (from + k) d).inputs k block

-- the blocks have the first lines, 64 each
abbrev pub AreBlocks : List Var → List Transition → List Block → Type 0
AreBlocks vars lines blocks = (b : ℕ) (d : Block) → b < length blocks → HasLines vars lines (64 * b) (slice_index_or blocks b d)

-- a line is in the sets of these states, and of each two places where they differ
pub record MayFit (block : Block) (image : List ℕ) (k : ℕ) : Type 0 where
  pub states : (p : ℕ) → p < length image → slice_index image p < 256 → bit_at (slice_index block.sets (256 * p + slice_index image p)) k ≡ 1
  pub apart : (p q : ℕ) → p < length image → q < p → slice_index image p ≢ slice_index image q → bit_at (slice_index block.apart (9 * p + q)) k ≡ 1

-- a state is one of these
abbrev pub is_among : List ℕ → ℕ → Bool
is_among states s = list_any (λ t. nat_eq t s) states

-- a line is in the sets of these states, one for each input after the centre's
abbrev pub MayComeAfter : Block → List ℕ → ℕ → Type 0
MayComeAfter block v k = (p : ℕ) → p < length v → slice_index v p < 256 → bit_at (slice_index block.sets (256 * (p + 1) + slice_index v p)) k ≡ 1

-- the lines that may be after the centre's input in some order of the neighbours stay
abbrev pub KeepsOrders : Block → List ℕ → ℕ → ℕ → Type 0
KeepsOrders block others lines rest = (k : ℕ) (v : List ℕ) → k < 64 → Contains (orders others) v → MayComeAfter block v k → bit_at lines k ≡ 1
    → bit_at rest k ≡ 1

-- a line may fit some order of the neighbours
pub record MayFitInSomeOrder (block : Block) (cells : List ℕ) (k : ℕ) : Type 0 where
  pub order : List ℕ
  pub is_order : Contains (orders (drop 1 cells)) order
  pub fits : MayFit block (slice_index cells 0 ∷ order) k

-- the cell before the image of that number: the turns come first, and then the reflected ones
pub record IsImage (ways : Turns) (cells : List ℕ) (j : ℕ) (image : List ℕ) : Type 0 where
  pub turned : j < ways.count → take (length cells) image ≡ slice_index cells 0 ∷ turn (drop 1 cells) (j * ways.step)
  pub reflected : ways.count ≤ j → take (length cells) image ≡ slice_index cells 0 ∷ reflected_turn (drop 1 cells) ((j - ways.count) * ways.step)

-- the states of neighbours, each of them, and how many have each
pub record AreCounts (others : List ℕ) (counts : Counts) : Type 0 where
  pub few : counts.count ≤ 8
  pub each : (s : ℕ) → is_among others s ≡ true → is_among (take counts.count counts.states) s ≡ true
  pub times : (i : ℕ) → i < counts.count → slice_index counts.times i ≡ count_by (is_among (slice_index counts.states i ∷ [])) others

-- an index can be asked this of a cell
abbrev pub IsQuery : Site → Query → Type 0
IsQuery site (queries.Images turned) = turned.count ≤ 16
IsQuery site (queries.Counts counts) = AreCounts (others_of site) counts

-- it is asked of these neighbours: they are one of the images, after the centre, or it is asked of every order
abbrev pub Asks : Site → Query → List ℕ → Type 0
Asks site (queries.Images turned) v = (j : ℕ) × (j < turned.count) × (take (length site.cells.now) (slice_index_or turned.cells j []) ≡ centre_of site ∷ v)
Asks site (queries.Counts counts) v = Contains (orders (others_of site)) v

module _ (symmetry : Symmetry) (vars : List Var) (centre : ℕ) (others : List ℕ) (lines : List Transition) where
  -- each of 64 lines that gives something is in the set
  abbrev pub MayGive : ℕ → ℕ → Type 0
  MayGive from set = (k : ℕ) (d : Transition) → k < 64 → from + k < length lines
      → (s : ℕ) → Gives symmetry vars (slice_index_or lines (from + k) d) centre others s → bit_at set k ≡ 1

  -- the lines decide as the answer says; without one, those before a number give nothing
  abbrev pub AnswersAmong : ℕ → Option (Result ℕ Fault) → Type 0
  AnswersAmong end result = MatchOption result (All (GivesNothing symmetry vars centre others) (take end lines))
      (DecidesAs symmetry vars centre others lines)
