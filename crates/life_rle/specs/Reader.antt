-- What a reader keeps while it goes over the items of a line.
use Rattle.std.specs.Prelude.{◌≡◌, ℕ, ◌+◌, ◌<◌, ◌≤◌, Bool, true, false, ◌⊎◌, List, [], ◌++◌, length, drop, slice_index, Option, Some, None, Result, MatchResult, ℤ}
use Rattle.std.specs.Char.{is_ascii_digit}
use Rattle.life_base.specs.declared.kind.Kind.{Kind}
use Rattle.life_base.specs.declared.kind.Kind.TheVariants.{Memory}
use Rattle.life_base.specs.declared.rule.Rule.{Rule}
use Rattle.life_rle.specs.declared.item.Item.{Item}
use Rattle.life_rle.specs.declared.item.Token.{Token}
use Rattle.life_rle.specs.declared.item.Token.TheVariants as found
use Rattle.life_rle.specs.declared.cursor.Cursor.{Cursor}
use Rattle.life_base.specs.declared.cell.Run.{Run}
use Rattle.life_rle.specs.Items.{Next, End, Mark, Spelled, Broken, item_after, next_of, Spells}
use Rattle.life_rle.specs.Plane.{is_coordinate}
use Rattle.life_rle.specs.Pattern.{item_fault, first_fault}
use Rattle.life_rle.specs.Runs.{runs_of, with_run}
use Rattle.life_rle.specs.Cursor.{IsNear, cursor_after_item, cursor_after_items, placed_at}

-- the item at a place of a line has this count, whose digits end at another place; without digits it is 1
pub data IsCount (level : ℕ) (line : List ℕ) (at count place : ℕ) : Type 0 where
  none : is_ascii_digit (slice_index line at) ≡ false → count ≡ 1 → place ≡ at → IsCount level line at count place
  digits : at < place → next_of level (drop at line) ≡ item_after count (drop place line) → IsCount level line at count place

-- A count was read at a place, and the place after its digits, which is in the line: the item there is the one that the whole spells. Or the
-- whole spells none, and this is why.
abbrev pub IsCountRead : ℕ → List ℕ → ℕ → Result (ℕ × ℕ) Kind → Type 0
IsCountRead level line at result = MatchResult result
    (λ found. IsCount level line at found.0 found.1 × (found.1 < length line)) (λ kind. next_of level (drop at line) ≡ Broken kind)

-- what was found after a count
abbrev pub IsItemAt : List ℕ → ℕ → ℕ → Token → Type 0
IsItemAt line count place (found.Spelled item behind) =
    (place < behind) × (behind ≤ length line) × (item_after count (drop place line) ≡ Spelled item (drop behind line))
IsItemAt line count place (found.Broken kind) = item_after count (drop place line) ≡ Broken kind
IsItemAt line count place _ = ⊥

-- what was found at a place of a line
abbrev pub IsTokenAt : ℕ → List ℕ → ℕ → Token → Type 0
IsTokenAt level line at found.Space = next_of level (drop at line) ≡ next_of level (drop (at + 1) line)
IsTokenAt level line at found.Mark = next_of level (drop at line) ≡ Mark
IsTokenAt level line at (found.Spelled item behind) =
    (at < behind) × (behind ≤ length line) × (next_of level (drop at line) ≡ Spelled item (drop behind line))
IsTokenAt level line at (found.Broken kind) = next_of level (drop at line) ≡ Broken kind

-- a number that was read; one that isn't exact lies outside the plane, as the number itself does
abbrev pub IsNumberRead : ℕ → Option ℤ → Option ℤ → Type 0
IsNumberRead level None None = Unit {0}
IsNumberRead level (Some z) (Some w) = (is_coordinate level w ≡ is_coordinate level z) × (is_coordinate level w ≡ true → w ≡ z)
IsNumberRead level _ _ = ⊥

-- an item was taken: it breaks no rule where it stands, `next` is the place after it, on the plane or at its edge, and its run, if it has one,
-- was put after the runs
pub record IsItemConsumed (level : ℕ) (rule : Rule) (here : Cursor) (item : Item) (before after : List Run) (next : Cursor) : Type 0 where
  pub sound : item_fault level rule here.y here.x item ≡ None
  pub cursor : next ≡ cursor_after_item here item
  pub near : IsNear level next
  pub runs : after ≡ before ++ with_run here.y here.x item []

-- what a call answers that takes an item: the place after it; or the rule that it breaks, or Memory, and then the runs stay
abbrev pub TakesItem : ℕ → Rule → Cursor → Item → List Run → List Run → Result Cursor Kind → Type 0
TakesItem level rule cursor item before after result = MatchResult result (IsItemConsumed level rule cursor item before after)
    (λ kind. (after ≡ before) × ((kind ≡ Memory) ⊎ (item_fault level rule cursor.y cursor.x item ≡ Some kind)))

-- a line was read up to `next`: its items break no rule, the cursor is after them, and these are their runs
pub record AreItemsRead (level : ℕ) (rule : Rule) (from : Cursor) (line : List ℕ) (items : List Item) (next : Next) (now : Cursor) (found : List Run) : Type 0
  where
    pub spelled : Spells level line items next
    pub sound : first_fault level rule (placed_at from items) ≡ None
    pub cursor : now ≡ cursor_after_items from items
    pub near : IsNear level now
    pub runs : found ≡ runs_of (placed_at from items)

-- the same, with the line's runs put after those that were there
pub record ReadsItems (level : ℕ) (rule : Rule) (from : Cursor) (line : List ℕ) (next : Next) (now : Cursor) (before after : List Run) : Type 0 where
  pub items : List Item
  pub found : List Run
  pub read : AreItemsRead level rule from line items next now found
  pub added : after ≡ before ++ found

-- what comes after the last item of a line
abbrev pub last_of : Bool → Next
last_of true = Mark
last_of false = End

-- which rule the items of a line break first after the cursor
pub data ItemsBreak (level : ℕ) (rule : Rule) (from : Cursor) (line : List ℕ) (kind : Kind) : Type 0 where
  -- in the place of an item
  no_item : (items : List Item) → Spells level line items (Broken kind) → first_fault level rule (placed_at from items) ≡ None
      → ItemsBreak level rule from line kind
  -- by an item
  bad_item : (items : List Item) (item : Item) (rest : List ℕ) → Spells level line items (Spelled item rest)
      → first_fault level rule (placed_at from items) ≡ None
      → item_fault level rule (cursor_after_items from items).y (cursor_after_items from items).x item ≡ Some kind → ItemsBreak level rule from line kind
