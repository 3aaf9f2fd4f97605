-- What the items of a file are, those of state 0 too, and that its cells are what they say.
use Rattle.std.specs.Prelude.{◌≡◌, ℕ, true, false, List, ℤ, Some}
use Rattle.std.specs.List.{slice_get}
use Rattle.life_rle.specs.Plane.{is_coordinate}
use Rattle.life_rle.specs.Pattern.{Rle, PlacedItem, placed_items, item_covers, item_state, rle_cell}
use Rattle.life_rle.specs.Grammar.{IsRle}

-- the item of this number in the list, counted from 0, stands so
abbrev pub IsItem : Rle → ℕ → PlacedItem → Type 0
IsItem file i p = slice_get (placed_items file) i ≡ Some p

-- the items of a file, by the pairs that they cover
pub record AreCellsOfItems (level : ℕ) (file : Rle) : Type 0 where
  -- no two items cover one pair
  pub apart : (i j : ℕ) (p q : PlacedItem) (x y : ℤ) → IsItem file i p → IsItem file j q → item_covers p x y ≡ true → item_covers q x y ≡ true → i ≡ j
  -- an item covers pairs of the plane alone
  pub inside : (i : ℕ) (p : PlacedItem) (x y : ℤ) → IsItem file i p → item_covers p x y ≡ true → (is_coordinate level x ≡ true) × (is_coordinate level y ≡ true)
  -- a pair has the state of the item that covers it
  pub covered : (i : ℕ) (p : PlacedItem) (x y : ℤ) → IsItem file i p → item_covers p x y ≡ true → rle_cell file x y ≡ item_state p.item
  -- and 0, where none does
  pub bare : (x y : ℤ) → ((i : ℕ) (p : PlacedItem) → IsItem file i p → item_covers p x y ≡ false) → rle_cell file x y ≡ 0

-- so in each file
abbrev pub ItemsAreCells : Type 0
ItemsAreCells = (level : ℕ) (lines : List (List ℕ)) (file : Rle) → IsRle level lines file → AreCellsOfItems level file
