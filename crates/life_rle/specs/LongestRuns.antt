-- That the items which are written are the longest runs. The project's own.
use Rattle.std.specs.Prelude.{◌≡◌, ℕ, ◌≤◌, true, List, [], ◌∷◌, ◌++◌}
use Rattle.life_base.specs.declared.cell.Cell.{Cell}
use Rattle.life_base.specs.declared.rule.Rule.{Rule}
use Rattle.life_rle.specs.declared.item.Item.{Item}
use Rattle.life_rle.specs.declared.item.Item.TheVariants.{Cells, RowEnds}
use Rattle.life_rle.specs.Cursor.{item_count}
use Rattle.life_rle.specs.Written.{items_of}
use Rattle.life_rle.specs.Sorted.{are_sorted_cells}

-- live cells
abbrev pub IsLive : Item → Type 0
IsLive (Cells count state) = 1 ≤ state
IsLive (RowEnds count) = ⊥

-- which item may comes after which: cells after cells of another state, the end of a row after live cells, and cells after ends of rows
abbrev pub MayFollow : Item → Item → Type 0
MayFollow (Cells count state) (Cells more other) = state ≡ other → ⊥
MayFollow (Cells count state) (RowEnds more) = 1 ≤ state
MayFollow (RowEnds count) (Cells more other) = Unit {0}
MayFollow (RowEnds count) (RowEnds more) = ⊥

-- each item counts something, no two neighbours could be one, and neither a row nor the list ends with dead cells
pub record AreLongest (items : List Item) : Type 0 where
  pub some : (before behind : List Item) (item : Item) → items ≡ before ++ item ∷ behind → 1 ≤ item_count item
  pub apart : (before behind : List Item) (item next : Item) → items ≡ before ++ item ∷ next ∷ behind → MayFollow item next
  pub ended : (before : List Item) (last : Item) → items ≡ before ++ last ∷ [] → IsLive last

-- so are the items of sorted cells
abbrev pub RunsAreLongest : Type 0
RunsAreLongest = (level : ℕ) (rule : Rule) (cells : List Cell) → are_sorted_cells level rule cells ≡ true → AreLongest (items_of cells)
