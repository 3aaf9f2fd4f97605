-- The texts that the calls give of a file.
use Rattle.std.specs.Prelude.{◌≡◌, ◌≢◌, ℕ, ◌^◌, ◌<◌, ◌≤◌, List, ◌++◌, length, ℤ, pos, neg_ℤ, ◌≤ℤ◌, ◌<ℤ◌, Contains, AllPairs, Option, Some, None, MatchOption, codes, decimal}
use Rattle.std.specs.Fmt.{signed_decimal}
use Rattle.life_base.specs.Rules.{rule_text}
use Rattle.life_base.specs.declared.cell.Cell.{Cell}
use Rattle.life_base.specs.declared.rule.Rule.{Rule}
use Rattle.life_mc.specs.Cells.{node_lines}
use Rattle.life_quad.specs.Cells.{IsBefore}
use Rattle.life_base.specs.declared.bounds.Bounds.{Bounds}
use Rattle.life_rle.specs.Written.{rle_text, box_side}
use Rattle.life_pattern.specs.Universe.{Universe}
use Rattle.life_pattern.specs.Files.{Reads}
use Rattle.life_writer.specs.Listing.{canonical_file, canon_text}

-- the bytes are a file, and the text is its canonical text
pub record IsCanonical (top : ℕ) (bytes text : List ℕ) : Type 0 where
  pub universe : Universe
  pub reads : Reads top bytes universe
  pub is : text ≡ canon_text top universe

-- the list has every cell with a state other than 0, once, row by row from the north, and in a row from the west
pub record AreCellsOf (cell : ℤ → ℤ → ℕ) (cells : List Cell) : Type 0 where
  pub in_order : AllPairs IsBefore cells
  pub true_cells : (c : Cell) → Contains cells c → (cell c.x c.y ≡ c.state) × (c.state ≢ 0)
  pub all_cells : (c : Cell) → cell c.x c.y ≡ c.state → c.state ≢ 0 → Contains cells c

-- the bytes are a file, and these are its nonzero cells
pub record HasCells (top : ℕ) (bytes : List ℕ) (cells : List Cell) : Type 0 where
  pub universe : Universe
  pub reads : Reads top bytes universe
  pub are : AreCellsOf universe.cell cells

-- the bytes are a file with no more nonzero cells than this, and the text is that of these cells in extended RLE
pub record IsRleOf (top most : ℕ) (bytes text : List ℕ) : Type 0 where
  pub universe : Universe
  pub reads : Reads top bytes universe
  pub cells : List Cell
  pub are : AreCellsOf universe.cell cells
  pub few : length cells ≤ most
  pub is : text ≡ rle_text universe.rule universe.generation cells

-- the bytes are a file with more nonzero cells than this
abbrev pub FileHasMoreCells : ℕ → List ℕ → ℕ → Type 0
FileHasMoreCells top bytes most = (cells : List Cell) × HasCells top bytes cells × (most < length cells)

-- every cell with a state is in the box, and each side of the box has one
pub record IsBoundingBox (cell : ℤ → ℤ → ℕ) (box : Bounds) : Type 0 where
  pub inside : (x y : ℤ) → cell x y ≢ 0 → (box.left ≤ℤ x) × (x ≤ℤ box.right) × (box.top ≤ℤ y) × (y ≤ℤ box.bottom)
  pub at_left : (y : ℤ) × (cell box.left y ≢ 0)
  pub at_right : (y : ℤ) × (cell box.right y ≢ 0)
  pub at_top : (x : ℤ) × (cell x box.top ≢ 0)
  pub at_bottom : (x : ℤ) × (cell x box.bottom ≢ 0)

-- the least box of the cells with a state, or none where every cell has state 0
abbrev pub IsBoxOf : (ℤ → ℤ → ℕ) → Option Bounds → Type 0
IsBoxOf cell box = MatchOption box ((x y : ℤ) → cell x y ≡ 0) (IsBoundingBox cell)

-- the line of the box: its western column, its northern row, and how many columns and rows it has
abbrev pub box_text : Option Bounds → List ℕ
box_text None = codes "box none\n"
box_text (Some box) =
    codes "box " ++ signed_decimal box.left ++ codes " " ++ signed_decimal box.top ++ codes " "
    ++ decimal (box_side box.left box.right) ++ codes " " ++ decimal (box_side box.top box.bottom) ++ codes "\n"

-- five lines: the rule, the generation, the number of nonzero cells, their box and the number of node lines
abbrev pub show_text : Rule → ℕ → ℕ → Option Bounds → ℕ → List ℕ
show_text rule generation cells box nodes =
    codes "rule " ++ rule_text rule ++ codes "\ngeneration " ++ decimal generation ++ codes "\npopulation " ++ decimal cells ++ codes "\n"
    ++ box_text box ++ codes "nodes " ++ decimal nodes ++ codes "\n"

-- the bytes are a file, and the text is its five lines
pub record IsShownText (top : ℕ) (bytes text : List ℕ) : Type 0 where
  pub universe : Universe
  pub reads : Reads top bytes universe
  pub cells : List Cell
  pub are : AreCellsOf universe.cell cells
  pub box : Option Bounds
  pub least : IsBoxOf universe.cell box
  pub is : text ≡ show_text universe.rule universe.generation (length cells) box (node_lines (canonical_file top universe))

-- two sides of a box of the plane, from the lower one to the higher
pub record IsOrdered (low high : ℤ) : Type 0 where
  pub least : neg_ℤ (pos (2 ^ 61)) ≤ℤ low
  pub order : low ≤ℤ high
  pub most : high <ℤ pos (2 ^ 61)

-- the sides of a box of the plane
pub record AreOrdered (box : Bounds) : Type 0 where
  pub columns : IsOrdered box.left box.right
  pub rows : IsOrdered box.top box.bottom
