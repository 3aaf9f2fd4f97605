-- The text that is written for a rule, a generation and a list of cells. The project's own choice among the texts of one pattern; what they mean
-- is of Golly Help (File Formats, Extended RLE format).
use Rattle.std.specs.Prelude.{ℕ, zero, suc, ◌+◌, List, [], ◌∷◌, ◌++◌, length, map, ℤ, pos, ◌+ℤ◌, ◌-ℤ◌, nat_abs, if◌then◌else◌, ◌==◌, nat_le, codes, decimal, flat_map}
use Rattle.std.specs.Ordering.{int_eq}
use Rattle.std.specs.Fmt.{signed_decimal}
use Rattle.std.specs.Int.{int_min, int_max}
use Rattle.life_base.specs.declared.cell.Cell.{Cell}
use Rattle.life_base.specs.declared.rule.Rule.{Rule}
use Rattle.life_base.specs.Rules.{rule_text}
use Rattle.life_rle.specs.States.{state_text}
use Rattle.life_base.specs.declared.bounds.Bounds.{Bounds}
use Rattle.life_rle.specs.declared.item.Item.{Item}
use Rattle.life_rle.specs.declared.item.Item.TheVariants.{Cells, RowEnds}

-- the box of one cell
abbrev pub box_of_cell : Cell → Bounds
box_of_cell c = record { left = c.x; top = c.y; right = c.x; bottom = c.y }

-- the least box around both
abbrev pub box_around : Bounds → Bounds → Bounds
box_around a b = record { left = int_min a.left b.left; top = int_min a.top b.top; right = int_max a.right b.right; bottom = int_max a.bottom b.bottom }

-- the least box around a cell and more cells
abbrev pub box_of : Cell → List Cell → Bounds
box_of c [] = box_of_cell c
box_of c (d ∷ cells) = box_around (box_of_cell c) (box_of d cells)

-- dead cells before items, if any
abbrev pub with_gap : ℕ → List Item → List Item
with_gap zero items = items
with_gap (suc n) items = Cells (suc n) 0 ∷ items

-- cells before items, in one run with cells of the same state
abbrev pub with_cells : ℕ → ℕ → List Item → List Item
with_cells count state [] = Cells count state ∷ []
with_cells count state (Cells more other ∷ items) = if state == other then Cells (count + more) state ∷ items else Cells count state ∷ Cells more other ∷ items
with_cells count state (RowEnds rows ∷ items) = Cells count state ∷ RowEnds rows ∷ items

-- the way from the place (x, y) to a cell ahead of it, before items; rows begin at the column `left`
abbrev pub way_to : ℤ → ℤ → ℤ → Cell → List Item → List Item
way_to left x y c items =
    if int_eq c.y y then with_gap (nat_abs (c.x -ℤ x)) items
    else RowEnds (nat_abs (c.y -ℤ y)) ∷ with_gap (nat_abs (c.x -ℤ left)) items

-- The items of cells that rise by row and column, from the place (x, y) on; rows begin at the column `left`. Of cells
-- that don't rise it says nothing: each difference is taken as a distance ahead.
abbrev pub items_from : ℤ → ℤ → ℤ → List Cell → List Item
items_from left x y [] = []
items_from left x y (c ∷ cells) = way_to left x y c (with_cells 1 c.state (items_from left (c.x +ℤ pos 1) c.y cells))

-- the items of cells that rise by row and column, from the corner of their box on
abbrev pub items_of : List Cell → List Item
items_of [] = []
items_of (c ∷ cells) = items_from (box_of c cells).left (box_of c cells).left (box_of c cells).top (c ∷ cells)

-- a count of 1 is not written
abbrev pub count_text : ℕ → List ℕ
count_text n = if n == 1 then [] else decimal n

abbrev pub item_text : Rule → Item → List ℕ
item_text rule (Cells count state) = count_text count ++ state_text rule state
item_text rule (RowEnds count) = count_text count ++ codes "$"

-- texts on lines: a text goes on the current line if the line then has at most 70 bytes, else it begins the next line
abbrev pub wrapped_lines : List ℕ → List (List ℕ) → List (List ℕ)
wrapped_lines line [] = line ∷ []
wrapped_lines line (text ∷ texts) = if nat_le (length line + length text) 70 then wrapped_lines (line ++ text) texts else line ∷ wrapped_lines text texts

-- the lines of the items, with `!` after them
abbrev pub item_lines : Rule → List Item → List (List ℕ)
item_lines rule items = wrapped_lines [] (map (item_text rule) items ++ codes "!" ∷ [])

-- ` Gen=G`, if the generation isn't 0
abbrev pub generation_text : ℕ → List ℕ
generation_text zero = []
generation_text (suc n) = codes " Gen=" ++ decimal (suc n)

abbrev pub position_text : ℤ → ℤ → ℕ → List ℕ
position_text x y generation = ((codes "#CXRLE Pos=" ++ signed_decimal x) ++ (codes "," ++ signed_decimal y)) ++ generation_text generation

abbrev pub header_text : ℕ → ℕ → Rule → List ℕ
header_text width height rule = ((codes "x = " ++ decimal width) ++ (codes ", y = " ++ decimal height)) ++ (codes ", rule = " ++ rule_text rule)

-- the number of whole numbers from one to another
abbrev pub box_side : ℤ → ℤ → ℕ
box_side low high = nat_abs (high -ℤ low) + 1

-- the lines of a pattern in this box
abbrev pub lines_in_box : Rule → ℕ → Bounds → List Item → List (List ℕ)
lines_in_box rule generation box items =
    position_text box.left box.top generation
    ∷ header_text (box_side box.left box.right) (box_side box.top box.bottom) rule
    ∷ item_lines rule items

-- the lines that are written for cells that rise by row and column; without cells the box lies at (0, 0), and its sides are 0
abbrev pub rle_lines : Rule → ℕ → List Cell → List (List ℕ)
rle_lines rule generation [] = position_text (pos 0) (pos 0) generation ∷ header_text 0 0 rule ∷ item_lines rule []
rle_lines rule generation (c ∷ cells) = lines_in_box rule generation (box_of c cells) (items_of (c ∷ cells))

-- each line ended by a line feed
abbrev pub rle_text : Rule → ℕ → List Cell → List ℕ
rle_text rule generation cells = flat_map (λ line. line ++ codes "\n") (rle_lines rule generation cells)
