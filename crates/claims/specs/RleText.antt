-- The text in extended RLE that is written of a pattern. What it means is of Golly Help (File Formats, "Extended RLE format"); that this one of the many
-- texts of a pattern is written is this project's own.
use Rattle.std.specs.Prelude.{◌≡◌, ℕ, ◌+◌, ◌-◌, ◌/◌, ◌%◌, List, [], ◌∷◌, ◌++◌, length, map, flat_map, nat_le, ◌==◌, if◌then◌else◌, codes, decimal, Option, Some, None, ℤ, pos, ◌+ℤ◌, ◌-ℤ◌, nat_abs}
use Rattle.std.specs.Fmt.{signed_decimal}
use Rattle.std.specs.Ordering.{int_eq}
use Rattle.std.specs.Str.{byte}
use Rattle.life_base.specs.declared.bounds.Bounds.{Bounds}
use Rattle.life_base.specs.declared.cell.Cell.{Cell}
use Rattle.claims.specs.Rules.{Rule, counting, named, claimed_rule_text}
use Rattle.claims.specs.Pattern.{Pattern}
use Rattle.claims.specs.Rle.{Item, run, row_ends}
use Rattle.claims.specs.Generation.{AreClaimedCells}
use Rattle.claims.specs.Shown.{IsBox}

-- A state: `b` or `o` under a B/S rule; under a name `.`, or a letter from `A` on (the byte before it is `@`), above 24 after one from `p` on (the byte
-- before it is `o`).
abbrev pub claimed_state_text : Rule → ℕ → List ℕ
claimed_state_text (counting neighbours births survivals) state = (if state == 0 then byte "b" else byte "o") ∷ []
claimed_state_text (named name) state =
    if state == 0 then codes "." else if nat_le state 24 then (byte "@" + state) ∷ []
    else (byte "o" + (state - 1) / 24) ∷ (byte "A" + (state - 1) % 24) ∷ []

-- an item; a count of 1 is left out
abbrev pub claimed_item_text : Rule → Item → List ℕ
claimed_item_text rule (run count state) = (if count == 1 then [] else decimal count) ++ claimed_state_text rule state
claimed_item_text rule (row_ends count) = (if count == 1 then [] else decimal count) ++ codes "$"

-- so many cells of state 0, if any
abbrev pub gap : ℕ → List Item
gap count = if count == 0 then [] else run count 0 ∷ []

-- items after a run, which takes in a first run of the same state
abbrev pub after_run : (count state : ℕ) → List Item → List Item
after_run count state (run more other ∷ items) = if state == other then run (count + more) state ∷ items else run count state ∷ run more other ∷ items
after_run count state items = run count state ∷ items

-- the items of cells in their order, from (x, y) on, where rows begin with the column `left`
abbrev pub items_of_cells : (left x y : ℤ) → List Cell → List Item
items_of_cells left x y [] = []
items_of_cells left x y (cell ∷ cells) =
    (if int_eq cell.y y then gap (nat_abs (cell.x -ℤ x)) else row_ends (nat_abs (cell.y -ℤ y)) ∷ gap (nat_abs (cell.x -ℤ left)))
    ++ after_run 1 cell.state (items_of_cells left (cell.x +ℤ pos 1) cell.y cells)

-- lines of texts: a text goes on the line if the line then has at most 70 bytes, and else it begins the next one
abbrev pub in_lines : (line : List ℕ) → List (List ℕ) → List (List ℕ)
in_lines line [] = line ∷ []
in_lines line (text ∷ texts) = if nat_le (length line + length text) 70 then in_lines (line ++ text) texts else line ∷ in_lines text texts

-- the lines of a pattern, by the first column and row of its box, the box's sides, and the items
abbrev pub claimed_rle_lines : Rule → ℕ → (x y : ℤ) → (width height : ℕ) → List Item → List (List ℕ)
claimed_rle_lines rule generation x y width height items =
    (codes "#CXRLE Pos=" ++ signed_decimal x ++ codes "," ++ signed_decimal y ++ (if generation == 0 then [] else codes " Gen=" ++ decimal generation))
    ∷ (codes "x = " ++ decimal width ++ codes ", y = " ++ decimal height ++ codes ", rule = " ++ claimed_rule_text rule)
    ∷ in_lines [] (map (claimed_item_text rule) items ++ codes "!" ∷ [])

-- those of cells in a box; without cells it is at (0, 0), and its sides are 0
abbrev pub box_lines : Rule → ℕ → Option Bounds → List Cell → List (List ℕ)
box_lines rule generation None cells = claimed_rle_lines rule generation (pos 0) (pos 0) 0 0 []
box_lines rule generation (Some box) cells =
    claimed_rle_lines rule generation box.left box.top (nat_abs (box.right -ℤ box.left) + 1) (nat_abs (box.bottom -ℤ box.top) + 1)
    (items_of_cells box.left box.left box.top cells)

-- the text of a pattern in extended RLE: that of its cells with a state other than 0, and of their box
pub record IsRleOfPattern (pattern : Pattern) (text : List ℕ) : Type 0 where
  pub cells : List Cell
  pub are : AreClaimedCells pattern.cell cells
  pub box : Option Bounds
  pub is_box : IsBox pattern.cell box
  pub is : text ≡ flat_map (λ line. line ++ codes "\n") (box_lines pattern.rule pattern.generation box cells)
