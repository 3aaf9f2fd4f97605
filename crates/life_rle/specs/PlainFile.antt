-- RLE files, said of whole texts: which lines are a file, and what each of them is put together from. What `!` ends, which lines are data, and what
-- header lines and items are, is of Golly Help (File Formats, Extended RLE format); the limit of a line and the plane are the project's own.
use Rattle.std.specs.Prelude.{◌≡◌, ◌↔◌, ◌⊎◌, ℕ, ◌≤◌, ◌^◌, true, false, List, [], ◌∷◌, ◌++◌, length, ℤ, pos, ◌+ℤ◌, ◌≤ℤ◌, ◌<ℤ◌, Some, None, Ok, codes}
use Rattle.std.specs.Str.{byte}
use Rattle.life_base.specs.declared.rule.Rule.{Rule}
use Rattle.life_base.specs.Rules.{rule_of, default_rule}
use Rattle.life_base.specs.Text.{is_blank, begins_with}
use Rattle.life_rle.specs.declared.item.Item.{Item}
use Rattle.life_rle.specs.declared.item.Item.TheVariants.{Cells, RowEnds}
use Rattle.life_rle.specs.declared.position.Position.{Position}
use Rattle.life_rle.specs.Plane.{rle_plane_end}
use Rattle.life_rle.specs.States.{is_state_of}
use Rattle.life_rle.specs.Position.{default_position, is_position_line}
use Rattle.life_rle.specs.Pattern.{Rle, PlacedItem}
use Rattle.life_rle.specs.ItemsLaw.{IsItem}
use Rattle.life_rle.specs.Plain.{IsHeaderLine, IsTextOfItems}
use Rattle.life_rle.specs.PlainPosition.{IsPositionText}
use Rattle.life_rle.specs.Grammar.{IsRle, IsOpenBy, IsEndedBy}

-- a line that isn't too long
abbrev pub IsShortLine : List ℕ → Type 0
IsShortLine line = length line ≤ 2 ^ 20

-- a line that says nothing: whitespace alone, or `#` before what is no position line
abbrev pub IsRleComment : List ℕ → Type 0
IsRleComment line = (is_blank line ≡ true) ⊎ ((begins_with line (codes "#") ≡ true) × (is_position_line line ≡ false))

-- comments and position lines; the last position line gives the position, and where there is none, it is the position given (the second argument)
abbrev pub ArePreamble : ℕ → Position → List (List ℕ) → Position → Type 0
ArePreamble level given [] position = position ≡ given
ArePreamble level given (line ∷ lines) position =
    IsShortLine line × ((IsRleComment line × ArePreamble level given lines position)
    ⊎ ((here : Position) × IsPositionText level line here × ArePreamble level here lines position))

-- a header line of this rule; B3/S23 where it names none
abbrev pub IsRleRuleLine : List ℕ → Rule → Type 0
IsRleRuleLine line rule = (IsHeaderLine line None × (rule ≡ default_rule)) ⊎ ((text : List ℕ) × IsHeaderLine line (Some text) × (rule_of text ≡ Ok rule))

-- a line of data: not blank, and beginning with neither `#`, nor `x` and a space, nor `x=`
pub record IsData (line : List ℕ) : Type 0 where
  pub visible : is_blank line ≡ false
  pub no_comment : begins_with line (codes "#") ≡ false
  pub no_header : begins_with line (codes "x ") ≡ false
  pub no_other_header : begins_with line (codes "x=") ≡ false

-- a line after the header up to its end: a comment, or the texts of these items
abbrev pub IsBodyLine : ℕ → List ℕ → List Item → Type 0
IsBodyLine level line items = IsShortLine line × ((IsRleComment line × (items ≡ [])) ⊎ (IsData line × IsTextOfItems level line items []))

-- the line with `!`: the texts of these items before it, and anything after it
abbrev pub IsLastLine : ℕ → List ℕ → List Item → Type 0
IsLastLine level line items = IsShortLine line × IsData line × ((free : List ℕ) × IsTextOfItems level line items (byte "!" ∷ free))

-- lines after the header, of these items together
abbrev pub AreBody : ℕ → List (List ℕ) → List Item → Type 0
AreBody level [] items = items ≡ []
AreBody level (line ∷ lines) items = (first rest : List Item) × (items ≡ first ++ rest) × IsBodyLine level line first × AreBody level lines rest

-- where an item may stand: cells of a state of the rule in the plane; row ends may bring the row to the edge and no further
abbrev pub MayStand : ℕ → Rule → ℤ → ℤ → Item → Type 0
MayStand level rule row column (Cells count state) = (is_state_of rule state ≡ true) × (row <ℤ rle_plane_end level)
    × ((column +ℤ pos count) ≤ℤ rle_plane_end level)
MayStand level rule row column (RowEnds count) = (row +ℤ pos count) ≤ℤ rle_plane_end level

-- each item of the file stands where it may
abbrev pub AreInPlace : ℕ → Rle → Type 0
AreInPlace level file = (i : ℕ) (p : PlacedItem) → IsItem file i p → MayStand level file.rule p.row p.column p.item

-- a file without `!`: comments and position lines, the header, and the lines of its items (`IsOpenBy` of Grammar.antt says where they stand)
abbrev pub IsOpenFile : ℕ → List (List ℕ) → Rle → Type 0
IsOpenFile level =
    IsOpenBy (ArePreamble level default_position) (λ line rule. IsShortLine line × IsRleRuleLine line rule) (AreBody level) (AreInPlace level)

-- a file without `!`, then the line with `!`, and then any lines (`IsEndedBy` of Grammar.antt)
abbrev pub IsEndedFile : ℕ → List (List ℕ) → Rle → Type 0
IsEndedFile level = IsEndedBy (IsOpenFile level) (IsLastLine level) (AreInPlace level)

abbrev pub IsPlainRle : ℕ → List (List ℕ) → Rle → Type 0
IsPlainRle level lines file = IsOpenFile level lines file ⊎ IsEndedFile level lines file

-- lines are an RLE file exactly if they are one in these words
abbrev pub FilesArePlain : Type 0
FilesArePlain = (level : ℕ) (lines : List (List ℕ)) (file : Rle) → IsRle level lines file ↔ IsPlainRle level lines file
