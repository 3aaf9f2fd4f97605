-- Which lines are an RLE file, of which pattern, and which rule a line breaks. What `!` ends, and which lines are data (those that begin with `x` and
-- a letter too), is of Golly Help (File Formats, Extended RLE format); the limit of a line, the kinds and their order are the project's own.
use Rattle.std.specs.Prelude.{◌≡◌, ℕ, ◌⊎◌, ◌||◌, Bool, List, [], ◌∷◌, ◌++◌, Option, Some, None, Result, Ok, Err, if◌then◌else◌, codes}
use Rattle.life_base.specs.Kinds.{is_one_of, pattern_kinds}
use Rattle.life_base.specs.declared.kind.Kind.{Kind}
use Rattle.life_base.specs.declared.kind.Kind.TheVariants.{LineTooLong, NoHeader, LateHeader, SecondHeader}
use Rattle.life_base.specs.declared.kind.Kind.TheVariants as kinds
use Rattle.life_base.specs.declared.rule.Rule.{Rule}
use Rattle.life_base.specs.Text.{is_too_long, is_blank, begins_with}
use Rattle.life_rle.specs.declared.item.Item.{Item}
use Rattle.life_rle.specs.declared.position.Position.{Position}
use Rattle.life_rle.specs.declared.line.Opening.{Opening}
use Rattle.life_rle.specs.declared.line.Opening.TheVariants.{Comment, PositionLine, Header}
use Rattle.life_rle.specs.declared.line.Later.{Later}
use Rattle.life_rle.specs.declared.line.Later.TheVariants.{Passed, Data}
use Rattle.life_rle.specs.Items.{Next, End, Mark, Broken, Spelled, Spells}
use Rattle.life_rle.specs.Position.{default_position, and_then, is_position_line, position_of}
use Rattle.life_rle.specs.Header.{header_of}
use Rattle.life_rle.specs.Pattern.{Rle, placed_items, placed_item, placed_fault, placed_after, first_fault}

-- what a line is before the header: a comment (or blank), a position line, or the header
abbrev pub opening_of : ℕ → List ℕ → Result Opening Kind
opening_of level line =
    if is_too_long line then Err LineTooLong
    else if is_blank line then Ok Comment
    else if is_position_line line then and_then (position_of level line) (λ position. Ok (PositionLine position))
    else if begins_with line (codes "#") then Ok Comment
    else if begins_with line (codes "x") then and_then (header_of line) (λ rule. Ok (Header rule))
    else Err NoHeader

-- what a line is after the header: passed over, or data
abbrev pub later_of : List ℕ → Result Later Kind
later_of line =
    if is_too_long line then Err LineTooLong
    else if is_blank line then Ok Passed
    else if is_position_line line then Err LateHeader
    else if begins_with line (codes "#") then Ok Passed
    else if begins_with line (codes "x ") || begins_with line (codes "x=") then Err SecondHeader
    else Ok Data

-- comments and position lines; the last position line gives the position, and where there is none, it is the position given (the second argument)
abbrev pub IsPreamble : ℕ → Position → List (List ℕ) → Position → Type 0
IsPreamble level given [] position = position ≡ given
IsPreamble level given (line ∷ lines) position =
    ((opening_of level line ≡ Ok Comment) × IsPreamble level given lines position)
    ⊎ ((here : Position) × (opening_of level line ≡ Ok (PositionLine here)) × IsPreamble level here lines position)

-- a line after the header that spells these items, and then `last` stands in an item's place
abbrev pub LineSpells : ℕ → List ℕ → List Item → Next → Type 0
LineSpells level line items last =
    ((later_of line ≡ Ok Passed) × (items ≡ []) × (last ≡ End))
    ⊎ ((later_of line ≡ Ok Data) × Spells level line items last)

-- lines after the header that spell these items together, with no `!` in an item's place
abbrev pub BodySpells : ℕ → List (List ℕ) → List Item → Type 0
BodySpells level [] items = items ≡ []
BodySpells level (line ∷ lines) items =
    (first rest : List Item) × (items ≡ first ++ rest) × LineSpells level line first End × BodySpells level lines rest

-- lines before the header, the header, and lines of items after it, with these words for each part
pub record IsOpenBy (ArePreamble : List (List ℕ) → Position → Type 0) (IsHeader : List ℕ → Rule → Type 0) (AreItems : List (List ℕ) → List Item → Type 0)
    (IsSound : Rle → Type 0) (lines : List (List ℕ)) (file : Rle) : Type 0 where
  pub before : List (List ℕ)
  pub header : List ℕ
  pub body : List (List ℕ)
  pub whole : lines ≡ before ++ header ∷ body
  pub preamble : ArePreamble before file.position
  pub rule : IsHeader header file.rule
  pub items : AreItems body file.items
  pub sound : IsSound file

-- lines of the earlier items, the line that ends them with the final ones, and lines after it, which are free, with these words for each part
pub record IsEndedBy (IsOpen : List (List ℕ) → Rle → Type 0) (IsLast : List ℕ → List Item → Type 0) (IsSound : Rle → Type 0) (lines : List (List ℕ))
    (file : Rle) : Type 0 where
  pub prefix : List (List ℕ)
  pub last : List ℕ
  pub free : List (List ℕ)
  pub whole : lines ≡ prefix ++ last ∷ free
  pub earlier : List Item
  pub final : List Item
  pub items : file.items ≡ earlier ++ final
  pub begun : IsOpen prefix (record file { items = earlier })
  pub marked : IsLast last final
  pub sound : IsSound file

-- no item breaks a rule
abbrev pub HasNoFault : ℕ → Rle → Type 0
HasNoFault level file = first_fault level file.rule (placed_items file) ≡ None

-- a header stands in the lines, and no `!` has ended the pattern: the end of the input ends it
abbrev pub IsUnmarked : ℕ → List (List ℕ) → Rle → Type 0
IsUnmarked level =
    IsOpenBy (IsPreamble level default_position) (λ line rule. opening_of level line ≡ Ok (Header rule)) (BodySpells level) (HasNoFault level)

-- a line's `!` ends the pattern, and the lines after it are free
abbrev pub IsMarked : ℕ → List (List ℕ) → Rle → Type 0
IsMarked level = IsEndedBy (IsUnmarked level) (λ line items. LineSpells level line items Mark) (HasNoFault level)

-- the lines are an RLE file of this rule, position and list of items
abbrev pub IsRle : ℕ → List (List ℕ) → Rle → Type 0
IsRle level lines file = IsUnmarked level lines file ⊎ IsMarked level lines file

-- the lines are an RLE file
abbrev pub IsSomeRle : ℕ → List (List ℕ) → Type 0
IsSomeRle level lines = (file : Rle) × IsRle level lines file

-- which rule an item breaks first that follows more items of a file
abbrev pub fault_after : ℕ → Rle → List Item → Item → Option Kind
fault_after level file items item = placed_fault level file.rule (placed_item file.position (file.items ++ items) item)

-- which rule the line breaks first after these lines
pub data BreaksRle (level : ℕ) (prefix : List (List ℕ)) (line : List ℕ) (kind : Kind) : Type 0 where
  -- as a line before the header
  before_header : (position : Position) → IsPreamble level default_position prefix position → opening_of level line ≡ Err kind
      → BreaksRle level prefix line kind
  -- as a line after the header, before its items
  by_form : (file : Rle) → IsUnmarked level prefix file → later_of line ≡ Err kind → BreaksRle level prefix line kind
  -- after items that break none, in the place of an item
  by_text : (file : Rle) (items : List Item) → IsUnmarked level prefix file → later_of line ≡ Ok Data → Spells level line items (Broken kind)
      → first_fault level file.rule (placed_after file.position file.items items) ≡ None → BreaksRle level prefix line kind
  -- after items that break none, by an item
  by_item : (file : Rle) (items : List Item) (item : Item) (rest : List ℕ) → IsUnmarked level prefix file → later_of line ≡ Ok Data
      → Spells level line items (Spelled item rest)
      → first_fault level file.rule (placed_after file.position file.items items) ≡ None → fault_after level file items item ≡ Some kind
      → BreaksRle level prefix line kind

-- the kinds of rule that a line of RLE can break
abbrev pub is_rle_kind : Kind → Bool
is_rle_kind kind = is_one_of (kinds.BadHeader ∷ kinds.BadItem ∷ kinds.ZeroCount ∷ kinds.OutOfPlane ∷ kinds.SecondHeader ∷ pattern_kinds) kind
