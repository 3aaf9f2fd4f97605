-- The forms of lines, said of whole texts: what a line of data and a header line are put together from. States and header
-- tokens are of Golly Help (File Formats, RLE); the bounds of counts are the project's own.
use Rattle.std.specs.Prelude.{◌≡◌, ℕ, ◌+◌, ◌*◌, ◌<◌, ◌≤◌, ◌⊎◌, ◌↔◌, true, false, List, [], ◌∷◌, ◌++◌, Option, Some, None, codes}
use Rattle.std.specs.Char.{is_ascii_digit}
use Rattle.std.specs.Str.{byte}
use Rattle.life_base.specs.declared.kind.Kind.{Kind}
use Rattle.life_base.specs.declared.kind.Kind.TheVariants.{ZeroCount, TooLarge, BadItem}
use Rattle.life_base.specs.Text.{is_whitespace, is_blank, is_digit_text, value_of}
use Rattle.life_rle.specs.declared.item.Item.{Item}
use Rattle.life_rle.specs.declared.item.Item.TheVariants.{Cells, RowEnds}
use Rattle.life_rle.specs.Plane.{most_count}
use Rattle.life_rle.specs.Header.{header_form}
use Rattle.life_rle.specs.Items.{End, Mark, Spelled, Broken, Spells}

-- the text of a state: `b`, `.`, `o`, a letter by its place after `A`, or a prefix and a letter by their places after `p` and `A`
pub data IsStateText (text : List ℕ) (state : ℕ) : Type 0 where
  letter_b : text ≡ codes "b" → state ≡ 0 → IsStateText text state
  dot : text ≡ codes "." → state ≡ 0 → IsStateText text state
  letter_o : text ≡ codes "o" → state ≡ 1 → IsStateText text state
  letter : (place : ℕ) → place < 24 → text ≡ (65 + place) ∷ [] → state ≡ place + 1 → IsStateText text state
  prefixed : (prefix place : ℕ) → prefix < 10 → place < 24 → text ≡ (112 + prefix) ∷ (65 + place) ∷ [] → state ≡ 24 * (prefix + 1) + (place + 1) → state ≤ 255
      → IsStateText text state

-- the text of a count: a digit text of its value, from 1 to the width of the plane; or nothing, for a count of 1
abbrev pub IsCountText : ℕ → List ℕ → ℕ → Type 0
IsCountText level text count =
    ((text ≡ []) × (count ≡ 1))
    ⊎ ((is_digit_text text ≡ true) × (count ≡ value_of text) × (0 < count) × (count ≤ most_count level))

-- the text of an item: its count, then the state or `$`
abbrev pub IsItemText : ℕ → List ℕ → Item → Type 0
IsItemText level text (Cells count state) = (digits last : List ℕ) × (text ≡ digits ++ last) × IsCountText level digits count × IsStateText last state
IsItemText level text (RowEnds count) = (digits last : List ℕ) × (text ≡ digits ++ last) × IsCountText level digits count × (last ≡ codes "$")

-- a line of texts of these items, each with any whitespace before it, then any whitespace, then these bytes
abbrev pub IsTextOfItems : ℕ → List ℕ → List Item → List ℕ → Type 0
IsTextOfItems level line [] rest = (space : List ℕ) × (is_blank space ≡ true) × (line ≡ space ++ rest)
IsTextOfItems level line (item ∷ items) rest =
    (space text more : List ℕ) × (is_blank space ≡ true) × IsItemText level text item × (line ≡ space ++ (text ++ more)) × IsTextOfItems level more items rest

-- Reading a line finds items and its end exactly if the line is their texts; items and `!` exactly if it is their texts, `!` and anything
-- after it; and items, one more and a rest exactly if it is their texts, that item's and the rest.
abbrev pub ItemsArePlain : Type 0
ItemsArePlain =
    (level : ℕ) (line : List ℕ) (items : List Item)
    → (Spells level line items End ↔ IsTextOfItems level line items [])
    × (Spells level line items Mark ↔ ((free : List ℕ) × IsTextOfItems level line items (byte "!" ∷ free)))
    × ((item : Item) (rest : List ℕ) → Spells level line items (Spelled item rest)
    ↔ ((text : List ℕ) × IsItemText level text item × IsTextOfItems level line items (text ++ rest)))

-- tokens one after another, each with any whitespace after it, and then these bytes
abbrev pub AreTokens : List ℕ → List (List ℕ) → List ℕ → Type 0
AreTokens line [] rest = line ≡ rest
AreTokens line (token ∷ tokens) rest = (space more : List ℕ) × (is_blank space ≡ true) × (line ≡ token ++ (space ++ more)) × AreTokens more tokens rest

-- the tokens of a header up to the height
abbrev pub size_tokens : List ℕ → List ℕ → List (List ℕ)
size_tokens width height = codes "x" ∷ codes "=" ∷ width ∷ codes "," ∷ codes "y" ∷ codes "=" ∷ height ∷ []

-- a text that doesn't begin with whitespace
abbrev pub HasNoIndent : List ℕ → Type 0
HasNoIndent [] = Unit {0}
HasNoIndent (b ∷ text) = is_whitespace b ≡ false

-- a header line without a rule, or with this text of a rule
abbrev pub IsHeaderLine : List ℕ → Option (List ℕ) → Type 0
IsHeaderLine line None =
    (width height : List ℕ) × (is_digit_text width ≡ true) × (is_digit_text height ≡ true) × AreTokens line (size_tokens width height) []
IsHeaderLine line (Some text) =
    (width height : List ℕ) × (is_digit_text width ≡ true) × (is_digit_text height ≡ true)
    × AreTokens line (size_tokens width height ++ codes "," ∷ codes "rule" ∷ codes "=" ∷ []) text × HasNoIndent text

-- a line has the form of a header exactly if it is the tokens of one
abbrev pub HeadersArePlain : Type 0
HeadersArePlain = (line : List ℕ) (rule : Option (List ℕ)) → (header_form line ≡ Some rule) ↔ IsHeaderLine line rule

-- digits at the beginning of these bytes have ended
abbrev pub HasNoDigit : List ℕ → Type 0
HasNoDigit [] = Unit {0}
HasNoDigit (b ∷ bytes) = is_ascii_digit b ≡ false

-- beginning with neither a state nor `$`
abbrev pub HasNoState : List ℕ → Type 0
HasNoState bytes = ((text rest : List ℕ) (state : ℕ) → IsStateText text state → bytes ≡ text ++ rest → ⊥) × ((rest : List ℕ) → bytes ≡ codes "$" ++ rest → ⊥)

-- bytes that begin an item: something that begins with neither whitespace nor `!`
abbrev pub HasItemPlace : List ℕ → Type 0
HasItemPlace [] = ⊥
HasItemPlace (b ∷ bytes) = (is_whitespace b ≡ false) × ((b ≡ byte "!") → ⊥)

-- Which rule the bytes in an item's place break: a count of 0, a count above the width of the plane, or, after a count or without one,
-- neither a state nor `$`.
pub data IsNoItem (level : ℕ) (bytes : List ℕ) (kind : Kind) : Type 0 where
  zero_count : (digits rest : List ℕ) → bytes ≡ digits ++ rest → is_digit_text digits ≡ true → HasNoDigit rest → value_of digits ≡ 0 → kind ≡ ZeroCount
      → IsNoItem level bytes kind
  large_count : (digits rest : List ℕ) → bytes ≡ digits ++ rest → is_digit_text digits ≡ true → HasNoDigit rest → most_count level < value_of digits
      → kind ≡ TooLarge
      → IsNoItem level bytes kind
  no_state : (digits rest : List ℕ) (count : ℕ) → bytes ≡ digits ++ rest → IsCountText level digits count → HasNoDigit rest → HasNoState rest → kind ≡ BadItem
      → IsNoItem level bytes kind

-- Reading a line finds items and a fault exactly if the line is their texts, and then bytes that break this rule of items.
abbrev pub FaultsArePlain : Type 0
FaultsArePlain =
    (level : ℕ) (line : List ℕ) (items : List Item) (kind : Kind)
    → Spells level line items (Broken kind) ↔ ((rest : List ℕ) × IsTextOfItems level line items rest × HasItemPlace rest × IsNoItem level rest kind)
