-- The items of a pattern, and how a line spells them. States, `$` and `!` are of Golly Help (File Formats, Extended RLE format); the limits of
-- counts, the kinds and their order are the project's own.
use Rattle.std.specs.Prelude.{◌≡◌, ℕ, List, [], ◌∷◌, drop, take_while, Option, Some, None, if◌then◌else◌, ◌==◌, nat_lt}
use Rattle.std.specs.Char.{is_ascii_digit}
use Rattle.std.specs.List.{prefix_len}
use Rattle.std.specs.Str.{byte}
use Rattle.life_base.specs.declared.kind.Kind.{Kind}
use Rattle.life_base.specs.declared.kind.Kind.TheVariants.{ZeroCount, TooLarge, BadItem}
use Rattle.life_base.specs.Text.{trim_start, value_of}
use Rattle.life_rle.specs.declared.item.Item.{Item}
use Rattle.life_rle.specs.declared.item.Item.TheVariants.{Cells, RowEnds}
use Rattle.life_rle.specs.Plane.{most_count}
use Rattle.life_rle.specs.States.{leading_state}

-- the digits at the beginning of a text
abbrev pub leading_digits : List ℕ → List ℕ
leading_digits text = take_while is_ascii_digit text

-- what comes after the digits at the beginning of a text
abbrev pub after_digits_of : List ℕ → List ℕ
after_digits_of text = drop (prefix_len is_ascii_digit text) text

-- what stands in an item's place: nothing, the mark `!`, an item and the bytes after it, or none of these
pub data Next : Type 0 where
  End : Next
  Mark : Next
  Spelled : (item : Item) (rest : List ℕ) → Next
  Broken : (kind : Kind) → Next

-- cells of the state that was found, if one was
abbrev pub next_of_cells : ℕ → Option (ℕ × List ℕ) → Next
next_of_cells count None = Broken BadItem
next_of_cells count (Some found) = Spelled (Cells count found.0) found.1

-- an item with this count, whose `$` or state is at the beginning of the bytes
abbrev pub item_after : ℕ → List ℕ → Next
item_after count [] = Broken BadItem
item_after count (b ∷ bytes) = if b == byte "$" then Spelled (RowEnds count) bytes else next_of_cells count (leading_state (b ∷ bytes))

-- an item with these digits first; without digits the count is 1, and else from 1 to the width of the plane
abbrev pub item_with_digits : ℕ → List ℕ → List ℕ → Next
item_with_digits level [] bytes = item_after 1 bytes
item_with_digits level (d ∷ digits) bytes =
    if value_of (d ∷ digits) == 0 then Broken ZeroCount
    else if nat_lt (most_count level) (value_of (d ∷ digits)) then Broken TooLarge
    else item_after (value_of (d ∷ digits)) bytes

-- what is at the beginning of bytes that begin without whitespace
abbrev pub item_in : ℕ → List ℕ → Next
item_in level [] = End
item_in level (b ∷ bytes) = if b == byte "!" then Mark else item_with_digits level (leading_digits (b ∷ bytes)) (after_digits_of (b ∷ bytes))

-- what stands in the next item's place, whitespace passed over
abbrev pub next_of : ℕ → List ℕ → Next
next_of level bytes = item_in level (trim_start bytes)

-- the bytes spell these items, one after another, and then `last` stands in an item's place
abbrev pub Spells : ℕ → List ℕ → List Item → Next → Type 0
Spells level bytes [] last = next_of level bytes ≡ last
Spells level bytes (item ∷ items) last = (rest : List ℕ) × (next_of level bytes ≡ Spelled item rest) × Spells level rest items last
