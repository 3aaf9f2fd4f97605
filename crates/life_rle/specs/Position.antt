-- Position lines, `#CXRLE Pos=X,Y Gen=G`. What Pos and Gen mean is of Golly Help (File Formats, Extended RLE); the form, the checks, their
-- order and the defaults are the project's own.
use Rattle.std.specs.Prelude.{ℕ, Bool, ◌&&◌, List, [], ◌∷◌, take, drop, ℤ, pos, neg_ℤ, Option, Some, None, Result, Ok, Err, if◌then◌else◌, ◌==◌, codes}
use Rattle.std.specs.List.{before_first, after_first}
use Rattle.std.specs.Str.{byte}
use Rattle.life_base.specs.declared.kind.Kind.{Kind}
use Rattle.life_base.specs.declared.kind.Kind.TheVariants.{BadNumber, OutOfPlane}
use Rattle.life_base.specs.Text.{is_blank, is_digit_text, value_of, begins_with, words_of}
use Rattle.life_base.specs.Numbers.{u64_of}
use Rattle.life_rle.specs.declared.position.Position.{Position}
use Rattle.life_rle.specs.Plane.{is_coordinate}

-- without a position line the upper left cell lies at (0, 0), and the generation is 0
abbrev pub default_position : Position
default_position = record { x = pos 0; y = pos 0; generation = 0 }

-- a line that begins with `#CXRLE`, followed by whitespace or by its end
abbrev pub is_position_line : List ℕ → Bool
is_position_line line = begins_with line (codes "#CXRLE") && is_blank (take 1 (drop 6 line))

-- the number that a text writes, however long it is: a digit text, or `-` and a digit text
abbrev pub signed_number : List ℕ → Option ℤ
signed_number text =
    if begins_with text (codes "-") then (if is_digit_text (drop 1 text) then Some (neg_ℤ (pos (value_of (drop 1 text)))) else None)
    else (if is_digit_text text then Some (pos (value_of text)) else None)

-- what a field of a position line gives: a corner, a generation or nothing
pub data Field : Type 0 where
  Corner : (x y : ℤ) → Field
  Generation : (generation : ℕ) → Field
  Other : Field

-- the result of the next step, unless this one is refused
abbrev pub and_then : {A B : Type 0} → Result A Kind → (A → Result B Kind) → Result B Kind
and_then (Ok a) f = f a
and_then (Err kind) f = Err kind

-- a corner of two numbers, both in the plane
abbrev pub corner_of : ℕ → Option ℤ → Option ℤ → Result Field Kind
corner_of level (Some x) (Some y) = if is_coordinate level x && is_coordinate level y then Ok (Corner x y) else Err OutOfPlane
corner_of level None y = Err BadNumber
corner_of level (Some x) None = Err BadNumber

-- the corner that a text gives: two numbers with a comma between them
abbrev pub corner_in : ℕ → List ℕ → Result Field Kind
corner_in level text = corner_of level (signed_number (before_first (λ b. b == byte ",") text)) (signed_number (after_first (λ b. b == byte ",") text))

-- what one field gives: `Pos=` with a corner, `Gen=` with a generation below 2 ^ 64, or any other text
abbrev pub field_of : ℕ → List ℕ → Result Field Kind
field_of level text =
    if begins_with text (codes "Pos=") then corner_in level (drop 4 text)
    else if begins_with text (codes "Gen=") then and_then (u64_of (drop 4 text)) (λ n. Ok (Generation n))
    else Ok Other

-- the position with what a field gives in place of what it had
abbrev pub position_with_field : Position → Field → Position
position_with_field position (Corner x y) = record { x = x; y = y; generation = position.generation }
position_with_field position (Generation n) = record { x = position.x; y = position.y; generation = n }
position_with_field position Other = position

-- the fields are checked from left to right, and of several of one name the last counts
abbrev pub position_with : ℕ → Position → List (List ℕ) → Result Position Kind
position_with level position [] = Ok position
position_with level position (field ∷ fields) = and_then (field_of level field) (λ found. position_with level (position_with_field position found) fields)

-- the position that a position line gives: its fields are separated by whitespace
abbrev pub position_of : ℕ → List ℕ → Result Position Kind
position_of level line = position_with level default_position (words_of (drop 6 line))
