-- What seems damaged in a file that is accepted: which warning is given of it, by its bytes. The rules of this file are the project's own.
use Rattle.std.specs.Prelude.{ℕ, ◌+◌, ◌*◌, ◌-◌, ◌^◌, Bool, false, not, min, max, ◌&&◌, ◌||◌, List, [], ◌∷◌, ◌++◌, drop, filter, Option, None, Some, ◌==◌, nat_le, nat_lt, if◌then◌else◌, codes}
use Rattle.std.specs.List.{list_all, list_any}
use Rattle.std.specs.Char.{is_ascii_digit}
use Rattle.std.specs.Str.{byte}
use Rattle.life_base.specs.Text.{begins_with, is_empty, onto_first, trim_start}
use Rattle.file_hints.specs.Recognition.{first_text, has_byte, lines_but_first}
use Rattle.file_hints.specs.declared.warnings.Warning.{Warning}
use Rattle.file_hints.specs.declared.warnings.Warning.TheVariants as warnings

-- the first byte of the text, if it has one, passes a test
abbrev pub starts_by : (ℕ → Bool) → List ℕ → Bool
starts_by test [] = false
starts_by test (b ∷ text) = test b

-- the lines that have ended, each at its line feed, and then the bytes after the last line feed, whether there are any or not
abbrev pub lines_and_rest : List ℕ → List (List ℕ)
lines_and_rest [] = [] ∷ []
lines_and_rest (b ∷ bytes) = if b == byte "\n" then [] ∷ lines_and_rest bytes else onto_first b (lines_and_rest bytes)

-- the line is a comment
abbrev pub is_comment_line : List ℕ → Bool
is_comment_line line = starts_by (λ b. b == byte "#") line

-- ---- macrocell

-- the byte is a carriage return
abbrev pub is_return : ℕ → Bool
is_return b = b == byte "\r"

-- a carriage return of the line has another byte after it
abbrev pub has_return_inside : List ℕ → Bool
has_return_inside [] = false
has_return_inside (b ∷ line) = if is_return b then not (list_all is_return line) else has_return_inside line

-- the byte is a count of neighbours
abbrev pub is_neighbour_count : ℕ → Bool
is_neighbour_count b = nat_le (byte "0") b && nat_le b (byte "8")

-- the byte begins the births or the survivals of a rule
abbrev pub is_set_letter : ℕ → Bool
is_set_letter b = b == byte "B" || b == byte "b" || b == byte "S" || b == byte "s"

-- the text without the counts at its beginning
abbrev pub without_counts : List ℕ → List ℕ
without_counts [] = []
without_counts (b ∷ text) = if is_neighbour_count b then without_counts text else b ∷ text

-- the text begins as a rule does: with `B3`, or with `23/`
abbrev pub begins_as_rule : List ℕ → Bool
begins_as_rule text =
    (starts_by is_set_letter text && starts_by is_neighbour_count (drop 1 text)) || starts_by (λ b. b == byte "/") (without_counts text)

-- what follows the `#` of a line would be a rule or a generation, if a space came after the letter
abbrev pub is_mark_without_space : List ℕ → Bool
is_mark_without_space text =
    (starts_by (λ b. b == byte "R") text && begins_as_rule (drop 1 text))
    || (starts_by (λ b. b == byte "G") text && starts_by is_ascii_digit (drop 1 text))

-- the line is a comment, and would be a rule or a generation if it had a space
abbrev pub lacks_space : List ℕ → Bool
lacks_space line = is_comment_line line && is_mark_without_space (drop 1 line)

-- the line is neither blank nor a comment
abbrev pub is_line_of_squares : List ℕ → Bool
is_line_of_squares line = starts_by (λ b. not (b == byte "#")) (trim_start line)

-- the warning by the lines after the first: that of the first one that has ended and lacks a space, or that has squares
abbrev pub warning_of_lines : List (List ℕ) → Option Warning
warning_of_lines [] = Some warnings.NoSquares
warning_of_lines (line ∷ lines) =
    if lacks_space line && not (is_empty lines) then Some warnings.Comment
    else (if is_line_of_squares line then None else warning_of_lines lines)

-- the warning of a file in macrocell, by its lines and the rest
abbrev pub macrocell_warning : List (List ℕ) → Option Warning
macrocell_warning lines =
    if has_return_inside (first_text lines) then Some warnings.Return else warning_of_lines (lines_but_first lines)

-- ---- RLE

-- the text before the first such byte; all of it, if there is none
abbrev pub text_before : ℕ → List ℕ → List ℕ
text_before wanted [] = []
text_before wanted (b ∷ text) = if b == wanted then [] else b ∷ text_before wanted text

-- the text after the first such byte; nothing, if there is none
abbrev pub text_after : ℕ → List ℕ → List ℕ
text_after wanted [] = []
text_after wanted (b ∷ text) = if b == wanted then text else text_after wanted text

-- the byte is a digit other than 0
abbrev pub is_size_digit : ℕ → Bool
is_size_digit b = nat_le (byte "1") b && nat_le b (byte "9")

-- the header gives a size above 0: before its rule it has a digit other than 0
abbrev pub gives_size : List ℕ → Bool
gives_size header = list_any is_size_digit (text_before (byte "r") header)

-- a number with one digit more after it; above 2^64 - 1 it counts as that
abbrev pub with_digit : ℕ → ℕ → ℕ
with_digit number digit = min (2 ^ 64 - 1) (10 * number + (digit - byte "0"))

-- the number whose digits are this number's and then those of the text, whatever else the text has
abbrev pub number_from : ℕ → List ℕ → ℕ
number_from number [] = number
number_from number (b ∷ text) = number_from (if is_ascii_digit b then with_digit number b else number) text

-- the height that the header gives: the digits between its `y` and its rule
abbrev pub height_of : List ℕ → ℕ
height_of header = number_from 0 (text_after (byte "y") (text_before (byte "r") header))

-- a line of these has the `!`
abbrev pub has_mark : List (List ℕ) → Bool
has_mark lines = list_any (has_byte (byte "!")) lines

-- the items of the lines: all before the `!`, with a line feed after each line
abbrev pub items_before_mark : List (List ℕ) → List ℕ
items_before_mark [] = []
items_before_mark (line ∷ lines) =
    if has_byte (byte "!") line then text_before (byte "!") line else line ++ byte "\n" ∷ items_before_mark lines

-- what follows the `!`: the rest of its line, and the lines after that
abbrev pub lines_after_mark : List (List ℕ) → List (List ℕ)
lines_after_mark [] = []
lines_after_mark (line ∷ lines) = if has_byte (byte "!") line then text_after (byte "!") line ∷ lines else lines_after_mark lines

-- the byte writes a live cell, or comes before the letter of one
abbrev pub is_live_byte : ℕ → Bool
is_live_byte b = (nat_le (byte "o") b && nat_le b (byte "y")) || (nat_le (byte "A") b && nat_le b (byte "X"))

-- the byte is neither whitespace nor of a count
abbrev pub is_state_byte : ℕ → Bool
is_state_byte b = nat_lt (byte " ") b && not (is_ascii_digit b)

-- How many rows items have, where the first item has this count so far: a `$` ends as many as its count says, and one without a count; and the last row
-- counts, if it has a state, or had one before these items.
abbrev pub rows_from : ℕ → Bool → List ℕ → ℕ
rows_from count is_begun [] = if is_begun then 1 else 0
rows_from count is_begun (b ∷ items) =
    if b == byte "$" then max 1 count + rows_from 0 false items
    else (if is_ascii_digit b then rows_from (with_digit count b) is_begun items
    else rows_from 0 (is_begun || is_state_byte b) items)

-- the line begins as a header does: `x`, `=`, with whitespace before each or without
abbrev pub begins_as_header : List ℕ → Bool
begins_as_header line =
    starts_by (λ b. b == byte "x") (trim_start line) && starts_by (λ b. b == byte "=") (trim_start (drop 1 (trim_start line)))

-- the warning by what follows the `!`
abbrev pub warning_after_mark : List (List ℕ) → Option Warning
warning_after_mark lines = if list_any begins_as_header lines then Some warnings.Joined else None

-- the warning by the lines after the header that are no comments, where the header gives a size or none, and this height
abbrev pub warning_of_items : Bool → ℕ → List (List ℕ) → Option Warning
warning_of_items has_size height lines =
    if has_size && not (list_any is_live_byte (items_before_mark lines)) then Some warnings.NoCells
    else (if has_mark lines then warning_after_mark (lines_after_mark lines)
    else (if nat_lt (rows_from 0 false (items_before_mark lines)) height then Some warnings.Cut else None))

-- the lines that are no comments
abbrev pub lines_of_items : List (List ℕ) → List (List ℕ)
lines_of_items lines = filter (λ line. not (is_comment_line line)) lines

-- the warning of a file in RLE, by its lines and the rest: the first that begins with `x` is the header
abbrev pub rle_warning : List (List ℕ) → Option Warning
rle_warning [] = None
rle_warning (line ∷ lines) =
    if starts_by (λ b. b == byte "x") line then warning_of_items (gives_size line) (height_of line) (lines_of_items lines)
    else rle_warning lines

-- ---- a file

-- the warning by the lines of a file and the rest: macrocell begins with `[M2]`, and RLE doesn't begin with `[`
abbrev pub file_warning : List (List ℕ) → Option Warning
file_warning lines =
    if begins_with (first_text lines) (codes "[M2]") then macrocell_warning lines
    else (if begins_with (first_text lines) (codes "[") then None else rle_warning lines)

-- The warning of a file with these bytes, if it is accepted: why it is probably meant otherwise than it is read.
abbrev pub warning_of : List ℕ → Option Warning
warning_of bytes = file_warning (lines_and_rest bytes)
