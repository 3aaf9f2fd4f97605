-- Extended RLE files (Golly Help, File Formats, "Extended RLE format"): what each line says, what a file says, and which fault the first line has that
-- breaks a rule. Of Golly Help are that the header begins with `x` and is the first line that is neither blank nor begins with `#`, its tokens, that its
-- sizes count for nothing, which lines after it are data, the table of states, that a count stands immediately before its item, and what `Pos`, `Gen`,
-- `$` and `!` mean. This project's own are:
--   the plane and every limit, the kinds and the order of their tests, and what holds where a file names no place, no generation or no rule;
--   a header must stand, and once: Golly reads items without one, and Golly Help doesn't speak of a second one;
--   `#CXRLE` may stand on any line before the header, after comments too, and not between the header and `!`; whitespace or the line's end follows it;
--   `Pos=X,Y` and `Gen=G` are written without whitespace inside; other fields are passed over; of several such lines the last counts, as a whole;
--   the header's sizes are digits, and its rule is all that stands on the line after `rule =`;
--   a count is neither 0 nor above 2 ^ 62;
--   a state must be one of the rule: of a B/S rule 0 or 1.
use Rattle.std.specs.Prelude.{ℕ, ◌+◌, ◌-◌, ◌*◌, ◌^◌, Bool, true, false, not, ◌&&◌, ◌||◌, List, [], ◌∷◌, ◌++◌, length, drop, take_while, nat_le, nat_lt, ◌==◌, if◌then◌else◌, bytes_eq, codes, Option, Some, None, Result, Ok, Err, ℤ, pos, neg_ℤ, ◌+ℤ◌, int_le, int_lt}
use Rattle.std.specs.Char.{is_ascii_digit}
use Rattle.std.specs.List.{prefix_len, slice_split}
use Rattle.std.specs.Ordering.{int_eq}
use Rattle.std.specs.Str.{byte}
use Rattle.life_base.specs.Text.{is_empty, is_blank, is_too_long, begins_with, trim_start, is_digit_text, value_of, words_of, onto_first}
use Rattle.life_base.specs.declared.kind.Kind.{Kind}
use Rattle.life_base.specs.declared.kind.Kind.TheVariants.{NoHeader, BadHeader, BadNumber, TooLarge, BadItem, ZeroCount, StateRange, OutOfPlane, LateHeader, SecondHeader, LineTooLong}
use Rattle.claims.specs.Outcomes.{◌>>=◌}
use Rattle.claims.specs.Rules.{Rule, claimed_rule_of, claimed_default_rule, claimed_largest_state}
use Rattle.claims.specs.Pattern.{coordinate_bound, is_claimed_coordinate}
use Rattle.claims.specs.Macrocell.{is_claimed_command, generation_of}

-- where the first item stands, and the generation
pub record PositionFields : Type 0 where
  pub x : ℤ
  pub y : ℤ
  pub generation : ℕ

-- cells of one state side by side, or ends of rows
pub data Item : Type 0 where
  run : (count state : ℕ) → Item
  row_ends : (count : ℕ) → Item

-- what the lines from the header on say, and the position that the lines before it said
pub record ClaimedRle : Type 0 where
  pub rule : Rule
  pub position : PositionFields
  pub items : List Item

-- ---- the plane

-- the rows that items end
abbrev pub claimed_rows_in : List Item → ℕ
claimed_rows_in [] = 0
claimed_rows_in (run count state ∷ items) = claimed_rows_in items
claimed_rows_in (row_ends count ∷ items) = count + claimed_rows_in items

abbrev pub ends_rows : List Item → Bool
ends_rows [] = false
ends_rows (run count state ∷ items) = ends_rows items
ends_rows (row_ends count ∷ items) = true

-- the columns that items fill after the last end of rows
abbrev pub claimed_columns_in : List Item → ℕ
claimed_columns_in [] = 0
claimed_columns_in (run count state ∷ items) = if ends_rows items then claimed_columns_in items else count + claimed_columns_in items
claimed_columns_in (row_ends count ∷ items) = claimed_columns_in items

-- the row and the first column of what stands after these items
abbrev pub row_after : PositionFields → List Item → ℤ
row_after position before = position.y +ℤ pos (claimed_rows_in before)

abbrev pub column_after : PositionFields → List Item → ℤ
column_after position before = position.x +ℤ pos (claimed_columns_in before)

-- the state of the cell (x, y), by the items that stand after `before`: that of the cells that cover it, and 0 where none do
abbrev pub claimed_state_by : PositionFields → List Item → List Item → ℤ → ℤ → ℕ
claimed_state_by position before [] x y = 0
claimed_state_by position before (row_ends count ∷ items) x y = claimed_state_by position (before ++ row_ends count ∷ []) items x y
claimed_state_by position before (run count state ∷ items) x y =
    let column = column_after position before in
    if int_eq y (row_after position before) && int_le column x && int_lt x (column +ℤ pos count)
    then state else claimed_state_by position (before ++ run count state ∷ []) items x y

-- the state of the cell (x, y)
abbrev pub claimed_rle_cell : ClaimedRle → ℤ → ℤ → ℕ
claimed_rle_cell file x y = claimed_state_by file.position [] file.items x y

-- The items with one more after them, if it may stand there: its state is one of the rule, and its cells lie in the plane, those of state 0 too.
-- Ends of rows go as far as the row after the last one. The order of the two tests and the plane are this project's own.
abbrev pub with_item : ClaimedRle → Item → Result ClaimedRle Kind
with_item file (run count state) =
    if nat_lt (claimed_largest_state file.rule) state then Err StateRange
    else if int_lt (row_after file.position file.items) coordinate_bound && int_le (column_after file.position file.items +ℤ pos count) coordinate_bound
    then Ok (record file { items = file.items ++ run count state ∷ [] }) else Err OutOfPlane
with_item file (row_ends count) =
    if int_le (row_after file.position file.items +ℤ pos count) coordinate_bound
    then Ok (record file { items = file.items ++ row_ends count ∷ [] }) else Err OutOfPlane

-- ---- an item

-- the state of a text: `b` or `.`, `o`, a letter `A` to `X`, or a prefix `p` to `y` and a letter, at most 255
abbrev pub letter_state : ℕ → Option ℕ
letter_state b = if nat_le (byte "A") b && nat_le b (byte "X") then Some (b - byte "A" + 1) else None

abbrev pub claimed_prefixed_state : ℕ → Option ℕ → Option ℕ
claimed_prefixed_state p None = None
claimed_prefixed_state p (Some state) =
    let all = 24 * (p - byte "p" + 1) + state in
    if nat_le (byte "p") p && nat_le p (byte "y") && nat_le all 255 then Some all else None

abbrev pub claimed_state_of : List ℕ → Option ℕ
claimed_state_of (b ∷ []) = if b == byte "b" || b == byte "." then Some 0 else if b == byte "o" then Some 1 else letter_state b
claimed_state_of (p ∷ b ∷ []) = claimed_prefixed_state p (letter_state b)
claimed_state_of _ = None

-- a count, 1 where no digits are written; that it is not 0 and at most 2 ^ 62 is this project's own
abbrev pub claimed_count_of : List ℕ → Result ℕ Kind
claimed_count_of digits =
    if is_empty digits then Ok 1
    else if value_of digits == 0 then Err ZeroCount
    else if nat_lt (2 ^ 62) (value_of digits) then Err TooLarge
    else Ok (value_of digits)

abbrev pub claimed_run_of : ℕ → Option ℕ → Result Item Kind
claimed_run_of count (Some state) = Ok (run count state)
claimed_run_of count None = Err BadItem

-- the item of a text: a count, and `$` or a state right after it
abbrev pub claimed_item_of : List ℕ → Result Item Kind
claimed_item_of text =
    claimed_count_of (take_while is_ascii_digit text) >>= λ count.
    let last = drop (prefix_len is_ascii_digit text) text in
    if bytes_eq last (codes "$") then Ok (row_ends count) else claimed_run_of count (claimed_state_of last)

-- The texts of a line: each ends with the first byte that is neither a digit nor a prefix of a state, or with the line. So an item is one text, and so
-- is `!`, and a byte of whitespace between items. No text goes on into the next line.
abbrev pub claimed_texts_of : List ℕ → List (List ℕ)
claimed_texts_of [] = []
claimed_texts_of (b ∷ line) =
    if is_ascii_digit b || nat_le (byte "p") b && nat_le b (byte "y") then onto_first b (claimed_texts_of line) else (b ∷ []) ∷ claimed_texts_of line

-- ---- the lines

-- how far the lines so far go: to a line before the header, to one from the header on, or to the `!` that ends the pattern
pub data Lines : Type 0 where
  before_header : PositionFields → Lines
  after_header : ClaimedRle → Lines
  after_end : ClaimedRle → Lines

-- a line of data: items, and perhaps `!`, after which all is passed over
abbrev pub with_texts : ClaimedRle → List (List ℕ) → Result Lines Kind
with_texts file [] = Ok (after_header file)
with_texts file (text ∷ texts) =
    if is_blank text then with_texts file texts
    else if bytes_eq text (codes "!") then Ok (after_end file)
    else (claimed_item_of text >>= λ item. with_item file item >>= λ next. with_texts next texts)

-- the number of a text: digits, and perhaps `-` before them
abbrev pub claimed_number_of : List ℕ → Result ℤ Kind
claimed_number_of text =
    let digits = if begins_with text (codes "-") then drop 1 text else text in
    if not (is_digit_text digits) then Err BadNumber
    else Ok (if begins_with text (codes "-") then neg_ℤ (pos (value_of digits)) else pos (value_of digits))

-- a corner from the texts between commas: two numbers, with no whitespace around them, both in the plane
abbrev pub with_corner : PositionFields → List (List ℕ) → Result PositionFields Kind
with_corner position (left ∷ right ∷ []) =
    claimed_number_of left >>= λ x. claimed_number_of right >>= λ y.
    if is_claimed_coordinate x && is_claimed_coordinate y then Ok (record position { x = x; y = y }) else Err OutOfPlane
with_corner position _ = Err BadNumber

-- one field of a position line: `Pos=X,Y`, `Gen=G`, or another one, which is passed over
abbrev pub claimed_with_field : PositionFields → List ℕ → Result PositionFields Kind
claimed_with_field position field =
    if begins_with field (codes "Pos=") then with_corner position (slice_split (λ b. b == byte ",") (drop 4 field))
    else if begins_with field (codes "Gen=") then (generation_of (drop 4 field) >>= λ generation. Ok (record position { generation = generation }))
    else Ok position

abbrev pub with_fields : PositionFields → List (List ℕ) → Result PositionFields Kind
with_fields position [] = Ok position
with_fields position (field ∷ fields) = claimed_with_field position field >>= λ next. with_fields next fields

-- Without a position line the first item stands at (0, 0), and the generation is 0. Each position line begins anew from there.
abbrev pub no_position_fields : PositionFields
no_position_fields = record { x = pos 0; y = pos 0; generation = 0 }

-- the rest of a text after a token and the whitespace that follows it
abbrev pub after_token : List ℕ → List ℕ → Result (List ℕ) Kind
after_token token text = if begins_with text token then Ok (trim_start (drop (length token) text)) else Err BadHeader

abbrev pub after_digits : List ℕ → Result (List ℕ) Kind
after_digits text =
    if is_digit_text (take_while is_ascii_digit text) then Ok (trim_start (drop (prefix_len is_ascii_digit text) text)) else Err BadHeader

-- the rule of a header line, after its two sizes: all that follows `rule =`, or B3/S23 where the line ends there
abbrev pub claimed_rule_part : List ℕ → Result Rule Kind
claimed_rule_part [] = Ok claimed_default_rule
claimed_rule_part (b ∷ text) = do
  rest ← after_token (codes ",") (b ∷ text)
  rest ← after_token (codes "rule") rest
  rest ← after_token (codes "=") rest
  claimed_rule_of rest

-- the rule of `x = W, y = H` or `x = W, y = H, rule = R`; the two sizes are digits, and count for nothing
abbrev pub claimed_header_of : List ℕ → Result Rule Kind
claimed_header_of line = do
  rest ← after_token (codes "x") line
  rest ← after_token (codes "=") rest
  rest ← after_digits rest
  rest ← after_token (codes ",") rest
  rest ← after_token (codes "y") rest
  rest ← after_token (codes "=") rest
  rest ← after_digits rest
  claimed_rule_part rest

-- What the lines so far say with one more after them, or the first rule that this one breaks. After the header a line that begins with `x`, but not
-- with `x ` or `x=`, is data, as in Golly Help. After `!` every line is passed over, whatever its length.
unfoldable pub with_rle_line : Lines → List ℕ → Result Lines Kind
with_rle_line (before_header position) line =
    if is_too_long line then Err LineTooLong
    else if is_blank line then Ok (before_header position)
    else if is_claimed_command (codes "#CXRLE") line then (with_fields no_position_fields (words_of (drop 6 line)) >>= λ here. Ok (before_header here))
    else if begins_with line (codes "#") then Ok (before_header position)
    else if begins_with line (codes "x") then (claimed_header_of line >>= λ rule. Ok (after_header (record { rule = rule; position = position; items = [] })))
    else Err NoHeader
with_rle_line (after_header file) line =
    if is_too_long line then Err LineTooLong
    else if is_blank line then Ok (after_header file)
    else if is_claimed_command (codes "#CXRLE") line then Err LateHeader
    else if begins_with line (codes "#") then Ok (after_header file)
    else if begins_with line (codes "x ") || begins_with line (codes "x=") then Err SecondHeader
    else with_texts file (claimed_texts_of line)
with_rle_line (after_end file) line = Ok (after_end file)
