-- What is known of a file by its bytes so far: which warning it has, if these bytes follow. Bytes that follow are seen as the rest of the line that has not
-- ended, and the lines after that.
use Rattle.std.specs.Prelude.{◌≡◌, ℕ, ◌+◌, Bool, true, false, not, take, drop, ◌&&◌, ◌||◌, List, [], ◌∷◌, ◌++◌, Option, None, Some, ◌==◌, nat_lt, if◌then◌else◌}
use Rattle.std.specs.List.{list_all, list_any}
use Rattle.std.specs.Char.{is_ascii_digit}
use Rattle.std.specs.Str.{byte}
use Rattle.life_base.specs.Text.{is_empty, trim_start}
use Rattle.file_hints.specs.Recognition.{first_text, has_byte, lines_but_first}
use Rattle.file_hints.specs.Damage.{begins_as_rule, file_warning, gives_size, has_mark, has_return_inside, height_of, is_line_of_squares, is_live_byte}
use Rattle.file_hints.specs.Damage.{is_mark_without_space, is_neighbour_count, is_return, items_before_mark, lines_after_mark, lines_and_rest, lines_of_items}
use Rattle.file_hints.specs.Damage.{number_from, rle_warning, rows_from, starts_by, text_before, warning_after_mark, warning_of_items, warning_of_lines}
use Rattle.file_hints.specs.Damage.{with_digit, without_counts}
use Rattle.file_hints.specs.declared.warnings.Warning.{Warning}
use Rattle.file_hints.specs.declared.warnings.Warning.TheVariants as warnings
use Rattle.file_hints.specs.declared.rle_watch.Ending.{Ending}
use Rattle.file_hints.specs.declared.rle_watch.Ending.TheVariants as endings
use Rattle.file_hints.specs.declared.rle_watch.Header.{Header}
use Rattle.file_hints.specs.declared.rle_watch.Header.TheVariants as headers
use Rattle.file_hints.specs.declared.rle_watch.Items.{Items}
use Rattle.file_hints.specs.declared.rle_watch.Part.{Part}
use Rattle.file_hints.specs.declared.rle_watch.Part.TheVariants as parts
use Rattle.file_hints.specs.declared.macrocell_watch.Place.{Place}
use Rattle.file_hints.specs.declared.macrocell_watch.Place.TheVariants as places
use Rattle.file_hints.specs.declared.watch.State.{State}
use Rattle.file_hints.specs.declared.watch.State.TheVariants as states
use Rattle.file_hints.specs.declared.watch.Watch.{Watch}

-- the text has this byte at a place, and not before
pub record IsCutAt (wanted : ℕ) (text : List ℕ) (at : ℕ) : Type 0 where
  pub free : has_byte wanted (take at text) ≡ false
  pub cut : text ≡ take at text ++ wanted ∷ drop (at + 1) text

-- where the header goes on with this text, and these lines of items follow
abbrev pub warning_in_header : Header → List ℕ → List (List ℕ) → Option Warning
warning_in_header (headers.Width is_sized) text lines = warning_of_items (is_sized || gives_size text) (height_of text) lines
warning_in_header (headers.Height is_sized height) text lines =
    warning_of_items (is_sized || gives_size text) (number_from height (text_before (byte "r") text)) lines
warning_in_header (headers.Rule is_sized height) text lines = warning_of_items is_sized height lines

-- where these lines of items follow
abbrev pub warning_in_items : Items → List (List ℕ) → Option Warning
warning_in_items it lines =
    if it.is_sized && not (it.has_cell || list_any is_live_byte (items_before_mark lines)) then Some warnings.NoCells
    else (if has_mark lines then warning_after_mark (lines_after_mark lines)
    else (if nat_lt (rows_from it.count it.is_begun (items_before_mark lines)) it.missing then Some warnings.Cut else None))

-- the count of the item after a text, where the first item of the text has this one so far
abbrev pub count_after : ℕ → List ℕ → ℕ
count_after count [] = count
count_after count (b ∷ text) = count_after (if is_ascii_digit b then with_digit count b else 0) text

-- where after the `!` the rest of a line goes on, and these lines
abbrev pub warning_in_ending : Ending → List ℕ → List (List ℕ) → Option Warning
warning_in_ending endings.Space text lines = warning_after_mark (text ∷ lines)
warning_in_ending endings.Width text lines =
    if starts_by (λ b. b == byte "=") (trim_start text) then Some warnings.Joined else warning_after_mark lines
warning_in_ending endings.Rest text lines = warning_after_mark lines
warning_in_ending endings.Header text lines = Some warnings.Joined

-- where an RLE file goes on with the rest of a line, and these lines
abbrev pub warning_in_rle : Part → List ℕ → List (List ℕ) → Option Warning
warning_in_rle parts.LineStart text lines = rle_warning (text ∷ lines)
warning_in_rle parts.Comment text lines = rle_warning lines
warning_in_rle (parts.Header header) text lines = warning_in_header header text (lines_of_items lines)
warning_in_rle (parts.ItemsStart items) text lines = warning_in_items items (lines_of_items (text ∷ lines))
warning_in_rle (parts.ItemsComment items) text lines = warning_in_items items (lines_of_items lines)
warning_in_rle (parts.Items items) text lines = warning_in_items items (text ∷ lines_of_items lines)
warning_in_rle (parts.After ending) text lines = warning_in_ending ending text lines
warning_in_rle parts.NoCells text lines = Some warnings.NoCells

-- the warning, where a line is a comment that may lack a space, if it has ended
abbrev pub warning_of_comment : Bool → List (List ℕ) → Option Warning
warning_of_comment lacks lines = if lacks && not (is_empty lines) then Some warnings.Comment else warning_of_lines lines

-- the warning, where the first line has a carriage return inside it or not
abbrev pub warning_of_first : Bool → List (List ℕ) → Option Warning
warning_of_first is_inside lines = if is_inside then Some warnings.Return else warning_of_lines lines

-- where a macrocell file goes on with the rest of a line, and these lines
abbrev pub warning_in_macrocell : Place → List ℕ → List (List ℕ) → Option Warning
warning_in_macrocell places.FirstLine text lines = warning_of_first (has_return_inside text) lines
warning_in_macrocell places.FirstReturn text lines = warning_of_first (not (list_all is_return text)) lines
warning_in_macrocell places.Return text lines = Some warnings.Return
warning_in_macrocell places.LineStart text lines = warning_of_lines (text ∷ lines)
warning_in_macrocell places.Spaces text lines = if is_line_of_squares text then None else warning_of_lines lines
warning_in_macrocell places.Hash text lines = warning_of_comment (is_mark_without_space text) lines
warning_in_macrocell places.RuleMark text lines = warning_of_comment (begins_as_rule text) lines
warning_in_macrocell places.Counts text lines = warning_of_comment (starts_by (λ b. b == byte "/") (without_counts text)) lines
warning_in_macrocell places.Sets text lines = warning_of_comment (starts_by is_neighbour_count text) lines
warning_in_macrocell places.Generation text lines = warning_of_comment (starts_by is_ascii_digit text) lines
warning_in_macrocell places.Comment text lines = warning_of_lines lines
warning_in_macrocell places.Meant text lines = warning_of_comment true lines
warning_in_macrocell places.Missed text lines = Some warnings.Comment
warning_in_macrocell places.Squares text lines = None

-- where a file goes on with the rest of a line, and these lines
abbrev pub warning_in : State → List ℕ → List (List ℕ) → Option Warning
warning_in states.Start text lines = file_warning (text ∷ lines)
warning_in states.Bracket text lines = file_warning ((byte "[" ∷ text) ∷ lines)
warning_in states.Letter text lines = file_warning ((byte "[" ∷ byte "M" ∷ text) ∷ lines)
warning_in states.Digit text lines = file_warning ((byte "[" ∷ byte "M" ∷ byte "2" ∷ text) ∷ lines)
warning_in (states.Macrocell place) text lines = warning_in_macrocell place text lines
warning_in (states.Rle part) text lines = warning_in_rle part text lines
warning_in states.Neither text lines = None

-- the warning of the file if these bytes follow
abbrev pub warning_by : State → List ℕ → Option Warning
warning_by state bytes = warning_in state (first_text (lines_and_rest bytes)) (lines_but_first (lines_and_rest bytes))

-- the warning that a watched file has if these bytes follow
abbrev pub warning_after : Watch → List ℕ → Option Warning
warning_after watch bytes = warning_by watch.state bytes
