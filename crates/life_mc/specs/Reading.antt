-- The macrocell format: which lines a file may have, and what it says.
use Rattle.std.specs.Prelude.{◌≡◌, ℕ, ◌-◌, ◌^◌, ◌<◌, Bool, true, false, not, ◌&&◌, ◌||◌, List, [], ◌∷◌, ◌++◌, length, take, drop, map, replicate, sum_by, filter_map, nat_le, nat_lt, ◌==◌, if◌then◌else◌, slice_index, codes, Option, Some, None}
use Rattle.std.specs.List.{list_all, slice_split, slice_index_or}
use Rattle.std.specs.Result.{result_ok, result_err}
use Rattle.std.specs.Str.{byte}
use Rattle.life_base.specs.Text.{is_empty, is_blank, trim, begins_with, is_digit_text, value_of, words_of, lines_of, is_too_long}
use Rattle.life_base.specs.Kinds.{is_one_of, pattern_kinds}
use Rattle.life_base.specs.Numbers.{u64_of}
use Rattle.life_base.specs.Rules.{rule_of, default_rule}
use Rattle.life_base.specs.Refusal.{IsRefusal, BreaksBy}
use Rattle.life_base.specs.declared.fault.Fault.{Fault}
use Rattle.life_base.specs.declared.kind.Kind.{Kind}
use Rattle.life_base.specs.declared.kind.Kind.TheVariants.{NoHeader, BadNumber, TooLarge, StateRange, LateHeader, BadNode, BadLevel, BadChild, BadLeaf, Timeline, LineTooLong}
use Rattle.life_base.specs.declared.kind.Kind.TheVariants as kinds
use Rattle.life_base.specs.declared.rule.Rule.{Rule}
use Rattle.life_mc.specs.Macrocell.{Macrocell, level_of, is_quarter}
use Rattle.life_mc.specs.declared.line.Line.{Line}
use Rattle.life_mc.specs.declared.line.Line.TheVariants.{Leaf, Quad}

-- a line `#R` or `#G`: `#` and the letter, followed by whitespace or by its end
abbrev pub is_letter_command : ℕ → List ℕ → Bool
is_letter_command letter line = begins_with line (byte "#" ∷ letter ∷ []) && is_blank (take 1 (drop 2 line))

-- a node line is neither blank nor begins with `#`
abbrev pub is_node_line : List ℕ → Bool
is_node_line line = not (is_blank line) && not (begins_with line (codes "#"))

-- `.`, `*` or `$`
abbrev pub is_leaf_byte : ℕ → Bool
is_leaf_byte b = b == byte "." || b == byte "*" || b == byte "$"

-- the rows of a leaf, each ended by `$`; after the last `$` a further one
abbrev pub leaf_rows : List ℕ → List (List ℕ)
leaf_rows text = slice_split (λ b. b == byte "$") text

-- after the eighth `$` stands nothing
abbrev pub is_at_end : List (List ℕ) → Bool
is_at_end [] = true
is_at_end ([] ∷ []) = true
is_at_end _ = false

-- a leaf has `.`, `*` and `$` alone, at most eight cells in a row, and at most eight rows
abbrev pub is_leaf : List ℕ → Bool
is_leaf text = list_all is_leaf_byte text && list_all (λ row. nat_le (length row) 8) (leaf_rows text) && is_at_end (drop 8 (leaf_rows text))

-- the columns of a leaf
abbrev pub columns : List ℕ
columns = 0 ∷ 1 ∷ 2 ∷ 3 ∷ 4 ∷ 5 ∷ 6 ∷ 7 ∷ []

-- a row as a byte, with bit 7 - c for a live cell `*` in column c
abbrev pub byte_of_row : List ℕ → ℕ
byte_of_row row = sum_by (λ c. if slice_index row c == byte "*" then 2 ^ (7 - c) else 0) columns

-- the eight rows of a leaf; rows that aren't written are empty
abbrev pub leaf_bytes : List ℕ → List ℕ
leaf_bytes text = take 8 (map byte_of_row (leaf_rows text) ++ replicate 8 0)

-- five numbers are a level and four quarters
abbrev pub quad_of_numbers : List ℕ → Option Line
quad_of_numbers (level ∷ nw ∷ ne ∷ sw ∷ se ∷ []) = Some (Quad level nw ne sw se)
quad_of_numbers _ = None

-- the square that a text without whitespace at its ends writes, if it writes one
abbrev pub square_of_text : List ℕ → Option Line
square_of_text text =
    if is_leaf_byte (slice_index text 0) then (if is_leaf text then Some (Leaf (leaf_bytes text)) else None)
    else (if list_all is_digit_text (words_of text) then quad_of_numbers (map value_of (words_of text)) else None)

-- the square, the rule and the generation that a line gives, if it breaks no rule
abbrev pub square_on : List ℕ → Option Line
square_on line = if is_node_line line then square_of_text (trim line) else None

abbrev pub rule_on : List ℕ → Option Rule
rule_on line = if is_letter_command (byte "R") line then result_ok (rule_of (drop 2 line)) else None

abbrev pub generation_on : List ℕ → Option ℕ
generation_on line = if is_letter_command (byte "G") line then Some (value_of (trim (drop 2 line))) else None

-- the last of these, or what stands for none
abbrev pub last_or : {X : Type 0} → X → List X → X
last_or x [] = x
last_or x (y ∷ ys) = last_or y ys

-- What these lines say: the first is the header and says nothing; of several rules and generations the last counts.
abbrev pub squares_of : List (List ℕ) → List Line
squares_of [] = []
squares_of (header ∷ lines) = filter_map square_on lines

abbrev pub rule_in_force : List (List ℕ) → Rule
rule_in_force [] = default_rule
rule_in_force (header ∷ lines) = last_or default_rule (filter_map rule_on lines)

abbrev pub generation_in_force : List (List ℕ) → ℕ
generation_in_force [] = 0
generation_in_force (header ∷ lines) = last_or 0 (filter_map generation_on lines)

-- the square that a line gives after these lines
abbrev pub square_after : List (List ℕ) → List ℕ → Option Line
square_after [] line = None
square_after (header ∷ lines) line = square_on line

-- the rule that a node line breaks by what it writes, where the squares before have these levels: nothing is no node, a leaf breaks
-- none, and of a quarter line the level is judged first
abbrev pub broken_by_square : ℕ → Rule → List ℕ → Option Line → Option Kind
broken_by_square top rule levels (Some (Quad level nw ne sw se)) =
    if not (nat_le 1 level && nat_le level top) then Some BadLevel
    else (if list_all (is_quarter rule levels level) (nw ∷ ne ∷ sw ∷ se ∷ []) then None
    else (if level == 1 then Some StateRange else Some BadChild))
broken_by_square top rule levels (Some (Leaf rows)) = None
broken_by_square top rule levels None = Some BadNode

-- the rule that a node line breaks
abbrev pub broken_by_node : ℕ → Rule → List ℕ → List ℕ → Option Kind
broken_by_node top rule levels text =
    if is_leaf_byte (slice_index text 0) && not (is_leaf text) then Some BadLeaf
    else broken_by_square top rule levels (square_of_text text)

-- the rule that a line after the header breaks, where this rule is in force and the squares before have these levels
abbrev pub broken_after : ℕ → Rule → List ℕ → List ℕ → Option Kind
broken_after top rule levels line =
    if is_blank line then None
    else (if begins_with line (codes "#FRAME") then Some Timeline
    else (if (is_letter_command (byte "R") line || is_letter_command (byte "G") line) && nat_lt 0 (length levels) then Some LateHeader
    else (if is_letter_command (byte "R") line then result_err (rule_of (drop 2 line))
    else (if is_letter_command (byte "G") line then result_err (u64_of (trim (drop 2 line)))
    else (if begins_with line (codes "#") then None
    else broken_by_node top rule levels (trim line))))))

-- the rule that a line breaks after the header and these lines
abbrev pub broken_rule_after : ℕ → List (List ℕ) → List ℕ → Option Kind
broken_rule_after top before line = broken_after top (rule_in_force before) (map level_of (squares_of before)) line

-- The first rule of the format that a line breaks after these lines, if it breaks one. After lines of which one breaks a rule
-- it means nothing.
unfoldable pub broken_rule : ℕ → List (List ℕ) → List ℕ → Option Kind
broken_rule top before line =
    if is_too_long line then Some LineTooLong
    else (if is_empty before then (if begins_with line (codes "[M2]") then None else Some NoHeader)
    else broken_rule_after top before line)

-- The lines are a macrocell file that says this: there is a first line, and no line breaks a rule.
pub record AreMacrocell (top : ℕ) (lines : List (List ℕ)) (file : Macrocell) : Type 0 where
  pub header : 0 < length lines
  pub unbroken : (k : ℕ) → k < length lines → broken_rule top (take k lines) (slice_index_or lines k []) ≡ None
  pub rule : file.rule ≡ rule_in_force lines
  pub generation : file.generation ≡ generation_in_force lines
  pub squares : file.lines ≡ squares_of lines

-- the bytes are a macrocell file that says this
abbrev pub IsMacrocell : ℕ → List ℕ → Macrocell → Type 0
IsMacrocell top bytes file = AreMacrocell top (lines_of bytes) file

-- the lines are a macrocell file
abbrev pub AcceptsMacrocell : ℕ → List (List ℕ) → Type 0
AcceptsMacrocell top lines = (file : Macrocell) × AreMacrocell top lines file

-- a file without lines lacks a header
abbrev pub missing_macrocell_part : List (List ℕ) → Option Kind
missing_macrocell_part [] = Some NoHeader
missing_macrocell_part (line ∷ lines) = None

-- why the lines are no macrocell file
abbrev pub RefusesMacrocell : ℕ → List (List ℕ) → Fault → Type 0
RefusesMacrocell top lines fault = IsRefusal (AcceptsMacrocell top) (BreaksBy (broken_rule top)) missing_macrocell_part lines fault

-- the kinds with which a macrocell file is refused
abbrev pub is_macrocell_kind : Kind → Bool
is_macrocell_kind kind = is_one_of (kinds.BadNode ∷ kinds.BadLevel ∷ kinds.BadChild ∷ kinds.BadLeaf ∷ kinds.Timeline ∷ pattern_kinds) kind

-- a line breaks a rule with one of these
abbrev pub MacrocellLinesBreakByKinds : ℕ → Type 0
MacrocellLinesBreakByKinds top = (prefix : List (List ℕ)) (line : List ℕ) (kind : Kind) → broken_rule top prefix line ≡ Some kind
    → is_macrocell_kind kind ≡ true
