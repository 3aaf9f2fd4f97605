-- Macrocell files (Golly Help, File Formats, "Macrocell format"): what each line says, what a file says, and which fault the first line has that
-- breaks a rule. Of Golly Help are the first line, `#R`, `#G`, comments, the two kinds of node lines, their numbers, the order of the quarters, and
-- that the last node is the root. This project's own are:
--   the limits of lengths, levels and generations, the kinds and the order of their tests, and that a file without `#R` has the rule B3/S23;
--   blank lines and comments may stand after any line, `#R` and `#G` before the first node alone, and no line begins with `#FRAME`;
--   after `#R` and `#G` whitespace or the end of the line must follow: `#RB36/S23` and `#G7` are a rule and a generation in Golly, and comments here;
--   whitespace at the ends of a node line counts for nothing, and any whitespace may stand between its numbers;
--   in a leaf, cells of state 0 at the end of a row may be written, and `$` may be left out at the end;
--   leaves and levels from 1 to 62 may be mixed under any rule, the root need not be the largest square, and squares may stand twice or unused;
--   the south-east quarter of the root begins at (0, 0), where Golly Help has (0, 1).
use Rattle.std.specs.Prelude.{ℕ, zero, suc, ◌-◌, ◌%◌, ◌^◌, Bool, true, false, not, ◌&&◌, ◌||◌, List, [], ◌∷◌, ◌++◌, length, take, drop, map, nat_le, nat_lt, ◌==◌, if◌then◌else◌, slice_get, slice_index, slice_index_or, codes, Option, Some, None, Result, Ok, Err, ℤ, pos, neg_ℤ, ◌+ℤ◌, int_le, int_lt, unsigned_abs}
use Rattle.std.specs.List.{list_all, slice_split}
use Rattle.std.specs.Str.{byte}
use Rattle.life_base.specs.Text.{is_empty, is_blank, is_too_long, begins_with, trim, is_digit_text, value_of, words_of}
use Rattle.life_base.specs.declared.kind.Kind.{Kind}
use Rattle.life_base.specs.declared.kind.Kind.TheVariants.{NoHeader, BadNumber, TooLarge, StateRange, LateHeader, BadNode, BadLevel, BadChild, BadLeaf, Timeline, LineTooLong}
use Rattle.claims.specs.Outcomes.{◌>>=◌}
use Rattle.claims.specs.Rules.{Rule, claimed_rule_of, claimed_default_rule, claimed_largest_state}

-- A square: a leaf, 8 cells wide, by the texts of its rows; or a level, and what stands for its quarters north-west, north-east, south-west and
-- south-east.
pub data Node : Type 0 where
  leaf : (rows : List (List ℕ)) → Node
  quad : (level nw ne sw se : ℕ) → Node

-- the level of a square, which is 2 ^ level cells wide; that of a line of eight rows is 3
abbrev pub claimed_level_of : Node → ℕ
claimed_level_of (leaf rows) = 3
claimed_level_of (quad level nw ne sw se) = level

-- what the lines so far say: the squares are numbered from 1
pub record ClaimedMacrocell : Type 0 where
  pub rule : Rule
  pub generation : ℕ
  pub nodes : List Node

-- ---- a node line

-- `.`, `*` or `$`
abbrev pub is_claimed_leaf_byte : ℕ → Bool
is_claimed_leaf_byte b = b == byte "." || b == byte "*" || b == byte "$"

-- nothing stands after the eighth `$`
abbrev pub is_end : List (List ℕ) → Bool
is_end [] = true
is_end ([] ∷ []) = true
is_end _ = false

-- Rows of at most eight cells, each ended by `$`, eight at most; or fewer, and cells after the last `$`, which are one more row (Golly Help doesn't
-- say how many `$` there are). Golly leaves out the `.` at the end of a row; here they may stand.
abbrev pub leaf_of : List ℕ → Result Node Kind
leaf_of text =
    let rows = slice_split (λ b. b == byte "$") text in
    if list_all is_claimed_leaf_byte text && list_all (λ row. nat_le (length row) 8) rows && is_end (drop 8 rows) then Ok (leaf rows) else Err BadLeaf

-- five numbers, separated by any whitespace (in Golly Help by single spaces)
abbrev pub claimed_quad_of : List ℕ → Result Node Kind
claimed_quad_of (level ∷ nw ∷ ne ∷ sw ∷ se ∷ []) = Ok (quad level nw ne sw se)
claimed_quad_of _ = Err BadNode

-- the square that a node line writes, whose first byte tells a leaf
abbrev pub node_of : List ℕ → Result Node Kind
node_of text =
    if is_claimed_leaf_byte (slice_index text 0) then leaf_of text
    else if list_all is_digit_text (words_of text) then claimed_quad_of (map value_of (words_of text)) else Err BadNode

-- the square of a number, if there is one
abbrev pub node_of_number : List Node → ℕ → Option Node
node_of_number nodes zero = None
node_of_number nodes (suc i) = slice_get nodes i

abbrev pub has_level : ℕ → Option Node → Bool
has_level level None = false
has_level level (Some node) = claimed_level_of node == level

-- a quarter of this level: 0, which is the empty square, or the number of an earlier square of this level
abbrev pub is_claimed_child : List Node → ℕ → ℕ → Bool
is_claimed_child nodes level number = number == 0 || has_level level (node_of_number nodes number)

-- The squares with one more after them, if it may stand there. A leaf may stand under any rule, and so may a quarter line of each level from 1 to
-- 62: of level 1 with states that the rule has, and above it with quarters of the level below.
abbrev pub with_node : Rule → List Node → Node → Result (List Node) Kind
with_node rule nodes (leaf rows) = Ok (nodes ++ leaf rows ∷ [])
with_node rule nodes (quad level nw ne sw se) =
    let quarters = nw ∷ ne ∷ sw ∷ se ∷ [] in
    if level == 0 || nat_lt 62 level then Err BadLevel
    else if level == 1
    then (if list_all (λ state. nat_le state (claimed_largest_state rule)) quarters then Ok (nodes ++ quad level nw ne sw se ∷ []) else Err StateRange)
    else if list_all (is_claimed_child nodes (level - 1)) quarters then Ok (nodes ++ quad level nw ne sw se ∷ []) else Err BadChild

-- ---- the lines

-- The line begins with this word, and whitespace or its end follows. (Golly Help asks for the word alone:
-- there `#RB36/S23` is a rule, and here it is a comment.)
abbrev pub is_claimed_command : List ℕ → List ℕ → Bool
is_claimed_command word line = begins_with line word && is_blank (take 1 (drop (length word) line))

-- a whole number below 2 ^ 64
abbrev pub generation_of : List ℕ → Result ℕ Kind
generation_of text = if not (is_digit_text text) then Err BadNumber else if nat_lt (value_of text) (2 ^ 64) then Ok (value_of text) else Err TooLarge

-- What the lines so far say with one more after them, or the first rule that this one breaks. Of several rules the last one counts, and so of
-- generations. A word is recognized by the first bytes of the line as it stands, while a node line is taken without the whitespace at its ends.
unfoldable pub with_macrocell_line : ClaimedMacrocell → List ℕ → Result ClaimedMacrocell Kind
with_macrocell_line file line =
    if is_too_long line then Err LineTooLong
    else if is_blank line then Ok file
    else if begins_with line (codes "#FRAME") then Err Timeline
    else if (is_claimed_command (codes "#R") line || is_claimed_command (codes "#G") line) && not (is_empty file.nodes) then Err LateHeader
    else if is_claimed_command (codes "#R") line then (claimed_rule_of (drop 2 line) >>= λ rule. Ok (record file { rule = rule }))
    else if is_claimed_command (codes "#G") line then (generation_of (trim (drop 2 line)) >>= λ generation. Ok (record file { generation = generation }))
    else if begins_with line (codes "#") then Ok file
    else (node_of (trim line) >>= λ node. with_node file.rule file.nodes node >>= λ nodes. Ok (record file { nodes = nodes }))

-- The first line begins with `[M2]`, and what follows on it is passed over. (A file whose first line doesn't begin so is read as RLE, so that `NoHeader` never
-- comes of this.) The rule is B3/S23 and the generation 0 until a line says another.
abbrev pub first_line : List ℕ → Result ClaimedMacrocell Kind
first_line line =
    if is_too_long line then Err LineTooLong
    else if begins_with line (codes "[M2]") then Ok (record { rule = claimed_default_rule; generation = 0; nodes = [] }) else Err NoHeader

-- ---- the plane

-- the state in a column and a row of a leaf: 1 where its text has `*`, and 0 where it has `.` or nothing
abbrev pub leaf_state : List (List ℕ) → ℕ → ℕ → ℕ
leaf_state rows column row = if slice_index (slice_index_or rows row []) column == byte "*" then 1 else 0

-- that of the four quarters, each of this side, in which a column and a row lie
abbrev pub claimed_quarter_at : ℕ → ℕ → ℕ → ℕ → ℕ → ℕ → ℕ → ℕ
claimed_quarter_at side column row nw ne sw se = if nat_lt row side then (if nat_lt column side then nw else ne) else (if nat_lt column side then sw else se)

-- The state in a column and a row, from the north-west corner, of the square of this level that a number stands for. At level 0 the number is the
-- state; above, it is that of a node line, or 0 for the empty square.
abbrev pub claimed_state_in : List Node → (level number column row : ℕ) → ℕ
claimed_state_in nodes zero number column row = number
claimed_state_in nodes (suc level) number column row = elim (node_of_number nodes number) [
  | None ↦ 0
  | Some node ↦ elim node [
    | leaf rows ↦ leaf_state rows column row
    | quad _ nw ne sw se ↦
        let side = 2 ^ level in
        claimed_state_in nodes level (claimed_quarter_at side column row nw ne sw se) (column % side) (row % side)
  ]
]

-- the level of the root, which is the last square, whether or not it is the largest; 0 without squares
abbrev pub claimed_root_level : List Node → ℕ
claimed_root_level [] = 0
claimed_root_level (node ∷ []) = claimed_level_of node
claimed_root_level (node ∷ next ∷ nodes) = claimed_root_level (next ∷ nodes)

-- The state of the cell (x, y). A root of level k covers the columns and rows from -2 ^ (k - 1) to 2 ^ (k - 1) - 1, so that its south-east quarter
-- begins at (0, 0), and not at (0, 1) as in Golly Help. Outside the root all cells are 0, and so they are in a file without squares.
abbrev pub claimed_macrocell_cell : List Node → ℤ → ℤ → ℕ
claimed_macrocell_cell [] x y = 0
claimed_macrocell_cell (node ∷ nodes) x y =
    let all = node ∷ nodes in
    let level = claimed_root_level all in
    let half = pos (2 ^ (level - 1)) in
    if int_le (neg_ℤ half) x && int_lt x half && int_le (neg_ℤ half) y && int_lt y half
    then claimed_state_in all level (length all) (unsigned_abs (x +ℤ half)) (unsigned_abs (y +ℤ half)) else 0
