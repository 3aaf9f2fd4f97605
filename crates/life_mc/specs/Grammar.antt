-- The macrocell format a second time and as a whole: what each line of a file is, without any word of how a fault is named. Golly Help, File Formats,
-- "Macrocell format", states the header and both kinds of node line. This project's own are limits, the order of lines, blank lines, no `#FRAME`, whitespace
-- after `#R` and `#G` and about numbers, leaves and levels under any rule, how much of a leaf is written, a root of any size, and B3/S23 without `#R`.
use Rattle.std.specs.Prelude.{◌≡◌, ◌↔◌, ℕ, ◌+◌, ◌^◌, ◌<◌, ◌≤◌, Bool, true, false, ◌&&◌, ◌||◌, List, [], ◌∷◌, ◌++◌, length, take, map, flat_map, filter_map, nat_le, ◌==◌, if◌then◌else◌, slice_index, codes, Option, Some, None, Ok}
use Rattle.std.specs.List.{list_all, AllByRecursion, AllZip, slice_index_or}
use Rattle.std.specs.Str.{byte}
use Rattle.life_base.specs.Text.{is_blank, IsAround, is_digit_text, value_of}
use Rattle.life_base.specs.Rules.{rule_of, default_rule}
use Rattle.life_base.specs.declared.rule.Rule.{Rule}
use Rattle.life_mc.specs.Macrocell.{Macrocell, AreSquares}
use Rattle.life_mc.specs.Cells.{leaf_cell}
use Rattle.life_mc.specs.Reading.{AreMacrocell, last_or}
use Rattle.life_mc.specs.declared.line.Line.{Line}
use Rattle.life_mc.specs.declared.line.Line.TheVariants.{Leaf, Quad}

-- ---- parts of a line

-- the line begins with this text
abbrev pub Begins : List ℕ → List ℕ → Type 0
Begins text line = (rest : List ℕ) × (line ≡ text ++ rest)

-- the line is this word and this rest, which begins with whitespace or is nothing
abbrev pub IsCommand : List ℕ → List ℕ → List ℕ → Type 0
IsCommand word rest line = (line ≡ word ++ rest) × (is_blank (take 1 rest) ≡ true)

-- The line is these texts, with whitespace between each two of them and perhaps at its ends.
abbrev pub Separates : List (List ℕ) → List ℕ → Type 0
Separates [] line = is_blank line ≡ true
Separates (text ∷ texts) line =
    (before : List ℕ) × (rest : List ℕ) × (line ≡ before ++ (text ++ rest)) × (is_blank before ≡ true) × (is_blank (take 1 rest) ≡ true) × Separates texts rest

-- ---- the lines after the first

-- A comment begins with `#` and is no line that means something.
pub record IsMacrocellComment (line : List ℕ) : Type 0 where
  pub hash : Begins (codes "#") line
  pub no_frame : Begins (codes "#FRAME") line → ⊥
  pub no_rule : (rest : List ℕ) → IsCommand (codes "#R") rest line → ⊥
  pub no_generation : (rest : List ℕ) → IsCommand (codes "#G") rest line → ⊥

-- A rule line is `#R` and the text of a rule.
pub record IsMacrocellRuleLine (line : List ℕ) (rule : Rule) : Type 0 where
  pub text : List ℕ
  pub is : IsCommand (codes "#R") text line
  pub says : rule_of text ≡ Ok rule

-- A generation line is `#G` and a digit text, which writes a number below 2 ^ 64.
pub record IsGenerationLine (line : List ℕ) (generation : ℕ) : Type 0 where
  pub rest : List ℕ
  pub digits : List ℕ
  pub is : IsCommand (codes "#G") rest line
  pub around : IsAround rest digits
  pub number : is_digit_text digits ≡ true
  pub value : value_of digits ≡ generation
  pub fits : generation < 2 ^ 64

-- a cell of a leaf, `.` or `*`
abbrev pub is_cell : ℕ → Bool
is_cell b = b == byte "." || b == byte "*"

-- a row of a leaf has at most eight cells
abbrev pub is_row : List ℕ → Bool
is_row row = list_all is_cell row && nat_le (length row) 8

-- the state of the cell in a column: 1 at `*`; a cell that isn't written is empty
abbrev pub state_in_row : List ℕ → ℕ → ℕ
state_in_row row column = if slice_index row column == byte "*" then 1 else 0

-- A leaf line: at most eight rows that `$` ends, and after the last `$` further cells where the rows are fewer; the bytes
-- hold the states of their cells.
pub record IsLeafLine (line : List ℕ) (bytes : List ℕ) : Type 0 where
  pub rows : List (List ℕ)
  pub last : List ℕ
  pub is : IsAround line (flat_map (λ row. row ++ codes "$") rows ++ last)
  pub some : 0 < length rows + length last
  pub cells : list_all is_row (rows ++ last ∷ []) ≡ true
  pub at_most : length rows ≤ 8
  pub full : length rows ≡ 8 → last ≡ []
  pub eight : length bytes ≡ 8
  pub fit : AllByRecursion (λ byte. byte < 256) bytes
  pub states : (x y : ℕ) → x < 8 → y < 8 → leaf_cell bytes x y ≡ state_in_row (slice_index_or (rows ++ last ∷ []) y []) x

-- A quarter line: five digit texts, a level and four numbers.
pub record IsQuarterLine (line : List ℕ) (level nw ne sw se : ℕ) : Type 0 where
  pub texts : List (List ℕ)
  pub separated : Separates texts line
  pub digits : list_all is_digit_text texts ≡ true
  pub values : map value_of texts ≡ level ∷ nw ∷ ne ∷ sw ∷ se ∷ []

-- a node line gives a square
abbrev pub IsNodeLine : List ℕ → Line → Type 0
IsNodeLine line (Leaf bytes) = IsLeafLine line bytes
IsNodeLine line (Quad level nw ne sw se) = IsQuarterLine line level nw ne sw se

-- ---- a file

-- what a line after the first can be
pub data Form : Type 0 where
  blank_line : Form
  comment_line : Form
  rule_line : Rule → Form
  generation_line : ℕ → Form
  node_line : Line → Form

-- the line is of this form
abbrev pub HasForm : List ℕ → Form → Type 0
HasForm line blank_line = is_blank line ≡ true
HasForm line comment_line = IsMacrocellComment line
HasForm line (rule_line rule) = IsMacrocellRuleLine line rule
HasForm line (generation_line generation) = IsGenerationLine line generation
HasForm line (node_line square) = IsNodeLine line square

-- what a form gives
abbrev pub form_rule : Form → Option Rule
form_rule (rule_line rule) = Some rule
form_rule _ = None

abbrev pub form_generation : Form → Option ℕ
form_generation (generation_line generation) = Some generation
form_generation _ = None

abbrev pub form_square : Form → Option Line
form_square (node_line square) = Some square
form_square _ = None

-- the line tells no rule and no generation
abbrev pub is_no_command : Form → Bool
is_no_command (rule_line rule) = false
is_no_command (generation_line generation) = false
is_no_command _ = true

-- no line after the first node line tells a rule or a generation
abbrev pub are_in_order : List Form → Bool
are_in_order [] = true
are_in_order (node_line square ∷ forms) = list_all is_no_command forms
are_in_order (form ∷ forms) = are_in_order forms

-- The lines are a file that says this.
pub record IsPlainMacrocell (top : ℕ) (lines : List (List ℕ)) (file : Macrocell) : Type 0 where
  pub header : List ℕ
  pub behind : List (List ℕ)
  pub forms : List Form
  pub is : lines ≡ header ∷ behind
  pub format : Begins (codes "[M2]") header
  pub short : list_all (λ line. nat_le (length line) (2 ^ 20)) lines ≡ true
  pub each : AllZip HasForm behind forms
  pub order : are_in_order forms ≡ true
  pub rule : file.rule ≡ last_or default_rule (filter_map form_rule forms)
  pub generation : file.generation ≡ last_or 0 (filter_map form_generation forms)
  pub squares : file.lines ≡ filter_map form_square forms
  pub valid : AreSquares top file.rule file.lines

-- Lines are such a file exactly if there is a first line and no line breaks a rule, and then they say the same.
abbrev pub MacrocellGrammarsAgree : ℕ → Type 0
MacrocellGrammarsAgree top = (lines : List (List ℕ)) (file : Macrocell) → IsPlainMacrocell top lines file ↔ AreMacrocell top lines file
