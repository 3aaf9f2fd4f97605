-- The `.rule` format: which lines a file may have, and which table they write.
use Rattle.std.specs.Prelude.{◌≡◌, ℕ, ◌+◌, ◌-◌, ◌/◌, ◌%◌, ◌^◌, ◌<◌, Bool, true, false, not, min, ◌&&◌, ◌||◌, List, [], ◌∷◌, ◌++◌, length, take, drop, map, filter, filter_map, fold, position, nat_le, nat_lt, ◌==◌, if◌then◌else◌, slice_index, slice_index_or, slice_get, bit_or, bytes_eq, codes, Option, Some, None, Result, Ok, Err, is_some, is_none, option_map, option_and_then, option_to_list}
use Rattle.std.specs.Char.{is_ascii_digit, is_ascii_graphic}
use Rattle.std.specs.List.{list_all, list_any, slice_split, before_first, after_first}
use Rattle.std.specs.Str.{byte}
use Rattle.life_base.specs.Text.{is_empty, is_whitespace, is_blank, trim, begins_with, is_digit_text, value_of, is_too_long, numbered_from}
use Rattle.life_base.specs.Rules.{rule_of}
use Rattle.life_base.specs.Refusal.{IsRefusal, BreaksBy}
use Rattle.life_base.specs.declared.rule.Rule.{Rule}
use Rattle.life_base.specs.declared.rule.Rule.TheVariants.{Named}
use Rattle.life_base.specs.declared.fault.Fault.{Fault}
use Rattle.life_base.specs.declared.kind.Kind.{Kind}
use Rattle.life_base.specs.declared.kind.Kind.TheVariants.{LineTooLong, NoRuleLine, NoTable, BadDescriptor, UnsupportedNeighborhood, UnsupportedSymmetry, BadVariable, BadTransition, UnboundOutput, NotQuiet}
use Rattle.life_table.specs.Valid.{is_listed, neighbour_count, is_variable, is_quiet}
use Rattle.life_table.specs.declared.table.Neighborhood.{Neighborhood}
use Rattle.life_table.specs.declared.table.Neighborhood.TheVariants.{VonNeumann, Moore}
use Rattle.life_table.specs.declared.table.Symmetry.{Symmetry}
use Rattle.life_table.specs.declared.table.Symmetry.TheVariants as symmetries
use Rattle.life_table.specs.declared.table.Var.{Var}
use Rattle.life_table.specs.declared.table.Entry.{Entry}
use Rattle.life_table.specs.declared.table.Entry.TheVariants as entries
use Rattle.life_table.specs.declared.table.Transition.{Transition}
use Rattle.life_table.specs.declared.table.Table.{Table}
use Rattle.life_table.specs.declared.directive.Parsed.{Parsed}
use Rattle.life_table.specs.declared.directive.Section.{Section}
use Rattle.life_table.specs.declared.directive.Section.TheVariants.{Ahead, Open, Behind}
use Rattle.life_table.specs.declared.directive.Directive.{Directive}
use Rattle.life_table.specs.declared.directive.Directive.TheVariants.{Nothing, RuleName, TableOpens, TableEnds, States, Neighbors, Orders, Variable, Line}

-- 1. The parts of a file

-- before the rule line, blank lines and comments are passed over
abbrev pub is_passed_over : List ℕ → Bool
is_passed_over line = is_blank line || begins_with line (codes "#")

abbrev pub name_in : Result Rule Kind → Option (List ℕ)
name_in (Ok (Named name)) = Some name
name_in _ = None

-- `@RULE` and whitespace
abbrev pub begins_rule_line : List ℕ → Bool
begins_rule_line line = begins_with line (codes "@RULE") && list_any is_whitespace (take 1 (drop 5 line))

-- the rule line has a rule text after these that is a name
abbrev pub name_on : List ℕ → Option (List ℕ)
name_on line = if begins_rule_line line then name_in (rule_of (drop 5 line)) else None

-- a section begins with a line whose first byte is `@`
abbrev pub is_section_line : List ℕ → Bool
is_section_line line = begins_with line (codes "@")

-- `@TABLE`, followed by whitespace or by its end
abbrev pub is_table_line : List ℕ → Bool
is_table_line line = begins_with line (codes "@TABLE") && is_blank (take 1 (drop 6 line))

-- a line with its number in the file
abbrev pub NumberedLine : Type 0
NumberedLine = ℕ × List ℕ

abbrev pub texts_of_lines : List NumberedLine → List (List ℕ)
texts_of_lines lines = map (λ line. line.1) lines

-- the elements from the first one on that passes the test
abbrev pub from_first : {X : Type 0} → (X → Bool) → List X → List X
from_first p [] = []
from_first p (x ∷ xs) = if p x then x ∷ xs else from_first p xs

-- the elements before the first one that passes the test
abbrev pub up_to : {X : Type 0} → (X → Bool) → List X → List X
up_to p [] = []
up_to p (x ∷ xs) = if p x then [] else x ∷ up_to p xs

-- the first of the options that there is
abbrev pub first_some : {X : Type 0} → List (Option X) → Option X
first_some [] = None
first_some (None ∷ options) = first_some options
first_some (Some x ∷ options) = Some x

-- the first line that isn't passed over, and all after it
abbrev pub from_rule : List NumberedLine → List NumberedLine
from_rule lines = from_first (λ line. not (is_passed_over line.1)) lines

-- the first table line after the rule line, and all after it
abbrev pub from_table : List NumberedLine → List NumberedLine
from_table lines = from_first (λ line. is_table_line line.1) (drop 1 (from_rule lines))

-- the lines of the table: after the table line, up to the next section
abbrev pub table_lines : List NumberedLine → List NumberedLine
table_lines lines = up_to (λ line. is_section_line line.1) (drop 1 (from_table lines))

-- a line of the table, without its comment and the whitespace at its ends
abbrev pub line_content : List ℕ → List ℕ
line_content line = trim (before_first (λ b. b == byte "#") line)

-- the lines of the table that say something
abbrev pub contents : List NumberedLine → List NumberedLine
contents lines = filter (λ line. not (is_empty line.1)) (map (λ line. (line.0, line_content line.1)) lines)

-- what the table's lines say, each with the number of its line
unfoldable pub table_texts : List NumberedLine → List NumberedLine
table_texts lines = contents (table_lines lines)

-- the name on the rule line
unfoldable pub name_of : List NumberedLine → Option (List ℕ)
name_of lines = option_and_then (λ line. name_on line.1) (slice_get (from_rule lines) 0)

-- no table line came, or one, or one and a further section after it
unfoldable pub section_of : List NumberedLine → Section
section_of lines =
    if is_empty (from_table lines) then Ahead
    else (if list_any (λ line. is_section_line line.1) (drop 1 (from_table lines)) then Behind else Open)

-- 2. Descriptors

-- a descriptor is a line with a colon
abbrev pub is_descriptor : List ℕ → Bool
is_descriptor text = list_any (λ b. b == byte ":") text

-- what stands before the first colon, and after it
abbrev pub key_of : List ℕ → List ℕ
key_of text = trim (before_first (λ b. b == byte ":") text)

abbrev pub setting_of : List ℕ → List ℕ
setting_of text = trim (after_first (λ b. b == byte ":") text)

-- the three keys
abbrev pub is_states_key : List ℕ → Bool
is_states_key key = bytes_eq key (codes "n_states")

abbrev pub is_neighborhood_key : List ℕ → Bool
is_neighborhood_key key = bytes_eq key (codes "neighborhood") || bytes_eq key (codes "neighbourhood")

abbrev pub is_symmetry_key : List ℕ → Bool
is_symmetry_key key = bytes_eq key (codes "symmetries")

-- a descriptor with one of these keys
abbrev pub describes_by : (List ℕ → Bool) → List ℕ → Bool
describes_by is_key text = is_descriptor text && is_key (key_of text)

-- the number that a digit text writes, below a limit
abbrev pub number_below : ℕ → List ℕ → Option ℕ
number_below limit word = if is_digit_text word && nat_lt (value_of word) limit then Some (value_of word) else None

-- a number of states is a digit text of value 2 to 256
abbrev pub states_named : List ℕ → Option ℕ
states_named word = if nat_le 2 (value_of word) then number_below 257 word else None

abbrev pub neighborhood_named : List ℕ → Option Neighborhood
neighborhood_named word =
    if bytes_eq word (codes "vonNeumann") then Some VonNeumann
    else (if bytes_eq word (codes "Moore") then Some Moore else None)

abbrev pub symmetry_named : List ℕ → Option Symmetry
symmetry_named word =
    if bytes_eq word (codes "none") then Some symmetries.Identity
    else (if bytes_eq word (codes "rotate4") then Some symmetries.Rotate4
    else (if bytes_eq word (codes "rotate4reflect") then Some symmetries.Rotate4Reflect
    else (if bytes_eq word (codes "reflect_horizontal") then Some symmetries.ReflectHorizontal
    else (if bytes_eq word (codes "permute") then Some symmetries.Permute
    else (if bytes_eq word (codes "rotate8") then Some symmetries.Rotate8
    else (if bytes_eq word (codes "rotate8reflect") then Some symmetries.Rotate8Reflect else None))))))

-- the value of a descriptor with one of these keys
abbrev pub value_by : {X : Type 0} → (List ℕ → Bool) → (List ℕ → Option X) → List ℕ → Option X
value_by is_key named text = if describes_by is_key text then named (setting_of text) else None

-- what these lines describe: the first value of each
abbrev pub states_of : List (List ℕ) → Option ℕ
states_of texts = first_some (map (value_by is_states_key states_named) texts)

abbrev pub neighborhood_of : List (List ℕ) → Option Neighborhood
neighborhood_of texts = first_some (map (value_by is_neighborhood_key neighborhood_named) texts)

abbrev pub symmetry_of : List (List ℕ) → Option Symmetry
symmetry_of texts = first_some (map (value_by is_symmetry_key symmetry_named) texts)

-- the symmetry is listed for the neighbourhood, where both are known
abbrev pub agree : Option Neighborhood → Option Symmetry → Bool
agree None symmetry = true
agree (Some neighborhood) None = true
agree (Some neighborhood) (Some symmetry) = is_listed neighborhood symmetry

-- 3. Entries

-- each of the options, if none is lacking
abbrev pub all_some : {X : Type 0} → List (Option X) → Option (List X)
all_some [] = Some []
all_some (None ∷ options) = None
all_some (Some x ∷ options) = option_map (λ xs. x ∷ xs) (all_some options)

-- the number of the variable with this name
abbrev pub variable_named : List Var → List ℕ → Option ℕ
variable_named vars word = position (λ var. bytes_eq var.name word) vars

-- a digit text is a state below the number of states, another word the name of a variable
unfoldable pub entry_of : ℕ → List Var → List ℕ → Option Entry
entry_of n_states vars word =
    if is_digit_text word then option_map entries.Fixed (number_below n_states word)
    else option_map entries.Var (variable_named vars word)

-- the texts between commas, without whitespace at their ends
abbrev pub between_commas : List ℕ → List (List ℕ)
between_commas text = map trim (slice_split (λ b. b == byte ",") text)

-- 4. Variables

-- `var` and whitespace
abbrev pub is_variable_line : List ℕ → Bool
is_variable_line text = begins_with text (codes "var") && list_any is_whitespace (take 1 (drop 3 text))

-- a byte of a variable's name: visible ASCII, and none of `, = { } : # @`
abbrev pub is_name_byte : ℕ → Bool
is_name_byte b = is_ascii_graphic b && not (list_any (λ c. b == c) (codes ",={}:#@"))

abbrev pub is_variable_name : List ℕ → Bool
is_variable_name word = not (is_empty word) && list_all is_name_byte word && not (list_any is_ascii_digit (take 1 word))

-- the name before the equals sign, and what comes after it
abbrev pub variable_name : List ℕ → List ℕ
variable_name text = trim (before_first (λ b. b == byte "=") (drop 3 text))

abbrev pub list_text : List ℕ → List ℕ
list_text text = trim (after_first (λ b. b == byte "=") (drop 3 text))

-- a list in braces
abbrev pub is_list : List ℕ → Bool
is_list text = nat_le 2 (length text) && bytes_eq (take 1 text) (codes "{") && bytes_eq (drop (length text - 1) text) (codes "}")

-- what stands between the braces
abbrev pub within_braces : List ℕ → List ℕ
within_braces text = take (length text - 2) (drop 1 text)

-- the set of one state, of both sets' states, and of all the sets' states, each as four words
abbrev pub single : ℕ → List ℕ
single s = map (λ k. if k == s / 64 then 2 ^ (s % 64) else 0) (0 ∷ 1 ∷ 2 ∷ 3 ∷ [])

abbrev pub union : List ℕ → List ℕ → List ℕ
union a b = map (λ k. bit_or (slice_index a k) (slice_index b k)) (0 ∷ 1 ∷ 2 ∷ 3 ∷ [])

abbrev pub union_of : List (List ℕ) → List ℕ
union_of sets = fold union (0 ∷ 0 ∷ 0 ∷ 0 ∷ []) sets

-- the states of an entry: itself, or all those of the variable
abbrev pub states_of_entry : List Var → Entry → Option (List ℕ)
states_of_entry vars (entries.Fixed s) = Some (single s)
states_of_entry vars (entries.Var i) = option_map (λ var. var.states) (slice_get vars i)

-- the states of the entries in a list, if each of them is one
unfoldable pub states_listed : ℕ → List Var → List ℕ → Option (List ℕ)
states_listed n_states vars text =
    option_map union_of (all_some (map (λ word. option_and_then (states_of_entry vars) (entry_of n_states vars word)) (between_commas text)))

-- the states of a new variable with this name and list, if both are of their form
unfoldable pub variable_states : ℕ → List Var → List ℕ → List ℕ → Option (List ℕ)
variable_states n_states vars name list =
    if is_variable_name name then (if is_some (variable_named vars name) then None
    else (if is_list list then states_listed n_states vars (within_braces list) else None))
    else None

-- the variable that a line writes after these variables, if it writes one
unfoldable pub variable_of : ℕ → List Var → List ℕ → Option Var
variable_of n_states vars text =
    option_map (λ states. record { name = variable_name text; states = states }) (variable_states n_states vars (variable_name text) (list_text text))

-- the variables that these lines write, in their order
abbrev pub variables_written : ℕ → List (List ℕ) → List Var
variables_written n_states texts =
    fold (λ vars text. vars ++ (if is_variable_line text && not (is_descriptor text) then option_to_list (variable_of n_states vars text) else [])) [] texts

-- the same where the number of states is described
abbrev pub variables_in : Option ℕ → List (List ℕ) → List Var
variables_in None texts = []
variables_in (Some n_states) texts = variables_written n_states texts

-- 5. Transitions

-- each byte that isn't whitespace, alone
abbrev pub bytes_alone : List ℕ → List (List ℕ)
bytes_alone text = map (λ b. b ∷ []) (filter (λ b. not (is_whitespace b)) text)

-- the words of a transition: between commas, or where there is none each byte that isn't whitespace
abbrev pub transition_words : List ℕ → List (List ℕ)
transition_words text =
    if list_any (λ b. b == byte ",") text then between_commas text
    else bytes_alone text

-- the entries of a transition, if each of its words is one
unfoldable pub entries_of : ℕ → List Var → List ℕ → Option (List Entry)
entries_of n_states vars text = all_some (map (entry_of n_states vars) (transition_words text))

-- a centre, as many neighbours as there are, and an output
abbrev pub transition_from : ℕ → ℕ → List Entry → Option Transition
transition_from neighbours number parts =
    if length parts == neighbours + 2
    then option_map (λ output. record { line = number; inputs = take (neighbours + 1) parts; output = output }) (slice_get parts (neighbours + 1))
    else None

-- the transition that a line writes
unfoldable pub transition_of : ℕ → ℕ → List Var → ℕ → List ℕ → Option Transition
transition_of n_states neighbours vars number text = option_and_then (transition_from neighbours number) (entries_of n_states vars text)

-- a transition is a line that is neither a descriptor nor a variable
abbrev pub is_transition_line : List ℕ → Bool
is_transition_line text = not (is_descriptor text) && not (is_variable_line text)

-- the transitions that these lines write, in their order
abbrev pub transitions_written : ℕ → ℕ → List Var → List NumberedLine → List Transition
transitions_written n_states neighbours vars texts =
    filter_map (λ text. if is_transition_line text.1 then transition_of n_states neighbours vars text.0 text.1 else None) texts

-- the same where the number of states and the neighbourhood are described
abbrev pub transitions_in : Option ℕ → Option Neighborhood → List Var → List NumberedLine → List Transition
transitions_in (Some n_states) (Some neighborhood) vars texts = transitions_written n_states (neighbour_count neighborhood) vars texts
transitions_in _ _ vars texts = []

-- an output variable is an input
abbrev pub is_bound : List Entry → Entry → Bool
is_bound inputs (entries.Fixed s) = true
is_bound inputs (entries.Var i) = list_any (is_variable i) inputs

-- 6. What lines say

-- what the table's texts say, after this name and in this section
abbrev pub parsed_in : Option (List ℕ) → Section → List NumberedLine → Parsed
parsed_in name section texts =
    let n_states = states_of (texts_of_lines texts) in
    let neighborhood = neighborhood_of (texts_of_lines texts) in
    let vars = variables_in n_states (texts_of_lines texts) in
    record {
      name = name;
      section = section;
      n_states = n_states;
      neighborhood = neighborhood;
      symmetry = symmetry_of (texts_of_lines texts);
      vars = vars;
      lines = transitions_in n_states neighborhood vars texts;
    }

-- what these lines say
abbrev pub parsed_by : List NumberedLine → Parsed
parsed_by lines = parsed_in (name_of lines) (section_of lines) (table_texts lines)

-- 7. What one more line says, or which rule it breaks

abbrev pub if_named : Option (List ℕ) → Result Directive Kind
if_named None = Err NoRuleLine
if_named (Some name) = Ok (RuleName name)

-- before the table
abbrev pub parse_ahead : Option (List ℕ) → List ℕ → Result Directive Kind
parse_ahead None line = if is_passed_over line then Ok Nothing else if_named (name_on line)
parse_ahead (Some name) line = if is_table_line line then Ok TableOpens else Ok Nothing

abbrev pub if_states : Option ℕ → Result Directive Kind
if_states None = Err BadDescriptor
if_states (Some n_states) = Ok (States n_states)

abbrev pub if_neighborhood : Option Symmetry → Option Neighborhood → Result Directive Kind
if_neighborhood symmetry None = Err UnsupportedNeighborhood
if_neighborhood symmetry (Some neighborhood) = if agree (Some neighborhood) symmetry then Ok (Neighbors neighborhood) else Err UnsupportedSymmetry

abbrev pub if_symmetry : Option Neighborhood → Option Symmetry → Result Directive Kind
if_symmetry neighborhood None = Err UnsupportedSymmetry
if_symmetry neighborhood (Some symmetry) = if agree neighborhood (Some symmetry) then Ok (Orders symmetry) else Err UnsupportedSymmetry

-- A descriptor: one of three, given for the first time, with one of its values. (After the first variable or transition all three
-- were given.)
unfoldable pub parse_descriptor : Option ℕ → Option Neighborhood → Option Symmetry → List ℕ → Result Directive Kind
parse_descriptor n_states neighborhood symmetry text =
    if is_states_key (key_of text) then (if is_some n_states then Err BadDescriptor else if_states (states_named (setting_of text)))
    else (if is_neighborhood_key (key_of text) then
    (if is_some neighborhood then Err BadDescriptor else if_neighborhood symmetry (neighborhood_named (setting_of text)))
    else (if is_symmetry_key (key_of text) then (if is_some symmetry then Err BadDescriptor else if_symmetry neighborhood (symmetry_named (setting_of text)))
    else Err BadDescriptor))

abbrev pub if_variable : Option Var → Result Directive Kind
if_variable None = Err BadVariable
if_variable (Some var) = Ok (Variable var)

abbrev pub if_transition : List Var → List Transition → Option Transition → Result Directive Kind
if_transition vars earlier None = Err BadTransition
if_transition vars earlier (Some line) =
    if not (is_bound line.inputs line.output) then Err UnboundOutput
    else (if is_quiet vars (earlier ++ line ∷ []) then Ok (Line line) else Err NotQuiet)

-- a variable or a transition
abbrev pub parse_settled : ℕ → Neighborhood → List Var → List Transition → ℕ → List ℕ → Result Directive Kind
parse_settled n_states neighborhood vars lines number text =
    if is_variable_line text then if_variable (variable_of n_states vars text)
    else if_transition vars lines (transition_of n_states (neighbour_count neighborhood) vars number text)

-- they comes after all three descriptors
abbrev pub parse_rest : Option ℕ → Option Neighborhood → Option Symmetry → List Var → List Transition → ℕ → List ℕ → Result Directive Kind
parse_rest (Some n_states) (Some neighborhood) (Some symmetry) vars lines number text = parse_settled n_states neighborhood vars lines number text
parse_rest _ _ _ vars lines number text = Err BadDescriptor

abbrev pub is_described : Parsed → Bool
is_described parsed = is_some parsed.n_states && is_some parsed.neighborhood && is_some parsed.symmetry

-- in the table
abbrev pub parse_in_table : Parsed → ℕ → List ℕ → Result Directive Kind
parse_in_table parsed number line =
    if is_section_line line then (if is_described parsed then Ok TableEnds else Err BadDescriptor)
    else (if is_empty (line_content line) then Ok Nothing
    else (if is_descriptor (line_content line) then parse_descriptor parsed.n_states parsed.neighborhood parsed.symmetry (line_content line)
    else parse_rest parsed.n_states parsed.neighborhood parsed.symmetry parsed.vars parsed.lines number (line_content line)))

abbrev pub parse_in_section : Section → Parsed → ℕ → List ℕ → Result Directive Kind
parse_in_section Ahead parsed number line = parse_ahead parsed.name line
parse_in_section Open parsed number line = parse_in_table parsed number line
parse_in_section Behind parsed number line = Ok Nothing

-- what a line says after lines that say this, or the first rule of the format that it breaks
unfoldable pub parse_line : Parsed → ℕ → List ℕ → Result Directive Kind
parse_line parsed number line = if is_too_long line then Err LineTooLong else parse_in_section parsed.section parsed number line

abbrev pub fault_in : Result Directive Kind → Option Kind
fault_in (Ok directive) = None
fault_in (Err kind) = Some kind

-- 8. The whole file

-- the number of the line after these, as far as numbers go
abbrev pub number_after : List (List ℕ) → ℕ
number_after before = min (length before + 1) (2 ^ 64 - 1)

-- the first rule of the format that a line breaks after these lines, if it breaks one
unfoldable pub broken_table_rule : List (List ℕ) → List ℕ → Option Kind
broken_table_rule before line = fault_in (parse_line (parsed_by (numbered_from 1 before)) (number_after before) line)

abbrev pub is_ahead : Section → Bool
is_ahead Ahead = true
is_ahead _ = false

-- what a file that says this lacks, if it lacks something
abbrev pub missing_part_of : Parsed → Option Kind
missing_part_of parsed =
    if is_none parsed.name then Some NoRuleLine
    else (if is_ahead parsed.section then Some NoTable
    else (if is_described parsed then None else Some BadDescriptor))

-- what a file of these lines lacks, if it lacks something
unfoldable pub missing_table_part : List (List ℕ) → Option Kind
missing_table_part lines = missing_part_of (parsed_by (numbered_from 1 lines))

-- the kinds with which a rule table is refused
abbrev pub is_table_kind : Kind → Bool
is_table_kind LineTooLong = true
is_table_kind NoRuleLine = true
is_table_kind NoTable = true
is_table_kind BadDescriptor = true
is_table_kind UnsupportedNeighborhood = true
is_table_kind UnsupportedSymmetry = true
is_table_kind BadVariable = true
is_table_kind BadTransition = true
is_table_kind UnboundOutput = true
is_table_kind NotQuiet = true
is_table_kind _ = false

-- the lines are a rule table's file: no line breaks a rule, and nothing is lacking
pub record IsTableFile (lines : List (List ℕ)) : Type 0 where
  pub unbroken : (k : ℕ) → k < length lines → broken_table_rule (take k lines) (slice_index_or lines k []) ≡ None
  pub whole : missing_table_part lines ≡ None

-- what is said is this table
pub record Describes (parsed : Parsed) (table : Table) : Type 0 where
  pub name : parsed.name ≡ Some table.name
  pub n_states : parsed.n_states ≡ Some table.n_states
  pub neighborhood : parsed.neighborhood ≡ Some table.neighborhood
  pub symmetry : parsed.symmetry ≡ Some table.symmetry
  pub vars : parsed.vars ≡ table.vars
  pub lines : parsed.lines ≡ table.lines

-- The lines are a file that writes this table.
pub record AreTable (file_lines : List (List ℕ)) (table : Table) : Type 0 where
  pub file : IsTableFile file_lines
  pub says : Describes (parsed_by (numbered_from 1 file_lines)) table

-- why the lines are no file of a table
abbrev pub RefusesTable : List (List ℕ) → Fault → Type 0
RefusesTable lines fault = IsRefusal IsTableFile (BreaksBy broken_table_rule) missing_table_part lines fault
