-- Rule tables (Golly Help, File Formats, "Rule format", "@RULE" and "@TABLE"): what each line says, what a file says, which fault the first line has
-- that breaks a rule, and which state a table gives a cell. Of Golly Help are the sections, the descriptors, variables and transitions, the order of
-- the neighbours, and that the first line that fits decides. This project's own are:
--   the limits, the kinds and the order of their tests; that each of the three descriptors is given, and once;
--   blank lines and comments may stand before `@RULE`, whose name isn't compared with that of the file;
--   every line whose first byte is `@` begins a section, and the table counts also where a `@TREE` stands before it (in Golly the first one counts);
--   `neighbourhood` is as good as `neighborhood`; which symmetries there are, and which orders each lists: those by which Golly's program steps (Golly
--   Help names `none` and `permute`, and shows `rotate4` of four neighbours);
--   a variable line has `=` and braces, and gives a new name; without commas each byte that isn't whitespace is an entry, however many states and
--   variables there are;
--   a line that gives a cell two states is ambiguous, where Golly takes one of them; a table must leave a cell of state 0 among such cells as it is.
use Rattle.std.specs.Prelude.{ℕ, ◌+◌, ◌-◌, ◌*◌, ◌/◌, ◌%◌, ◌^◌, min, Bool, true, false, not, ◌&&◌, ◌||◌, List, [], ◌∷◌, ◌++◌, length, take, drop, map, filter, flat_map, nat_le, nat_lt, ◌==◌, if◌then◌else◌, bytes_eq, codes, slice_get, slice_index, slice_index_or, Option, Some, None, Result, Ok, Err}
use Rattle.std.specs.Char.{is_ascii_digit, is_ascii_graphic}
use Rattle.std.specs.List.{list_all, list_any, slice_split, before_first, after_first, zip, filter_map, range_with_len, position}
use Rattle.std.specs.Option.{is_some, is_none, unwrap_or}
use Rattle.std.specs.Str.{byte}
use Rattle.life_base.specs.declared.fault.Fault.{Fault}
use Rattle.claims.specs.Files.{on_line}
use Rattle.life_base.specs.Text.{lines_of, is_empty, is_blank, is_whitespace, is_too_long, begins_with, trim, is_digit_text, value_of}
use Rattle.life_base.specs.declared.kind.Kind.{Kind}
use Rattle.life_base.specs.declared.kind.Kind.TheVariants.{LineTooLong, NoRuleLine, NoTable, BadDescriptor, UnsupportedNeighborhood, UnsupportedSymmetry, BadVariable, BadTransition, UnboundOutput, NotQuiet}
use Rattle.claims.specs.Outcomes.{◌>>=◌}
use Rattle.claims.specs.Rules.{Rule, named, claimed_rule_of, has}
use Rattle.claims.specs.Macrocell.{is_claimed_command}

-- what stands in a place of a transition: a state, or the variable of this number, counted from 0
pub data Entry : Type 0 where
  fixed : (state : ℕ) → Entry
  variable : (number : ℕ) → Entry

pub record Variable : Type 0 where
  pub name : List ℕ
  pub states : List ℕ

-- a transition: the number of its line (one above 2 ^ 64 - 1 is reported as that), the entries for the centre and its neighbours, and that for the next
-- state
pub record Transition : Type 0 where
  pub line : ℕ
  pub inputs : List Entry
  pub output : Entry

-- what the lines from the rule line on say: how many states, of how many neighbours, and the word of the symmetry, where they were given
pub record Table : Type 0 where
  pub name : List ℕ
  pub n_states : Option ℕ
  pub neighbours : Option ℕ
  pub symmetry : Option (List ℕ)
  pub variables : List Variable
  pub transitions : List Transition

-- how far the lines so far go: to a line before the rule line, to one from it on, to one of the table, or to the section after it
pub data Section : Type 0 where
  ahead : Section
  named_rule : (name : List ℕ) → Section
  in_table : Table → Section
  after_table : Table → Section

-- ---- descriptors

abbrev pub is_complete : Table → Bool
is_complete table = is_some table.n_states && is_some table.neighbours && is_some table.symmetry

abbrev pub every_symmetry : List (List ℕ)
every_symmetry = codes "none" ∷ codes "rotate4" ∷ codes "rotate4reflect" ∷ codes "reflect_horizontal" ∷ codes "permute" ∷ []

abbrev pub symmetries_of : ℕ → List (List ℕ)
symmetries_of neighbours = if neighbours == 8 then every_symmetry ++ codes "rotate8" ∷ codes "rotate8reflect" ∷ [] else every_symmetry

-- a symmetry is listed for a neighbourhood, where both were given
abbrev pub claimed_symmetry_agrees : Option ℕ → Option (List ℕ) → Bool
claimed_symmetry_agrees (Some neighbours) (Some word) = list_any (bytes_eq word) (symmetries_of neighbours)
claimed_symmetry_agrees neighbours word = true

abbrev pub with_neighbours : Table → Option ℕ → Result Table Kind
with_neighbours table None = Err UnsupportedNeighborhood
with_neighbours table (Some n) = if claimed_symmetry_agrees (Some n) table.symmetry then Ok (record table { neighbours = Some n }) else Err UnsupportedSymmetry

abbrev pub neighbours_named : List ℕ → Option ℕ
neighbours_named word = if bytes_eq word (codes "vonNeumann") then Some 4 else if bytes_eq word (codes "Moore") then Some 8 else None

-- A key and a value; each key once. (Golly reads `neighborhood` alone.)
abbrev pub with_descriptor : Table → List ℕ → List ℕ → Result Table Kind
with_descriptor table key value =
    let is_count = is_digit_text value && nat_le 2 (value_of value) && nat_le (value_of value) 256 in
    let is_listed = list_any (bytes_eq value) (symmetries_of 8) && claimed_symmetry_agrees table.neighbours (Some value) in
    if bytes_eq key (codes "n_states") && is_none table.n_states
    then (if is_count then Ok (record table { n_states = Some (value_of value) }) else Err BadDescriptor)
    else if (bytes_eq key (codes "neighborhood") || bytes_eq key (codes "neighbourhood")) && is_none table.neighbours
    then with_neighbours table (neighbours_named value)
    else if bytes_eq key (codes "symmetries") && is_none table.symmetry
    then (if is_listed then Ok (record table { symmetry = Some value }) else Err UnsupportedSymmetry)
    else Err BadDescriptor

-- ---- entries

-- the entry of a text: a state below the number of states, or an earlier variable
abbrev pub claimed_entry_of : Table → List ℕ → Option Entry
claimed_entry_of table text =
    if is_digit_text text then (if nat_lt (value_of text) (unwrap_or table.n_states 0) then Some (fixed (value_of text)) else None)
    else elim (position (λ (v : Variable). bytes_eq v.name text) table.variables) [ None ↦ None | Some number ↦ Some (variable number) ]

-- the entries of texts, if each is one
abbrev pub claimed_entries_of : Table → List (List ℕ) → Option (List Entry)
claimed_entries_of table [] = Some []
claimed_entries_of table (text ∷ texts) = elim (claimed_entry_of table text) [
  | None ↦ None
  | Some entry ↦ elim (claimed_entries_of table texts) [ None ↦ None | Some entries ↦ Some (entry ∷ entries) ]
]

-- the states of an entry
abbrev pub claimed_states_of : List Variable → Entry → List ℕ
claimed_states_of variables (fixed state) = state ∷ []
claimed_states_of variables (variable number) = elim (slice_get variables number) [ None ↦ [] | Some v ↦ v.states ]

abbrev pub parts_of : List ℕ → List (List ℕ)
parts_of text = map trim (slice_split (λ b. b == byte ",") text)

-- ---- variables and transitions

-- a name: visible bytes without `,` `=` `{` `}` `:` `#` `@`, the first no digit
abbrev pub is_name : List ℕ → Bool
is_name name = not (is_empty name) && list_all (λ b. is_ascii_graphic b && not (has (codes ",={}:#@") b)) name && not (is_ascii_digit (slice_index name 0))

-- `NAME = {ENTRY,ENTRY,..}`, after `var`; the name is a new one
abbrev pub with_variable : Table → List ℕ → Result Table Kind
with_variable table text =
    let name = trim (before_first (λ b. b == byte "=") text) in
    let list = trim (after_first (λ b. b == byte "=") text) in
    let inner = take (length list - 2) (drop 1 list) in
    let braces = nat_le 2 (length list) && begins_with list (codes "{") && bytes_eq (drop (length list - 1) list) (codes "}") in
    if is_name name && not (list_any (λ (v : Variable). bytes_eq v.name name) table.variables) && braces
    then elim (claimed_entries_of table (parts_of inner)) [
      | None ↦ Err BadVariable
      | Some entries ↦
          let new : Variable = record { name = name; states = flat_map (claimed_states_of table.variables) entries } in
          Ok (record table { variables = table.variables ++ new ∷ [] })
    ] else Err BadVariable

-- the texts of a transition: those between commas, or each byte that isn't whitespace where it has no comma
abbrev pub transition_texts : List ℕ → List (List ℕ)
transition_texts text = if has text (byte ",") then parts_of text else map (λ b. b ∷ []) (filter (λ b. not (is_whitespace b)) text)

abbrev pub is_claimed_bound : List Entry → Entry → Bool
is_claimed_bound inputs (fixed state) = true
is_claimed_bound inputs (variable n) = list_any (λ (e : Entry). elim e [ fixed state ↦ false | variable m ↦ m == n ]) inputs

-- a transition fits a cell of state 0 whose neighbours all have state 0
abbrev pub claimed_fits_zero : List Variable → Transition → Bool
claimed_fits_zero variables line = list_all (λ entry. list_any (λ s. s == 0) (claimed_states_of variables entry)) line.inputs

abbrev pub leaves_zero : Entry → Bool
leaves_zero (fixed state) = not (state == 0)
leaves_zero (variable number) = false

-- a transition more, whose output is bound and which leaves the plane quiet, with the number of its line
abbrev pub with_entries : Table → ℕ → List Entry → Entry → Result Table Kind
with_entries table number inputs output =
    let line : Transition = record { line = min number (2 ^ 64 - 1); inputs = inputs; output = output } in
    if not (is_claimed_bound inputs output) then Err UnboundOutput
    else if claimed_fits_zero table.variables line && leaves_zero output
    && not (list_any (claimed_fits_zero table.variables) table.transitions) then Err NotQuiet
    else Ok (record table { transitions = table.transitions ++ line ∷ [] })

-- the same of the text of a transition
abbrev pub with_transition : Table → ℕ → List ℕ → Result Table Kind
with_transition table number text =
    let texts = transition_texts text in
    let places = unwrap_or table.neighbours 0 + 1 in
    if not (length texts == places + 1) then Err BadTransition
    else elim (claimed_entries_of table (take places texts)) [
      | None ↦ Err BadTransition
      | Some entries ↦
          elim (claimed_entry_of table (slice_index_or texts places [])) [ None ↦ Err BadTransition | Some output ↦ with_entries table number entries output ]
    ]

-- ---- the lines

-- what the text of a line of the table says, which has lost its comment and the whitespace at its ends
abbrev pub with_text : Table → ℕ → List ℕ → Result Table Kind
with_text table number text =
    if is_empty text then Ok table
    else if has text (byte ":") then with_descriptor table (trim (before_first (λ b. b == byte ":") text)) (trim (after_first (λ b. b == byte ":") text))
    else if not (is_complete table) then Err BadDescriptor
    else if is_claimed_command (codes "var") text && nat_lt 3 (length text) then with_variable table (drop 3 text)
    else with_transition table number text

abbrev pub with_rule_line : List ℕ → Result Rule Kind → Result Section Kind
with_rule_line line (Ok (named name)) = if is_claimed_command (codes "@RULE") line then Ok (named_rule name) else Err NoRuleLine
with_rule_line line _ = Err NoRuleLine

abbrev pub new_table : List ℕ → Table
new_table name = record { name = name; n_states = None; neighbours = None; symmetry = None; variables = []; transitions = [] }

-- What the lines so far say with one more after them, or the first rule that this one breaks. A line that is too long is refused wherever it stands.
-- Of the others blank lines and comments before the rule line are passed over, and every line between it and the table line, and after the table.
unfoldable pub with_table_line : Section → ℕ → List ℕ → Result Section Kind
with_table_line section number line = if is_too_long line then Err LineTooLong else by_section section
  where
    by_section : Section → Result Section Kind
    by_section ahead = if is_blank line || begins_with line (codes "#") then Ok ahead else with_rule_line line (claimed_rule_of (drop 5 line))
    by_section (named_rule name) = if is_claimed_command (codes "@TABLE") line then Ok (in_table (new_table name)) else Ok (named_rule name)
    by_section (in_table table) =
        if begins_with line (codes "@") then (if is_complete table then Ok (after_table table) else Err BadDescriptor)
        else (with_text table number (trim (before_first (λ b. b == byte "#") line)) >>= λ next. Ok (in_table next))
    by_section (after_table table) = Ok (after_table table)

abbrev pub end_of_table : Section → Result Table Kind
end_of_table ahead = Err NoRuleLine
end_of_table (named_rule name) = Err NoTable
end_of_table (in_table table) = if is_complete table then Ok table else Err BadDescriptor
end_of_table (after_table table) = Ok table

-- what lines from this number on say after what is said already, and then their end; or the fault of the first line that has one
abbrev pub read_table_lines : ℕ → Section → List (List ℕ) → Result Table Fault
read_table_lines number section [] = on_line number (end_of_table section)
read_table_lines number section (line ∷ lines) = on_line number (with_table_line section number line) >>= λ next. read_table_lines (number + 1) next lines

-- what the bytes of a rule file say
unfoldable pub table_of : List ℕ → Result Table Fault
table_of bytes = read_table_lines 1 ahead (lines_of bytes)

-- ---- what a table gives

-- the turn by r, and the reflected one; the neighbours stand from north clockwise
abbrev pub claimed_turn : List ℕ → ℕ → List ℕ
claimed_turn v r = map (λ i. slice_index v ((i + r) % length v)) (range_with_len 0 (length v))

abbrev pub claimed_reflection : List ℕ → ℕ → List ℕ
claimed_reflection v r = map (λ i. slice_index v ((length v - i + r) % length v)) (range_with_len 0 (length v))

-- so many turns, each by a step more
abbrev pub claimed_turns : (List ℕ → ℕ → List ℕ) → List ℕ → ℕ → ℕ → List (List ℕ)
claimed_turns by v count step = map (λ k. by v (k * step)) (range_with_len 0 count)

-- an item put at each place of a list
abbrev pub claimed_insertions : (item : ℕ) → (items : List ℕ) → List (List ℕ)
claimed_insertions x [] = (x ∷ []) ∷ []
claimed_insertions x (y ∷ ys) = (x ∷ y ∷ ys) ∷ map (λ zs. y ∷ zs) (claimed_insertions x ys)

-- every order of a list
abbrev pub claimed_orders : List ℕ → List (List ℕ)
claimed_orders [] = [] ∷ []
claimed_orders (x ∷ xs) = flat_map (claimed_insertions x) (claimed_orders xs)

-- the orders of the neighbours that a symmetry lists, as in Golly's program
unfoldable pub claimed_images : List ℕ → List ℕ → List (List ℕ)
claimed_images word v =
    let quarter = length v / 4 in
    if bytes_eq word (codes "rotate4") then claimed_turns claimed_turn v 4 quarter
    else if bytes_eq word (codes "rotate4reflect") then claimed_turns claimed_turn v 4 quarter ++ claimed_turns claimed_reflection v 4 quarter
    else if bytes_eq word (codes "reflect_horizontal") then claimed_turn v 0 ∷ claimed_reflection v 0 ∷ []
    else if bytes_eq word (codes "permute") then claimed_orders v
    else if bytes_eq word (codes "rotate8") then claimed_turns claimed_turn v 8 1
    else if bytes_eq word (codes "rotate8reflect") then claimed_turns claimed_turn v 8 1 ++ claimed_turns claimed_reflection v 8 1
    else v ∷ []

-- the state that a variable takes: that of its first place, and 0 where it has none
abbrev pub state_of_variable : List Entry → List ℕ → ℕ → ℕ
state_of_variable [] states n = 0
state_of_variable (entry ∷ entries) [] n = 0
state_of_variable (fixed s ∷ entries) (state ∷ states) n = state_of_variable entries states n
state_of_variable (variable m ∷ entries) (state ∷ states) n = if m == n then state else state_of_variable entries states n

-- an entry allows its own state, and that of a variable one of the variable's states, which is the same at all its places
abbrev pub allows : List Variable → (ℕ → ℕ) → Entry × ℕ → Bool
allows variables value (fixed s, state) = s == state
allows variables value (variable n, state) = value n == state && list_any (λ s. s == state) (claimed_states_of variables (variable n))

-- the state that a line gives a cell for one order of its neighbours, if it fits them
abbrev pub claimed_state_given : List Variable → Transition → List ℕ → Option ℕ
claimed_state_given variables line states =
    let value = state_of_variable line.inputs states in
    if list_all (allows variables value) (zip line.inputs states)
    then Some (elim line.output [ fixed s ↦ s | variable n ↦ value n ]) else None

-- all states that a line gives a cell with these neighbours
abbrev pub claimed_states_given : Table → ℕ → List ℕ → Transition → List ℕ
claimed_states_given table centre around line =
    filter_map (λ image. claimed_state_given table.variables line (centre ∷ image)) (claimed_images (unwrap_or table.symmetry []) around)

-- a state, or the number of the line that gives two (where Golly takes one of them)
pub data ClaimedAnswer : Type 0 where
  becomes : (state : ℕ) → ClaimedAnswer
  ambiguous : (line : ℕ) → ClaimedAnswer

-- what the first of these lines that gives anything decides; the cell keeps its state where none does
abbrev pub claimed_decision : Table → ℕ → List ℕ → List Transition → ClaimedAnswer
claimed_decision table centre around [] = becomes centre
claimed_decision table centre around (line ∷ lines) = elim (claimed_states_given table centre around line) [
  | [] ↦ claimed_decision table centre around lines
  | state ∷ states ↦ if list_all (λ s. s == state) states then becomes state else ambiguous line.line
]
