-- The file of a rule table a second time: what each line is after the lines before it, without any word of how a fault is named.
-- Golly Help, File Formats, "@RULE" and "@TABLE", states the rule line, the table line, descriptors, variables and transitions. This project's own are limits,
-- lines before the rule line, a table after a tree, `neighbourhood`, most symmetries, entries without commas anywhere, new names, and that 0 stays 0.
use Rattle.std.specs.Prelude.{◌≡◌, ◌↔◌, ◌⊎◌, ◌≢◌, ℕ, ◌+◌, ◌-◌, ◌^◌, ◌≤◌, min, true, false, List, [], ◌∷◌, ◌++◌, length, codes, Some, None}
use Rattle.std.specs.List.{AllZip}
use Rattle.life_base.specs.Text.{is_digit_text, value_of}
use Rattle.life_table.specs.Valid.{neighbour_count, is_quiet}
use Rattle.life_table.specs.Reader.{parsed_after, nothing_parsed}
use Rattle.life_table.specs.Reading.{AreTable, Describes, agree, line_content, entry_of, is_bound, is_descriptor, is_list, is_passed_over, is_section_line, is_table_line, is_variable_line, is_variable_name, key_of, list_text, name_on, variable_name, setting_of, states_listed, transition_words, variable_named, within_braces}
use Rattle.life_table.specs.declared.directive.Parsed.{Parsed}
use Rattle.life_table.specs.declared.directive.Section.TheVariants.{Ahead, Open, Behind}
use Rattle.life_table.specs.declared.directive.Directive.{Directive}
use Rattle.life_table.specs.declared.directive.Directive.TheVariants.{Nothing, RuleName, TableOpens, TableEnds, States, Neighbors, Orders, Variable, Line}
use Rattle.life_table.specs.declared.table.Neighborhood.{Neighborhood}
use Rattle.life_table.specs.declared.table.Neighborhood.TheVariants.{VonNeumann, Moore}
use Rattle.life_table.specs.declared.table.Symmetry.{Symmetry}
use Rattle.life_table.specs.declared.table.Symmetry.TheVariants.{Identity, Rotate4, Rotate4Reflect, ReflectHorizontal, Permute, Rotate8, Rotate8Reflect}
use Rattle.life_table.specs.declared.table.Table.{Table}
use Rattle.life_table.specs.declared.table.Transition.{Transition}
use Rattle.life_table.specs.declared.table.Var.{Var}

-- ---- the words of descriptors

abbrev pub neighborhood_word : Neighborhood → List ℕ
neighborhood_word VonNeumann = codes "vonNeumann"
neighborhood_word Moore = codes "Moore"

abbrev pub symmetry_word : Symmetry → List ℕ
symmetry_word Identity = codes "none"
symmetry_word Rotate4 = codes "rotate4"
symmetry_word Rotate4Reflect = codes "rotate4reflect"
symmetry_word ReflectHorizontal = codes "reflect_horizontal"
symmetry_word Permute = codes "permute"
symmetry_word Rotate8 = codes "rotate8"
symmetry_word Rotate8Reflect = codes "rotate8reflect"

-- ---- what a line of the table says, without its comment and the whitespace at its ends

-- A descriptor: a key and a setting, with the first colon between them.
pub record IsDescriptor (text key setting : List ℕ) : Type 0 where
  pub colon : is_descriptor text ≡ true
  pub before : key_of text ≡ key
  pub behind : setting_of text ≡ setting

-- A number of states is a digit text of value 2 to 256.
pub record IsStates (text : List ℕ) (n : ℕ) : Type 0 where
  pub digits : List ℕ
  pub is : IsDescriptor text (codes "n_states") digits
  pub number : is_digit_text digits ≡ true
  pub value : value_of digits ≡ n
  pub least : 2 ≤ n
  pub most : n ≤ 256

-- A neighbourhood has either spelling of its key.
pub record IsNeighborhood (text : List ℕ) (neighborhood : Neighborhood) : Type 0 where
  pub key : List ℕ
  pub spelled : (key ≡ codes "neighborhood") ⊎ (key ≡ codes "neighbourhood")
  pub is : IsDescriptor text key (neighborhood_word neighborhood)

-- A variable's line: `var`, a new name, an equals sign and a list in braces, whose entries have these states.
pub record IsVariableLine (n_states : ℕ) (vars : List Var) (text : List ℕ) (var : Var) : Type 0 where
  pub colon : is_descriptor text ≡ false
  pub begins : is_variable_line text ≡ true
  pub name : var.name ≡ variable_name text
  pub form : is_variable_name var.name ≡ true
  pub new : variable_named vars var.name ≡ None
  pub braces : is_list (list_text text) ≡ true
  pub states : states_listed n_states vars (within_braces (list_text text)) ≡ Some var.states

-- A transition's line: words for the centre, as many neighbours as there are, and the output, each a state or an earlier variable.
pub record IsTransitionLine (n_states neighbours : ℕ) (vars : List Var) (number : ℕ) (text : List ℕ) (line : Transition) : Type 0 where
  pub colon : is_descriptor text ≡ false
  pub begins : is_variable_line text ≡ false
  pub words : AllZip (λ word entry. entry_of n_states vars word ≡ Some entry) (transition_words text) (line.inputs ++ line.output ∷ [])
  pub count : length line.inputs ≡ neighbours + 1
  pub number_is : line.line ≡ number
  pub bound : is_bound line.inputs line.output ≡ true

-- all three settings were given
pub record AreGiven (parsed : Parsed) (n_states : ℕ) (neighborhood : Neighborhood) (symmetry : Symmetry) : Type 0 where
  pub states : parsed.n_states ≡ Some n_states
  pub neighbours : parsed.neighborhood ≡ Some neighborhood
  pub orders : parsed.symmetry ≡ Some symmetry

-- What a line of the table says after lines that said this. The settings come once each, in any order, before all else; a
-- symmetry is listed for the neighbourhood; and no transition lets a cell of state 0 leave it among cells of state 0.
pub data TextSays (parsed : Parsed) (number : ℕ) (text : List ℕ) (directive : Directive) : Type 0 where
  states : (n : ℕ) → IsStates text n → parsed.n_states ≡ None → directive ≡ States n → TextSays parsed number text directive
  neighborhood : (h : Neighborhood) → IsNeighborhood text h → parsed.neighborhood ≡ None → agree (Some h) parsed.symmetry ≡ true → directive ≡ Neighbors h
      → TextSays parsed number text directive
  symmetry : (y : Symmetry) → IsDescriptor text (codes "symmetries") (symmetry_word y) → parsed.symmetry ≡ None → agree parsed.neighborhood (Some y) ≡ true
      → directive ≡ Orders y
      → TextSays parsed number text directive
  variable : (n : ℕ) (h : Neighborhood) (y : Symmetry) (var : Var) → AreGiven parsed n h y → IsVariableLine n parsed.vars text var → directive ≡ Variable var
      → TextSays parsed number text directive
  transition : (n : ℕ) (h : Neighborhood) (y : Symmetry) (line : Transition) → AreGiven parsed n h y
      → IsTransitionLine n (neighbour_count h) parsed.vars number text line
      → is_quiet parsed.vars (parsed.lines ++ line ∷ []) ≡ true → directive ≡ Line line → TextSays parsed number text directive

-- ---- what a line of the file says after lines that said this

pub data LineSays (parsed : Parsed) (number : ℕ) (line : List ℕ) (directive : Directive) : Type 0 where
  -- before the rule line: a blank line or a comment
  passed : parsed.section ≡ Ahead → parsed.name ≡ None → is_passed_over line ≡ true → directive ≡ Nothing → LineSays parsed number line directive
  rule_line : (name : List ℕ) → parsed.section ≡ Ahead → parsed.name ≡ None → is_passed_over line ≡ false → name_on line ≡ Some name → directive ≡ RuleName name
      → LineSays parsed number line directive
  -- before the table: a line of another section
  other : (name : List ℕ) → parsed.section ≡ Ahead → parsed.name ≡ Some name → is_table_line line ≡ false → directive ≡ Nothing
      → LineSays parsed number line directive
  table_line : (name : List ℕ) → parsed.section ≡ Ahead → parsed.name ≡ Some name → is_table_line line ≡ true → directive ≡ TableOpens
      → LineSays parsed number line directive
  -- in the table: a blank line or a comment, or one that says something
  blank : parsed.section ≡ Open → is_section_line line ≡ false → line_content line ≡ [] → directive ≡ Nothing → LineSays parsed number line directive
  says : parsed.section ≡ Open → is_section_line line ≡ false → line_content line ≢ [] → TextSays parsed number (line_content line) directive
      → LineSays parsed number line directive
  -- the next section, and whatever comes after its first line
  section_line : (n : ℕ) (h : Neighborhood) (y : Symmetry) → parsed.section ≡ Open → is_section_line line ≡ true → AreGiven parsed n h y → directive ≡ TableEnds
      → LineSays parsed number line directive
  behind : parsed.section ≡ Behind → directive ≡ Nothing → LineSays parsed number line directive

-- ---- a file

-- Further lines, the first of which has this number, lead from what was said to this. A number above 2 ^ 64 - 1 is reported as that.
abbrev pub Lead : Parsed → ℕ → List (List ℕ) → Parsed → Type 0
Lead parsed number [] end = parsed ≡ end
Lead parsed number (line ∷ lines) end =
    (directive : Directive) × (length line ≤ 2 ^ 20) × LineSays parsed number line directive
    × Lead (parsed_after parsed directive) (min (number + 1) (2 ^ 64 - 1))
    lines end

-- The lines are a file that writes this table: from nothing they lead to its parts, and a table line was among them.
pub record IsPlainTable (lines : List (List ℕ)) (table : Table) : Type 0 where
  pub parsed : Parsed
  pub leads : Lead nothing_parsed 1 lines parsed
  pub came : parsed.section ≢ Ahead
  pub describes : Describes parsed table

-- Lines are such a file exactly if no line breaks a rule and nothing is lacking, and then they write the same table.
abbrev pub TableGrammarsAgree : Type 0
TableGrammarsAgree = (lines : List (List ℕ)) (table : Table) → IsPlainTable lines table ↔ AreTable lines table
