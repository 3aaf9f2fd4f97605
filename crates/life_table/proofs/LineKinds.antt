-- The kinds with which the file of a rule table is refused.
use Rattle.std.proofs.Common.{◌≡◌, inl, inr, ℕ, ◌-◌, List, length, take, Bool, true, false, cond, refl, sym, ap, ◌∙◌, Option, Some, None, Result, Ok, Err, is_some, is_none, not, ◌++◌, ◌∷◌, []}
use Rattle.std.specs.List.{slice_index_or}
use Rattle.life_base.specs.Text.{is_empty, is_too_long, numbered_from}
use Rattle.life_base.specs.Refusal.{is_placeless}
use Rattle.life_base.specs.declared.kind.Kind.{Kind}
use Rattle.life_base.specs.declared.kind.Kind.TheVariants as kinds
use Rattle.life_base.proofs.LineKinds.{names_line as kinds_name_lines}
use Rattle.life_base.proofs.RuleKinds.{errs_by, errs_by_cases}
use Rattle.life_base.proofs.Basics.{le_or_lt}
use Rattle.life_table.specs.Valid.{neighbour_count, is_quiet}
use Rattle.life_table.specs.Laws.{TableLinesBreakByKinds, TableRefusalsHaveKinds}
use Rattle.life_table.specs.Reading.{is_table_kind, broken_table_rule, missing_table_part, missing_part_of, is_ahead, is_described, parsed_by, number_after, fault_in, parse_line, parse_in_section, parse_in_table, parse_rest, parse_settled, parse_ahead, parse_descriptor, if_named, if_states, if_neighborhood, if_symmetry, if_variable, if_transition, name_on, is_passed_over, is_table_line, is_section_line, is_descriptor, line_content, key_of, setting_of, is_states_key, is_neighborhood_key, is_symmetry_key, states_named, neighborhood_named, symmetry_named, agree, is_variable_line, variable_of, transition_of, is_bound}
use Rattle.life_table.specs.declared.directive.Parsed.{Parsed}
use Rattle.life_table.specs.declared.directive.Section.{Section}
use Rattle.life_table.specs.declared.directive.Section.TheVariants.{Ahead, Open, Behind}
use Rattle.life_table.specs.declared.directive.Directive.{Directive}
use Rattle.life_table.specs.declared.directive.Directive.TheVariants.{Nothing, TableOpens, TableEnds, Neighbors, Orders, Line}
use Rattle.life_table.specs.declared.table.Neighborhood.{Neighborhood}
use Rattle.life_table.specs.declared.table.Symmetry.{Symmetry}
use Rattle.life_table.specs.declared.table.Transition.{Transition}
use Rattle.life_table.specs.declared.table.Var.{Var}

-- the answer is no fault, or one of these kinds
abbrev InKinds : Result Directive Kind → Type 0
InKinds r = errs_by is_table_kind r ≡ true

either : (b : Bool) (r s : Result Directive Kind) → InKinds r → InKinds s → InKinds (cond b r s)
either = errs_by_cases is_table_kind

-- ---- before the table

in_name : (o : Option (List ℕ)) → InKinds (if_named o)
in_name None = refl
in_name (Some name) = refl

in_prefix : (o : Option (List ℕ)) (line : List ℕ) → InKinds (parse_ahead o line)
in_prefix None line = either (is_passed_over line) (Ok Nothing) (if_named (name_on line)) refl (in_name (name_on line))
in_prefix (Some name) line = either (is_table_line line) (Ok TableOpens) (Ok Nothing) refl refl

-- ---- descriptors

in_states : (o : Option ℕ) → InKinds (if_states o)
in_states None = refl
in_states (Some n) = refl

in_neighborhood : (symmetry : Option Symmetry) (o : Option Neighborhood) → InKinds (if_neighborhood symmetry o)
in_neighborhood symmetry None = refl
in_neighborhood symmetry (Some h) = either (agree (Some h) symmetry) (Ok (Neighbors h)) (Err kinds.UnsupportedSymmetry) refl refl

in_symmetry : (neighborhood : Option Neighborhood) (o : Option Symmetry) → InKinds (if_symmetry neighborhood o)
in_symmetry neighborhood None = refl
in_symmetry neighborhood (Some y) = either (agree neighborhood (Some y)) (Ok (Orders y)) (Err kinds.UnsupportedSymmetry) refl refl

in_descriptor : (n : Option ℕ) (h : Option Neighborhood) (y : Option Symmetry) (text : List ℕ) → InKinds (parse_descriptor n h y text)
unfolding parse_descriptor
in_descriptor n h y text =
    let bad : Result Directive Kind = Err kinds.BadDescriptor in
    let states : Result Directive Kind = if_states (states_named (setting_of text)) in
    let neighborhood : Result Directive Kind = if_neighborhood y (neighborhood_named (setting_of text)) in
    let symmetry : Result Directive Kind = if_symmetry h (symmetry_named (setting_of text)) in
    let third : Result Directive Kind = cond (is_symmetry_key (key_of text)) (cond (is_some y) bad symmetry) bad in
    let second : Result Directive Kind = cond (is_neighborhood_key (key_of text)) (cond (is_some h) bad neighborhood) third in
    either (is_states_key (key_of text)) (cond (is_some n) bad states) second (either (is_some n) bad states refl (in_states (states_named (setting_of text))))
    (either (is_neighborhood_key (key_of text)) (cond (is_some h) bad neighborhood) third
    (either (is_some h) bad neighborhood refl (in_neighborhood y (neighborhood_named (setting_of text))))
    (either (is_symmetry_key (key_of text)) (cond (is_some y) bad symmetry) bad
    (either (is_some y) bad symmetry refl (in_symmetry h (symmetry_named (setting_of text)))) refl))

-- ---- variables and transitions

in_variable : (o : Option Var) → InKinds (if_variable o)
in_variable None = refl
in_variable (Some var) = refl

in_transition : (vars : List Var) (earlier : List Transition) (o : Option Transition) → InKinds (if_transition vars earlier o)
in_transition vars earlier None = refl
in_transition vars earlier (Some line) =
    let quiet : Result Directive Kind = cond (is_quiet vars (earlier ++ line ∷ [])) (Ok (Line line)) (Err kinds.NotQuiet) in
    either (not (is_bound line.inputs line.output)) (Err kinds.UnboundOutput) quiet refl
    (either (is_quiet vars (earlier ++ line ∷ [])) (Ok (Line line)) (Err kinds.NotQuiet) refl refl)

in_settled : (n : ℕ) (h : Neighborhood) (vars : List Var) (lines : List Transition) (number : ℕ) (text : List ℕ)
    → InKinds (parse_settled n h vars lines number text)
in_settled n h vars lines number text =
    either (is_variable_line text) (if_variable (variable_of n vars text)) (if_transition vars lines (transition_of n (neighbour_count h) vars number text))
    (in_variable (variable_of n vars text)) (in_transition vars lines (transition_of n (neighbour_count h) vars number text))

in_rest : (n : Option ℕ) (h : Option Neighborhood) (y : Option Symmetry) (vars : List Var) (lines : List Transition) (number : ℕ) (text : List ℕ)
    → InKinds (parse_rest n h y vars lines number text)
in_rest (Some n) (Some h) (Some y) vars lines number text = in_settled n h vars lines number text
in_rest (Some n) (Some h) None vars lines number text = refl
in_rest (Some n) None y vars lines number text = refl
in_rest None h y vars lines number text = refl

-- ---- a line

in_table : (parsed : Parsed) (number : ℕ) (line : List ℕ) → InKinds (parse_in_table parsed number line)
in_table parsed number line =
    let closing : Result Directive Kind = cond (is_described parsed) (Ok TableEnds) (Err kinds.BadDescriptor) in
    let descriptor : Result Directive Kind = parse_descriptor parsed.n_states parsed.neighborhood parsed.symmetry (line_content line) in
    let rest : Result Directive Kind = parse_rest parsed.n_states parsed.neighborhood parsed.symmetry parsed.vars parsed.lines number (line_content line) in
    let says : Result Directive Kind = cond (is_descriptor (line_content line)) descriptor rest in
    let blank : Result Directive Kind = cond (is_empty (line_content line)) (Ok Nothing) says in
    either (is_section_line line) closing blank (either (is_described parsed) (Ok TableEnds) (Err kinds.BadDescriptor) refl refl)
    (either (is_empty (line_content line)) (Ok Nothing) says refl
    (either (is_descriptor (line_content line)) descriptor rest (in_descriptor parsed.n_states parsed.neighborhood parsed.symmetry (line_content line))
    (in_rest parsed.n_states parsed.neighborhood parsed.symmetry parsed.vars parsed.lines number (line_content line))))

in_section : (section : Section) (parsed : Parsed) (number : ℕ) (line : List ℕ) → InKinds (parse_in_section section parsed number line)
in_section Ahead parsed number line = in_prefix parsed.name line
in_section Open parsed number line = in_table parsed number line
in_section Behind parsed number line = refl

pub directive_kinds : (parsed : Parsed) (number : ℕ) (line : List ℕ) → errs_by is_table_kind (parse_line parsed number line) ≡ true
unfolding parse_line
directive_kinds parsed number line = either (is_too_long line) (Err kinds.LineTooLong) (parse_in_section parsed.section parsed number line) refl
    (in_section parsed.section parsed number line)

pub directive_kind : (parsed : Parsed) (number : ℕ) (line : List ℕ) (kind : Kind) → parse_line parsed number line ≡ Err kind → is_table_kind kind ≡ true
directive_kind parsed number line kind e = sym (ap (errs_by is_table_kind) e) ∙ directive_kinds parsed number line

kind_of : (r : Result Directive Kind) (kind : Kind) → errs_by is_table_kind r ≡ true → fault_in r ≡ Some kind → is_table_kind kind ≡ true
kind_of (Ok directive) kind h e = cc
kind_of (Err other) kind h e = let same : other ≡ kind = cc in ap is_table_kind (sym same) ∙ h

pub lines_break_by_kinds : TableLinesBreakByKinds
unfolding broken_table_rule
lines_break_by_kinds prefix line kind e =
    let parsed : Parsed = parsed_by (numbered_from 1 prefix) in
    kind_of (parse_line parsed (number_after prefix) line) kind (directive_kinds parsed (number_after prefix) line) e

-- ---- the end of a file

by_lack : (a b d : Bool) (kind : Kind) → cond a (Some kinds.NoRuleLine) (cond b (Some kinds.NoTable) (cond d None (Some kinds.BadDescriptor))) ≡ Some kind
    → is_table_kind kind ≡ true
by_lack true b d kind e = let same : kinds.NoRuleLine ≡ kind = cc in ap is_table_kind (sym same)
by_lack false true d kind e = let same : kinds.NoTable ≡ kind = cc in ap is_table_kind (sym same)
by_lack false false true kind e = cc
by_lack false false false kind e = let same : kinds.BadDescriptor ≡ kind = cc in ap is_table_kind (sym same)

pub lacking_kind : (parsed : Parsed) (kind : Kind) → missing_part_of parsed ≡ Some kind → is_table_kind kind ≡ true
lacking_kind parsed kind e = by_lack (is_none parsed.name) (is_ahead parsed.section) (is_described parsed) kind e

missing_kind : (lines : List (List ℕ)) (kind : Kind) → missing_table_part lines ≡ Some kind → is_table_kind kind ≡ true
unfolding missing_table_part
missing_kind lines kind e = lacking_kind (parsed_by (numbered_from 1 lines)) kind e

pub refusals_have_kinds : TableRefusalsHaveKinds
refusals_have_kinds lines fault r = elim (le_or_lt r.n (length lines)) [
  | inl within ↦ lines_break_by_kinds (take (r.n - 1) lines) (slice_index_or lines (r.n - 1) []) fault.kind (r.at_line within)
  | inr beyond ↦ missing_kind lines fault.kind (r.at_end beyond)
]

-- each of these kinds names a line
pub names_line : (kind : Kind) → is_table_kind kind ≡ true → is_placeless kind ≡ false
names_line = kinds_name_lines is_table_kind refl
