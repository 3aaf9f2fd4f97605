-- What a line that breaks no rule says, case by case.
use Rattle.std.proofs.Common.{◌≡◌, ℕ, List, [], ◌∷◌, ◌++◌, Bool, true, false, not, refl, ap, sym, ◌∙◌, ◌⊎◌, inl, inr, Option, Some, None, Result, Ok, Err, if◌then◌else◌, is_some}
use Rattle.std.proofs.lemmas.Bool.{cases_Bool}
use Rattle.life_base.specs.Text.{is_empty, is_too_long}
use Rattle.life_base.specs.declared.kind.Kind.{Kind}
use Rattle.life_base.specs.declared.kind.Kind.TheVariants.{LineTooLong, NoRuleLine, BadDescriptor, UnsupportedNeighborhood, UnsupportedSymmetry, BadVariable, BadTransition, UnboundOutput, NotQuiet}
use Rattle.life_table.specs.Valid.{neighbour_count, is_quiet}
use Rattle.life_table.specs.Reading.{parse_line, parse_in_section, parse_ahead, if_named, parse_in_table, parse_descriptor, if_states, if_neighborhood, if_symmetry, parse_rest, parse_settled, if_variable, if_transition, is_described, name_on, is_passed_over, is_table_line, is_section_line, line_content, is_descriptor, is_states_key, is_neighborhood_key, is_symmetry_key, key_of, setting_of, states_named, neighborhood_named, symmetry_named, agree, is_variable_line, variable_of, transition_of, is_bound}
use Rattle.life_table.specs.declared.directive.Parsed.{Parsed}
use Rattle.life_table.specs.declared.directive.Section.{Section}
use Rattle.life_table.specs.declared.directive.Section.TheVariants.{Ahead, Open, Behind}
use Rattle.life_table.specs.declared.directive.Directive.{Directive}
use Rattle.life_table.specs.declared.directive.Directive.TheVariants.{Nothing, RuleName, TableOpens, TableEnds, States, Neighbors, Orders, Variable, Line}
use Rattle.life_table.specs.declared.table.Neighborhood.{Neighborhood}
use Rattle.life_table.specs.declared.table.Symmetry.{Symmetry}
use Rattle.life_table.specs.declared.table.Var.{Var}
use Rattle.life_table.specs.declared.table.Transition.{Transition}

-- what a text of the table says
pub data Says (parsed : Parsed) (number : ℕ) (text : List ℕ) (directive : Directive) : Type 0 where
  states : is_descriptor text ≡ true → is_states_key (key_of text) ≡ true → parsed.n_states ≡ None
      → (n : ℕ) → states_named (setting_of text) ≡ Some n → directive ≡ States n → Says parsed number text directive
  neighbors : is_descriptor text ≡ true → is_states_key (key_of text) ≡ false → is_neighborhood_key (key_of text) ≡ true → parsed.neighborhood ≡ None
      → (h : Neighborhood) → neighborhood_named (setting_of text) ≡ Some h → agree (Some h) parsed.symmetry ≡ true → directive ≡ Neighbors h
      → Says parsed number text directive
  orders : is_descriptor text ≡ true → is_states_key (key_of text) ≡ false → is_neighborhood_key (key_of text) ≡ false → is_symmetry_key (key_of text) ≡ true
      → parsed.symmetry ≡ None → (y : Symmetry) → symmetry_named (setting_of text) ≡ Some y → agree parsed.neighborhood (Some y) ≡ true → directive ≡ Orders y
      → Says parsed number text directive
  variable : is_descriptor text ≡ false → (n : ℕ) → (h : Neighborhood) → (y : Symmetry) → parsed.n_states ≡ Some n → parsed.neighborhood ≡ Some h
      → parsed.symmetry ≡ Some y
      → is_variable_line text ≡ true → (var : Var) → variable_of n parsed.vars text ≡ Some var → directive ≡ Variable var → Says parsed number text directive
  transition : is_descriptor text ≡ false → (n : ℕ) → (h : Neighborhood) → (y : Symmetry) → parsed.n_states ≡ Some n → parsed.neighborhood ≡ Some h
      → parsed.symmetry ≡ Some y
      → is_variable_line text ≡ false → (t : Transition) → transition_of n (neighbour_count h) parsed.vars number text ≡ Some t
      → is_bound t.inputs t.output ≡ true → is_quiet parsed.vars (parsed.lines ++ t ∷ []) ≡ true → directive ≡ Line t → Says parsed number text directive

-- what a line says
pub data Case (parsed : Parsed) (number : ℕ) (line : List ℕ) (directive : Directive) : Type 0 where
  passed : parsed.section ≡ Ahead → parsed.name ≡ None → is_passed_over line ≡ true → directive ≡ Nothing → Case parsed number line directive
  named : parsed.section ≡ Ahead → parsed.name ≡ None → is_passed_over line ≡ false → (name : List ℕ) → name_on line ≡ Some name → directive ≡ RuleName name
      → Case parsed number line directive
  ahead : parsed.section ≡ Ahead → (name : List ℕ) → parsed.name ≡ Some name → is_table_line line ≡ false → directive ≡ Nothing
      → Case parsed number line directive
  opens : parsed.section ≡ Ahead → (name : List ℕ) → parsed.name ≡ Some name → is_table_line line ≡ true → directive ≡ TableOpens
      → Case parsed number line directive
  ends : parsed.section ≡ Open → is_section_line line ≡ true → is_described parsed ≡ true → directive ≡ TableEnds → Case parsed number line directive
  silent : parsed.section ≡ Open → is_section_line line ≡ false → is_empty (line_content line) ≡ true → directive ≡ Nothing → Case parsed number line directive
  says : parsed.section ≡ Open → is_section_line line ≡ false → is_empty (line_content line) ≡ false → Says parsed number (line_content line) directive
      → Case parsed number line directive
  behind : parsed.section ≡ Behind → directive ≡ Nothing → Case parsed number line directive

pub some_or_none : {X : Type 0} (o : Option X) → ((x : X) × (o ≡ Some x)) ⊎ (o ≡ None)
some_or_none None = inr refl
some_or_none (Some x) = inl (x, refl)

-- a test that was taken
pub then_part : {X : Type 0} (b : Bool) (x y r : X) → b ≡ true → (if b then x else y) ≡ r → x ≡ r
then_part true x y r e h = h
then_part false x y r e h = cc

pub else_part : {X : Type 0} (b : Bool) (x y r : X) → b ≡ false → (if b then x else y) ≡ r → y ≡ r
else_part true x y r e h = cc
else_part false x y r e h = h

-- an answer that is no fault
not_fault : (b : Bool) (kind : Kind) (x : Result Directive Kind) (directive : Directive) → (if b then x else Err kind) ≡ Ok directive → (b ≡ true)
    × (x ≡ Ok directive)
not_fault true kind x directive h = (refl, h)
not_fault false kind x directive h = cc

no_fault : (b : Bool) (kind : Kind) (x : Result Directive Kind) (directive : Directive) → (if b then Err kind else x) ≡ Ok directive → (b ≡ false)
    × (x ≡ Ok directive)
no_fault true kind x directive h = cc
no_fault false kind x directive h = (refl, h)

pub not_some : {X : Type 0} (o : Option X) → is_some o ≡ false → o ≡ None
not_some None h = refl
not_some (Some x) h = cc

module _ (parsed : Parsed) (number : ℕ) (text : List ℕ) (directive : Directive) where
  states_case : is_descriptor text ≡ true → is_states_key (key_of text) ≡ true
      → (if is_some parsed.n_states then Err BadDescriptor else if_states (states_named (setting_of text))) ≡ Ok directive → Says parsed number text directive
  states_case d k h =
      let a = no_fault (is_some parsed.n_states) BadDescriptor (if_states (states_named (setting_of text))) directive h in
      elim (some_or_none (states_named (setting_of text))) [
        | inl n ↦ states d k (not_some parsed.n_states a.0) n.0 n.1 (let e : Ok directive ≡ Ok (States n.0) = sym a.1 ∙ ap if_states n.1 in cc)
        | inr none ↦ absurd (let e : Ok directive ≡ Err BadDescriptor = sym a.1 ∙ ap if_states none in let z : ⊥ = cc in z)
      ]

  neighbors_case : is_descriptor text ≡ true → is_states_key (key_of text) ≡ false → is_neighborhood_key (key_of text) ≡ true
      → (if is_some parsed.neighborhood then Err BadDescriptor else if_neighborhood parsed.symmetry (neighborhood_named (setting_of text))) ≡ Ok directive
      → Says parsed number text directive
  neighbors_case d s k h =
      let a = no_fault (is_some parsed.neighborhood) BadDescriptor (if_neighborhood parsed.symmetry (neighborhood_named (setting_of text))) directive h in
      elim (some_or_none (neighborhood_named (setting_of text))) [
        | inl n ↦
            let e : if_neighborhood parsed.symmetry (Some n.0) ≡ Ok directive = ap (if_neighborhood parsed.symmetry) (sym n.1) ∙ a.1 in
            let f = not_fault (agree (Some n.0) parsed.symmetry) UnsupportedSymmetry (Ok (Neighbors n.0)) directive e in
            neighbors d s k (not_some parsed.neighborhood a.0) n.0 n.1 f.0 (let g : Ok (Neighbors n.0) ≡ Ok directive = f.1 in cc)
        | inr none ↦ absurd (let e : Ok directive ≡ Err UnsupportedNeighborhood = sym a.1 ∙ ap (if_neighborhood parsed.symmetry) none in let z : ⊥ = cc in z)
      ]

  orders_case : is_descriptor text ≡ true → is_states_key (key_of text) ≡ false → is_neighborhood_key (key_of text) ≡ false
      → is_symmetry_key (key_of text) ≡ true
      → (if is_some parsed.symmetry then Err BadDescriptor else if_symmetry parsed.neighborhood (symmetry_named (setting_of text))) ≡ Ok directive
      → Says parsed number text directive
  orders_case d s n k h =
      let a = no_fault (is_some parsed.symmetry) BadDescriptor (if_symmetry parsed.neighborhood (symmetry_named (setting_of text))) directive h in
      elim (some_or_none (symmetry_named (setting_of text))) [
        | inl y ↦
            let e : if_symmetry parsed.neighborhood (Some y.0) ≡ Ok directive = ap (if_symmetry parsed.neighborhood) (sym y.1) ∙ a.1 in
            let f = not_fault (agree parsed.neighborhood (Some y.0)) UnsupportedSymmetry (Ok (Orders y.0)) directive e in
            orders d s n k (not_some parsed.symmetry a.0) y.0 y.1 f.0 (let g : Ok (Orders y.0) ≡ Ok directive = f.1 in cc)
        | inr none ↦ absurd (let e : Ok directive ≡ Err UnsupportedSymmetry = sym a.1 ∙ ap (if_symmetry parsed.neighborhood) none in let z : ⊥ = cc in z)
      ]

  third_case : is_descriptor text ≡ true → is_states_key (key_of text) ≡ false → is_neighborhood_key (key_of text) ≡ false
      → (if is_symmetry_key (key_of text) then
      (if is_some parsed.symmetry then Err BadDescriptor else if_symmetry parsed.neighborhood (symmetry_named (setting_of text))) else Err BadDescriptor)
      ≡ Ok directive
      → Says parsed number text directive
  third_case d s n h =
      let a = not_fault (is_symmetry_key (key_of text)) BadDescriptor
      (if is_some parsed.symmetry then Err BadDescriptor else if_symmetry parsed.neighborhood (symmetry_named (setting_of text))) directive h in
      orders_case d s n a.0 a.1

  descriptor_case : is_descriptor text ≡ true → parse_descriptor parsed.n_states parsed.neighborhood parsed.symmetry text ≡ Ok directive
      → Says parsed number text directive
  unfolding parse_descriptor
  descriptor_case d h = elim (cases_Bool (is_states_key (key_of text))) [
    | inl yes_states ↦ states_case d yes_states (then_part (is_states_key (key_of text)) _ _ (Ok directive) yes_states h)
    | inr no_states ↦
        let g = else_part (is_states_key (key_of text)) _ _ (Ok directive) no_states h in
        elim (cases_Bool (is_neighborhood_key (key_of text))) [
          | inl yes_neighbors ↦ neighbors_case d no_states yes_neighbors (then_part (is_neighborhood_key (key_of text)) _ _ (Ok directive) yes_neighbors g)
          | inr no_neighbors ↦ third_case d no_states no_neighbors (else_part (is_neighborhood_key (key_of text)) _ _ (Ok directive) no_neighbors g)
        ]
  ]

  variable_case : is_descriptor text ≡ false → (n : ℕ) (h : Neighborhood) (y : Symmetry) → parsed.n_states ≡ Some n → parsed.neighborhood ≡ Some h
      → parsed.symmetry ≡ Some y
      → is_variable_line text ≡ true → if_variable (variable_of n parsed.vars text) ≡ Ok directive → Says parsed number text directive
  variable_case d n h y en eh ey v a = elim (some_or_none (variable_of n parsed.vars text)) [
    | inl var ↦ variable d n h y en eh ey v var.0 var.1 (let e : Ok directive ≡ Ok (Variable var.0) = sym a ∙ ap if_variable var.1 in cc)
    | inr none ↦ absurd (let e : Ok directive ≡ Err BadVariable = sym a ∙ ap if_variable none in let z : ⊥ = cc in z)
  ]

  transition_case : is_descriptor text ≡ false → (n : ℕ) (h : Neighborhood) (y : Symmetry) → parsed.n_states ≡ Some n → parsed.neighborhood ≡ Some h
      → parsed.symmetry ≡ Some y
      → is_variable_line text ≡ false → if_transition parsed.vars parsed.lines (transition_of n (neighbour_count h) parsed.vars number text) ≡ Ok directive
      → Says parsed number text directive
  transition_case d n h y en eh ey v a = elim (some_or_none (transition_of n (neighbour_count h) parsed.vars number text)) [
    | inl t ↦
        let e : if_transition parsed.vars parsed.lines (Some t.0) ≡ Ok directive = ap (if_transition parsed.vars parsed.lines) (sym t.1) ∙ a in
        let f = bound_and_quiet (is_bound t.0.inputs t.0.output) (is_quiet parsed.vars (parsed.lines ++ t.0 ∷ [])) t.0 e in
        transition d n h y en eh ey v t.0 t.1 f.0 f.1 f.2
    | inr none ↦ absurd (let e : Ok directive ≡ Err BadTransition = sym a ∙ ap (if_transition parsed.vars parsed.lines) none in let z : ⊥ = cc in z)
  ]
    where
      bound_and_quiet : (bound quiet : Bool) (t : Transition) → (if not bound then Err UnboundOutput else (if quiet then Ok (Line t) else Err NotQuiet))
          ≡ Ok directive
          → (bound ≡ true) × (quiet ≡ true) × (directive ≡ Line t)
      bound_and_quiet true true t e = (refl, refl, (let g : Ok (Line t) ≡ Ok directive = e in cc))
      bound_and_quiet true false t e = absurd (let z : ⊥ = cc in z)
      bound_and_quiet false quiet t e = absurd (let z : ⊥ = cc in z)

  settled_case : is_descriptor text ≡ false → (n : ℕ) (h : Neighborhood) (y : Symmetry) → parsed.n_states ≡ Some n → parsed.neighborhood ≡ Some h
      → parsed.symmetry ≡ Some y
      → parse_settled n h parsed.vars parsed.lines number text ≡ Ok directive → Says parsed number text directive
  settled_case d n h y en eh ey a = elim (cases_Bool (is_variable_line text)) [
    | inl does ↦ variable_case d n h y en eh ey does (then_part (is_variable_line text) _ _ (Ok directive) does a)
    | inr does_not ↦ transition_case d n h y en eh ey does_not (else_part (is_variable_line text) _ _ (Ok directive) does_not a)
  ]

  rest_case : is_descriptor text ≡ false → (on : Option ℕ) (oh : Option Neighborhood) (oy : Option Symmetry) → parsed.n_states ≡ on → parsed.neighborhood ≡ oh
      → parsed.symmetry ≡ oy
      → parse_rest on oh oy parsed.vars parsed.lines number text ≡ Ok directive → Says parsed number text directive
  rest_case d None oh oy en eh ey a = absurd (let z : ⊥ = cc in z)
  rest_case d (Some n) None oy en eh ey a = absurd (let z : ⊥ = cc in z)
  rest_case d (Some n) (Some h) None en eh ey a = absurd (let z : ⊥ = cc in z)
  rest_case d (Some n) (Some h) (Some y) en eh ey a = settled_case d n h y en eh ey a

  pub text_case : (if is_descriptor text then parse_descriptor parsed.n_states parsed.neighborhood parsed.symmetry text
      else parse_rest parsed.n_states parsed.neighborhood parsed.symmetry parsed.vars parsed.lines number text) ≡ Ok directive
      → Says parsed number text directive
  text_case a = elim (cases_Bool (is_descriptor text)) [
    | inl does ↦ descriptor_case does (then_part (is_descriptor text) _ _ (Ok directive) does a)
    | inr does_not ↦ rest_case does_not parsed.n_states parsed.neighborhood parsed.symmetry refl refl refl
        (else_part (is_descriptor text) _ _ (Ok directive) does_not a)
  ]

module _ (parsed : Parsed) (number : ℕ) (line : List ℕ) (directive : Directive) where
  start_case : parsed.section ≡ Ahead → parsed.name ≡ None → (if is_passed_over line then Ok Nothing else if_named (name_on line)) ≡ Ok directive
      → Case parsed number line directive
  start_case s e a = elim (cases_Bool (is_passed_over line)) [
    | inl does ↦ passed s e does (let g : Ok Nothing ≡ Ok directive = then_part (is_passed_over line) _ _ (Ok directive) does a in cc)
    | inr does_not ↦
        let g : if_named (name_on line) ≡ Ok directive = else_part (is_passed_over line) _ _ (Ok directive) does_not a in
        elim (some_or_none (name_on line)) [
          | inl name ↦ named s e does_not name.0 name.1 (let f : Ok directive ≡ Ok (RuleName name.0) = sym g ∙ ap if_named name.1 in cc)
          | inr none ↦ absurd (let f : Ok directive ≡ Err NoRuleLine = sym g ∙ ap if_named none in let z : ⊥ = cc in z)
        ]
  ]

  abbrev opening : Result Directive Kind
  opening = if is_table_line line then Ok TableOpens else Ok Nothing

  behind_rule_case : parsed.section ≡ Ahead → (name : List ℕ) → parsed.name ≡ Some name → opening ≡ Ok directive → Case parsed number line directive
  behind_rule_case s name e a = elim (cases_Bool (is_table_line line)) [
    | inl does ↦ opens s name e does (let g : Ok TableOpens ≡ Ok directive = then_part (is_table_line line) _ _ (Ok directive) does a in cc)
    | inr does_not ↦ ahead s name e does_not (let g : Ok Nothing ≡ Ok directive = else_part (is_table_line line) _ _ (Ok directive) does_not a in cc)
  ]

  ahead_case : (name : Option (List ℕ)) → parsed.section ≡ Ahead → parsed.name ≡ name → parse_ahead name line ≡ Ok directive → Case parsed number line directive
  ahead_case None s e a = start_case s e a
  ahead_case (Some name) s e a = behind_rule_case s name e a

  content_case : parsed.section ≡ Open → is_section_line line ≡ false
      → (if is_empty (line_content line) then Ok Nothing else
      (if is_descriptor (line_content line) then parse_descriptor parsed.n_states parsed.neighborhood parsed.symmetry (line_content line)
      else parse_rest parsed.n_states parsed.neighborhood parsed.symmetry parsed.vars parsed.lines number (line_content line))) ≡ Ok directive
      → Case parsed number line directive
  content_case s l a = elim (cases_Bool (is_empty (line_content line))) [
    | inl does ↦ silent s l does (let g : Ok Nothing ≡ Ok directive = then_part (is_empty (line_content line)) _ _ (Ok directive) does a in cc)
    | inr does_not ↦ says s l does_not (text_case parsed number (line_content line) directive
        (else_part (is_empty (line_content line)) _ _ (Ok directive) does_not a))
  ]

  table_case : parsed.section ≡ Open → parse_in_table parsed number line ≡ Ok directive → Case parsed number line directive
  table_case s a = elim (cases_Bool (is_section_line line)) [
    | inl does ↦
        let g = not_fault (is_described parsed) BadDescriptor (Ok TableEnds) directive (then_part (is_section_line line) _ _ (Ok directive) does a) in
        ends s does g.0 (let f : Ok TableEnds ≡ Ok directive = g.1 in cc)
    | inr does_not ↦ content_case s does_not (else_part (is_section_line line) _ _ (Ok directive) does_not a)
  ]

  section_case : (section : Section) → parsed.section ≡ section → parse_in_section section parsed number line ≡ Ok directive → Case parsed number line directive
  section_case Ahead s a = ahead_case parsed.name s refl a
  section_case Open s a = table_case s a
  section_case Behind s a = behind s (let g : Ok Nothing ≡ Ok directive = a in cc)

  -- a line that breaks no rule is of one of these cases
  pub line_case : parse_line parsed number line ≡ Ok directive → Case parsed number line directive
  unfolding parse_line
  line_case a =
      let g = no_fault (is_too_long line) LineTooLong (parse_in_section parsed.section parsed number line) directive a in
      section_case parsed.section refl g.1
