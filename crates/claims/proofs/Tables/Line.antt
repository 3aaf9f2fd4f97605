-- What a line says is what it says in the layer.
use Rattle.std.proofs.Common.{◌≡◌, ℕ, suc, ◌-◌, ◌^◌, min, List, [], ◌∷◌, map, length, take, drop, Bool, true, false, cond, not, ◌&&◌, ◌||◌, refl, ap, ◌∙◌, sym, subst, arith, inl, inr, Option, Some, None, Result, Ok, Err, codes, is_some, nat_lt, option_map}
use Rattle.std.specs.List.{list_any}
use Rattle.std.proofs.lemmas.Bool.Decides.{nat_tests}
use Rattle.std.proofs.lemmas.Bool.{cases_Bool}
use Rattle.life_base.specs.Numbers.{result_map}
use Rattle.life_base.specs.Text.{is_empty, is_blank, is_whitespace, is_too_long, begins_with}
use Rattle.life_base.specs.Rules.{rule_of as layer_rule_of}
use Rattle.life_base.specs.declared.kind.Kind.{Kind}
use Rattle.life_base.specs.declared.kind.Kind.TheVariants as kinds
use Rattle.life_base.specs.declared.rule.Rule.{Rule as LayerRule}
use Rattle.life_base.specs.declared.rule.Rule.TheVariants.{Life, Named}
use Rattle.life_table.specs.Grammar.{symmetry_word}
use Rattle.life_table.specs.Reader.{parsed_after, IsGood}
use Rattle.life_table.specs.Reading.{parse_line, parse_in_section, parse_in_table, parse_ahead, parse_rest, parse_settled, parse_descriptor, if_named, if_variable, if_transition, name_on, name_in, begins_rule_line, is_passed_over, is_described, is_descriptor, is_variable_line, line_content, variable_of, transition_of, key_of, setting_of}
use Rattle.life_table.specs.Valid.{neighbour_count}
use Rattle.life_table.specs.declared.table.Neighborhood.{Neighborhood}
use Rattle.life_table.specs.declared.table.Symmetry.{Symmetry}
use Rattle.life_table.specs.declared.table.Var.{Var}
use Rattle.life_table.specs.declared.table.Transition.{Transition as LayerTransition}
use Rattle.claims.specs.Outcomes.{◌>>=◌}
use Rattle.claims.specs.Macrocell.{is_claimed_command}
use Rattle.claims.specs.Rules.{claimed_rule_of}
use Rattle.claims.specs.Table.{Variable, Table, Section, ahead, named_rule, in_table, after_table, is_complete, with_descriptor, with_variable, with_transition, with_text, with_rule_line, new_table, with_table_line}
use Rattle.claims.proofs.RuleLaw.{rule_in, rule_of_is}
use Rattle.claims.specs.Tables.{transition_in, AreVariables}
use Rattle.claims.proofs.Tables.Named.{Parsed, Place, Directive, before_table, in_the_table, behind_table}
use Rattle.claims.proofs.Tables.Text.{table_in, Fits, goes, stops, FitsAfter, moved, descriptor_fits}
use Rattle.claims.proofs.Tables.Written.{variable_fits}
use Rattle.claims.proofs.Tables.Transitions.{transition_fits}

-- ---- how far lines go, in both

-- nothing was said of a table
pub record IsNew (parsed : Parsed) : Type 0 where
  pub n_states : parsed.n_states ≡ None
  pub neighborhood : parsed.neighborhood ≡ None
  pub symmetry : parsed.symmetry ≡ None
  pub vars : parsed.vars ≡ []
  pub lines : parsed.lines ≡ []

pub data Stands (parsed : Parsed) : Section → Type 0 where
  is_ahead : IsNew parsed → parsed.name ≡ None → parsed.section ≡ before_table → Stands parsed ahead
  is_named : (name : List ℕ) → IsNew parsed → parsed.name ≡ Some name → parsed.section ≡ before_table → Stands parsed (named_rule name)
  is_open : (name : List ℕ) (variables : List Variable) → parsed.name ≡ Some name → parsed.section ≡ in_the_table → AreVariables parsed.vars variables
      → Stands parsed (in_table (table_in parsed name variables))
  is_behind : (name : List ℕ) (variables : List Variable) → parsed.name ≡ Some name → parsed.section ≡ behind_table → is_described parsed ≡ true
      → AreVariables parsed.vars variables → Stands parsed (after_table (table_in parsed name variables))

-- both go on, or have the same fault
pub data Steps : Result Parsed Kind → Result Section Kind → Type 0 where
  steps : (reported : Parsed) (next : Section) → Stands reported next → Steps (Ok reported) (Ok next)
  halts : (kind : Kind) → Steps (Err kind) (Err kind)

abbrev StepsAfter : Parsed → Result Directive Kind → Result Section Kind → Type 0
StepsAfter parsed r x = Steps (result_map (parsed_after parsed) r) x

put : (parsed : Parsed) (a b : Result Directive Kind) (x y : Result Section Kind) → a ≡ b → x ≡ y → StepsAfter parsed b y → StepsAfter parsed a x
put parsed a b x y e f h = subst (λ o. StepsAfter parsed o x) (sym e) (subst (λ r. StepsAfter parsed b r) (sym f) h)

-- ---- before the table

command_rule : (prefix : Bool) (text : List ℕ) (name : List ℕ) → layer_rule_of text ≡ Ok (Named name)
    → (prefix && is_blank (take 1 text)) ≡ (prefix && list_any is_whitespace (take 1 text))
unfolding layer_rule_of
command_rule prefix [] name e = cc
command_rule true (b ∷ text) name e = by (is_whitespace b)
  where
    by : (v : Bool) → (v && true) ≡ (v || false)
    by true = refl
    by false = refl
command_rule false (b ∷ text) name e = refl

module _ (parsed : Parsed) (new : IsNew parsed) (at : parsed.section ≡ before_table) where
  rule_fits : (line : List ℕ) (found : Result LayerRule Kind) → layer_rule_of (drop 5 line) ≡ found
      → StepsAfter parsed (if_named (cond (begins_rule_line line) (name_in found) None)) (with_rule_line line (result_map rule_in found))
  rule_fits line (Ok (Named name)) e =
      let same : is_claimed_command (codes "@RULE") line ≡ begins_rule_line line = command_rule (begins_with line (codes "@RULE")) (drop 5 line) name e in
      elim (cases_Bool (begins_rule_line line)) [
        | inl b ↦ (let c : is_claimed_command (codes "@RULE") line ≡ true = same ∙ b in rw (c, b)
            (steps _ _ (is_named name
            (record { n_states = new.n_states; neighborhood = new.neighborhood; symmetry = new.symmetry; vars = new.vars; lines = new.lines }) refl at)))
        | inr b ↦ (let c : is_claimed_command (codes "@RULE") line ≡ false = same ∙ b in rw (c, b) (halts kinds.NoRuleLine))
      ]
  rule_fits line (Ok (Life rule)) e = by (begins_rule_line line)
    where
      by : (v : Bool) → StepsAfter parsed (if_named (cond v None None)) (Err kinds.NoRuleLine)
      by true = halts kinds.NoRuleLine
      by false = halts kinds.NoRuleLine
  rule_fits line (Err kind) e = by (begins_rule_line line)
    where
      by : (v : Bool) → StepsAfter parsed (if_named (cond v None None)) (Err kinds.NoRuleLine)
      by true = halts kinds.NoRuleLine
      by false = halts kinds.NoRuleLine

  ahead_fits : parsed.name ≡ None → (line : List ℕ)
      → StepsAfter parsed (parse_ahead None line) (cond (is_passed_over line) (Ok ahead) (with_rule_line line (claimed_rule_of (drop 5 line))))
  ahead_fits e line = elim (cases_Bool (is_passed_over line)) [
    | inl p ↦ rw p (steps _ _ (is_ahead new e at))
    | inr p ↦ put parsed _ (if_named (name_on line)) _ (with_rule_line line (result_map rule_in (layer_rule_of (drop 5 line))))
        (let k : parse_ahead None line ≡ if_named (name_on line) = rw p refl in k)
        (ap (λ v. cond v (Ok ahead) (with_rule_line line (claimed_rule_of (drop 5 line)))) p ∙ ap (with_rule_line line) (rule_of_is (drop 5 line)))
        (rule_fits line (layer_rule_of (drop 5 line)) refl)
  ]

  opened : (name : List ℕ) → parsed.name ≡ Some name → Stands (record parsed { section = in_the_table }) (in_table (new_table name))
  opened name e =
      let reported : Parsed = record parsed { section = in_the_table } in
      let is : table_in reported name [] ≡ new_table name =
      ap (λ (o : Option ℕ). record (table_in reported name []) { n_states = o }) new.n_states
      ∙ ap (λ (o : Option Neighborhood). record
      (new_table name) {
        neighbours = option_map neighbour_count o;
        symmetry = option_map symmetry_word parsed.symmetry;
        transitions =
            map transition_in parsed.lines;
      }) new.neighborhood
      ∙ ap (λ (o : Option Symmetry). record
      (new_table name) { symmetry = option_map symmetry_word o; transitions = map transition_in parsed.lines }) new.symmetry
      ∙ ap (λ (ts : List LayerTransition). record (new_table name) { transitions = map transition_in ts }) new.lines in
      subst (λ (t : Table). Stands reported (in_table t)) is
      (is_open name [] e refl (subst (λ (vs : List Var). AreVariables vs []) (sym new.vars) (record { names = refl; states = λ i s. refl })))

  named_fits : (name : List ℕ) → parsed.name ≡ Some name → (line : List ℕ)
      → StepsAfter parsed (parse_ahead (Some name) line)
      (cond (is_claimed_command (codes "@TABLE") line) (Ok (in_table (new_table name))) (Ok (named_rule name)))
  named_fits name e line = elim (cases_Bool (is_claimed_command (codes "@TABLE") line)) [
    | inl p ↦ rw p (steps _ _ (opened name e))
    | inr p ↦ rw p (steps _ _ (is_named name new e at))
  ]

-- ---- in the table

and_false : (v w : Bool) → (v && w && false) ≡ (v && false)
and_false true true = refl
and_false true false = refl
and_false false w = refl

variable_line : (text : List ℕ) → (is_claimed_command (codes "var") text && nat_lt 3 (length text)) ≡ is_variable_line text
variable_line [] = refl
variable_line (a ∷ []) = and_false _ true
variable_line (a ∷ b ∷ []) = and_false _ true
variable_line (a ∷ b ∷ c ∷ []) = and_false _ true
variable_line (a ∷ b ∷ c ∷ d ∷ text) = by (begins_with (a ∷ b ∷ c ∷ d ∷ text) (codes "var")) (is_whitespace d) _ (longer (length text))
  where
    longer : (n : ℕ) → nat_lt 3 (suc (suc (suc (suc n)))) ≡ true
    longer n = grind (arith, nat_tests)

    by : (u w l : Bool) → l ≡ true → ((u && (w && true)) && l) ≡ (u && (w || false))
    by true true l e = e
    by true false l e = refl
    by false w l e = refl

pub complete_is : (name : List ℕ) (variables : List Variable) (parsed : Parsed) → is_complete (table_in parsed name variables) ≡ is_described parsed
complete_is name variables parsed = by parsed.n_states parsed.neighborhood parsed.symmetry
  where
    by : (on : Option ℕ) (oh : Option Neighborhood) (oy : Option Symmetry)
        → (is_some on && is_some (option_map neighbour_count oh) && is_some (option_map symmetry_word oy)) ≡ (is_some on && is_some oh && is_some oy)
    by on None None = refl
    by on None (Some y) = refl
    by on (Some h) None = refl
    by on (Some h) (Some y) = refl

-- the three descriptors, where each was given
record AreGiven (on : Option ℕ) (oh : Option Neighborhood) (oy : Option Symmetry) : Type 0 where
  pub n : ℕ
  pub h : Neighborhood
  pub y : Symmetry
  pub is_n : on ≡ Some n
  pub is_h : oh ≡ Some h
  pub is_y : oy ≡ Some y

given_all : (on : Option ℕ) (oh : Option Neighborhood) (oy : Option Symmetry) → (is_some on && is_some oh && is_some oy) ≡ true → AreGiven on oh oy
given_all (Some n) (Some h) (Some y) e = record { n = n; h = h; y = y; is_n = refl; is_h = refl; is_y = refl }
given_all (Some n) (Some h) None e = cc
given_all (Some n) None oy e = cc
given_all None oh oy e = cc

none_rest : (on : Option ℕ) (oh : Option Neighborhood) (oy : Option Symmetry) (vars : List Var) (lines : List LayerTransition) (number : ℕ) (text : List ℕ)
    → (is_some on && is_some oh && is_some oy) ≡ false → parse_rest on oh oy vars lines number text ≡ Err kinds.BadDescriptor
none_rest (Some n) (Some h) (Some y) vars lines number text e = cc
none_rest (Some n) (Some h) None vars lines number text e = refl
none_rest (Some n) None None vars lines number text e = refl
none_rest (Some n) None (Some y) vars lines number text e = refl
none_rest None None None vars lines number text e = refl
none_rest None None (Some y) vars lines number text e = refl
none_rest None (Some h) None vars lines number text e = refl
none_rest None (Some h) (Some y) vars lines number text e = refl

module _ (parsed : Parsed) (name : List ℕ) (variables : List Variable) (same : AreVariables parsed.vars variables) (good : IsGood parsed)
    (is : parsed.name ≡ Some name) (at : parsed.section ≡ in_the_table) where
  abbrev table : Table
  table = table_in parsed name variables

  abbrev reported : ℕ → ℕ
  reported number = min number (2 ^ 64 - 1)

  lifted : (r : Result Parsed Kind) (x : Result Table Kind) → Fits parsed name r x → Steps r (x >>= λ next. Ok (in_table next))
  lifted r x (goes next t vs s m v e) = steps next (in_table t) (subst (λ (u : Table). Stands next (in_table u)) (sym e) (is_open name vs (m ∙ is) (s ∙ at) v))
  lifted r x (stops kind) = halts kind

  abbrev rest : ℕ → List ℕ → Result Directive Kind
  rest number text = parse_rest parsed.n_states parsed.neighborhood parsed.symmetry parsed.vars parsed.lines (reported number) text

  settled : (number : ℕ) (text : List ℕ) (n : ℕ) → parsed.n_states ≡ Some n → (h : Neighborhood) → parsed.neighborhood ≡ Some h
      → FitsAfter parsed name (parse_settled n h parsed.vars parsed.lines (reported number) text)
      (cond (is_claimed_command (codes "var") text && nat_lt 3 (length text)) (with_variable table (drop 3 text)) (with_transition table number text))
  settled number text n en h eh =
      let same_line : (is_claimed_command (codes "var") text && nat_lt 3 (length text)) ≡ is_variable_line text = variable_line text in
      elim (cases_Bool (is_variable_line text)) [
        | inl v ↦ moved parsed name _ (if_variable (variable_of n parsed.vars text)) _ (with_variable table (drop 3 text))
            (ap (λ b. cond b (if_variable (variable_of n parsed.vars text))
            (if_transition parsed.vars parsed.lines (transition_of n (neighbour_count h) parsed.vars (reported number) text))) v)
            (ap (λ b. cond b (with_variable table (drop 3 text)) (with_transition table number text)) (same_line ∙ v))
            (variable_fits parsed name variables same good n en text)
        | inr v ↦ moved parsed name _ (if_transition parsed.vars parsed.lines (transition_of n (neighbour_count h) parsed.vars (reported number) text)) _
            (with_transition table number text)
            (ap (λ b. cond b (if_variable (variable_of n parsed.vars text))
            (if_transition parsed.vars parsed.lines (transition_of n (neighbour_count h) parsed.vars (reported number) text))) v)
            (ap (λ b. cond b (with_variable table (drop 3 text)) (with_transition table number text)) (same_line ∙ v))
            (transition_fits parsed name variables same good n en h eh number text)
      ]

  abbrev undescribed : ℕ → List ℕ → Result Table Kind
  undescribed number text =
      cond (not (is_complete table)) (Err kinds.BadDescriptor)
      (cond (is_claimed_command (codes "var") text && nat_lt 3 (length text)) (with_variable table (drop 3 text)) (with_transition table number text))

  rest_fits : (number : ℕ) (text : List ℕ) → FitsAfter parsed name (rest number text) (undescribed number text)
  rest_fits number text = elim (cases_Bool (is_described parsed)) [
    | inl d ↦
        let g = given_all parsed.n_states parsed.neighborhood parsed.symmetry d in
        moved parsed name _ (parse_settled g.n g.h parsed.vars parsed.lines (reported number) text) _
        (cond (is_claimed_command (codes "var") text && nat_lt 3 (length text)) (with_variable table (drop 3 text)) (with_transition table number text))
        (ap (λ (o : Option ℕ). parse_rest o parsed.neighborhood parsed.symmetry parsed.vars parsed.lines (reported number) text) g.is_n
        ∙ ap (λ (o : Option Neighborhood). parse_rest (Some g.n) o parsed.symmetry parsed.vars parsed.lines (reported number) text) g.is_h
        ∙ ap (λ (o : Option Symmetry). parse_rest (Some g.n) (Some g.h) o parsed.vars parsed.lines (reported number) text) g.is_y)
        (ap (λ v. cond (not v) (Err kinds.BadDescriptor)
        (cond (is_claimed_command (codes "var") text && nat_lt 3 (length text)) (with_variable table (drop 3 text)) (with_transition table number text)))
        (complete_is name variables parsed ∙ d))
        (settled number text g.n g.is_n g.h g.is_h)
    | inr d ↦
        moved parsed name _ (Err kinds.BadDescriptor) _ (Err kinds.BadDescriptor)
        (none_rest parsed.n_states parsed.neighborhood parsed.symmetry parsed.vars parsed.lines (reported number) text d)
        (ap (λ v. cond (not v) (Err kinds.BadDescriptor)
        (cond (is_claimed_command (codes "var") text && nat_lt 3 (length text)) (with_variable table (drop 3 text)) (with_transition table number text)))
        (complete_is name variables parsed ∙ d))
        (stops kinds.BadDescriptor)
  ]

  described_fits : (number : ℕ) (text : List ℕ)
      → FitsAfter parsed name (cond (is_descriptor text) (parse_descriptor parsed.n_states parsed.neighborhood parsed.symmetry text) (rest number text))
      (cond (is_descriptor text) (with_descriptor table (key_of text) (setting_of text)) (undescribed number text))
  described_fits number text = by (is_descriptor text)
    where
      by : (v : Bool) → FitsAfter parsed name (cond v (parse_descriptor parsed.n_states parsed.neighborhood parsed.symmetry text) (rest number text))
          (cond v (with_descriptor table (key_of text) (setting_of text)) (undescribed number text))
      by true = descriptor_fits parsed name variables same text
      by false = rest_fits number text

  open_fits : (number : ℕ) (line : List ℕ)
      → StepsAfter parsed (parse_in_table parsed (reported number) line)
      (cond (begins_with line (codes "@")) (cond (is_complete table) (Ok (after_table table)) (Err kinds.BadDescriptor))
      (with_text table number (line_content line) >>= λ next. Ok (in_table next)))
  open_fits number line = elim (cases_Bool (begins_with line (codes "@"))) [
    | inl s ↦ elim (cases_Bool (is_described parsed)) [
      | inl d ↦ (let c : is_complete table ≡ true = complete_is name variables parsed ∙ d in rw (s, c, d) (steps _ _ (is_behind name variables is refl d same)))
      | inr d ↦ (let c : is_complete table ≡ false = complete_is name variables parsed ∙ d in rw (s, c, d) (halts kinds.BadDescriptor))
    ]
    | inr s ↦ elim (cases_Bool (is_empty (line_content line))) [
      | inl e ↦ rw (s, e) (steps _ _ (is_open name variables is at same))
      | inr e ↦
          let text = line_content line in
          put parsed _ (cond (is_descriptor text) (parse_descriptor parsed.n_states parsed.neighborhood parsed.symmetry text) (rest number text)) _
          (cond (is_descriptor text) (with_descriptor table (key_of text) (setting_of text)) (undescribed number text) >>= λ next. Ok (in_table next))
          (let k : parse_in_table parsed (reported number) line
          ≡ cond (is_descriptor text) (parse_descriptor parsed.n_states parsed.neighborhood parsed.symmetry text) (rest number text) = rw (s, e) refl in k)
          (ap (λ v. cond v (cond (is_complete table) (Ok (after_table table)) (Err kinds.BadDescriptor))
          (with_text table number text >>= λ next. Ok (in_table next))) s
          ∙ ap (λ v. cond v (Ok table) (cond (is_descriptor text) (with_descriptor table (key_of text) (setting_of text)) (undescribed number text)) >>=
          λ next. Ok (in_table next)) e)
          (lifted _ _ (described_fits number text))
    ]
  ]

-- ---- a line

pub section_fits : (parsed : Parsed) (section : Section) → Stands parsed section → IsGood parsed → (number : ℕ) (line : List ℕ)
    → StepsAfter parsed (parse_line parsed (min number (2 ^ 64 - 1)) line) (with_table_line section number line)
unfolding parse_line with_table_line
section_fits parsed section (is_ahead new e at) good number line = elim (cases_Bool (is_too_long line)) [
  | inl l ↦ rw l (halts kinds.LineTooLong)
  | inr l ↦ put parsed _ _ _ _
      (ap (λ v. cond v (Err kinds.LineTooLong) (parse_in_section parsed.section parsed (min number (2 ^ 64 - 1)) line)) l
      ∙ ap (λ (s : Place). parse_in_section s parsed (min number (2 ^ 64 - 1)) line) at ∙ ap (λ (o : Option (List ℕ)). parse_ahead o line) e)
      (ap (λ v. cond v (Err kinds.LineTooLong) (cond (is_passed_over line) (Ok ahead) (with_rule_line line (claimed_rule_of (drop 5 line))))) l)
      (ahead_fits parsed new at e line)
]
section_fits parsed section (is_named name new e at) good number line = elim (cases_Bool (is_too_long line)) [
  | inl l ↦ rw l (halts kinds.LineTooLong)
  | inr l ↦ put parsed _ _ _ _
      (ap (λ v. cond v (Err kinds.LineTooLong) (parse_in_section parsed.section parsed (min number (2 ^ 64 - 1)) line)) l
      ∙ ap (λ (s : Place). parse_in_section s parsed (min number (2 ^ 64 - 1)) line) at ∙ ap (λ (o : Option (List ℕ)). parse_ahead o line) e)
      (ap (λ v. cond v (Err kinds.LineTooLong) (cond (is_claimed_command (codes "@TABLE") line) (Ok (in_table (new_table name))) (Ok (named_rule name)))) l)
      (named_fits parsed new at name e line)
]
section_fits parsed section (is_open name variables e at same) good number line = elim (cases_Bool (is_too_long line)) [
  | inl l ↦ rw l (halts kinds.LineTooLong)
  | inr l ↦ put parsed _ (parse_in_table parsed (min number (2 ^ 64 - 1)) line) _
      (cond (begins_with line (codes "@"))
      (cond (is_complete (table_in parsed name variables)) (Ok (after_table (table_in parsed name variables))) (Err kinds.BadDescriptor))
      (with_text (table_in parsed name variables) number (line_content line) >>= λ next. Ok (in_table next)))
      (ap (λ v. cond v (Err kinds.LineTooLong) (parse_in_section parsed.section parsed (min number (2 ^ 64 - 1)) line)) l
      ∙ ap (λ (s : Place). parse_in_section s parsed (min number (2 ^ 64 - 1)) line) at)
      (ap (λ v. cond v (Err kinds.LineTooLong)
      (cond (begins_with line (codes "@"))
      (cond (is_complete (table_in parsed name variables)) (Ok (after_table (table_in parsed name variables))) (Err kinds.BadDescriptor))
      (with_text (table_in parsed name variables) number (line_content line) >>= λ next. Ok (in_table next)))) l)
      (open_fits parsed name variables same good e at number line)
]
section_fits parsed section (is_behind name variables e at d same) good number line = elim (cases_Bool (is_too_long line)) [
  | inl l ↦ rw l (halts kinds.LineTooLong)
  | inr l ↦ put parsed _ (parse_in_section behind_table parsed (min number (2 ^ 64 - 1)) line) _ (Ok (after_table (table_in parsed name variables)))
      (ap (λ v. cond v (Err kinds.LineTooLong) (parse_in_section parsed.section parsed (min number (2 ^ 64 - 1)) line)) l
      ∙ ap (λ (s : Place). parse_in_section s parsed (min number (2 ^ 64 - 1)) line) at)
      (ap (λ v. cond v (Err kinds.LineTooLong) (Ok (after_table (table_in parsed name variables)))) l)
      (steps _ _ (is_behind name variables e at d same))
]
