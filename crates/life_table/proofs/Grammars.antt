-- What each line of a file is, and that no line breaks a rule, are the same.
use Rattle.std.proofs.Common.{◌≡◌, ◌⊎◌, inl, inr, ℕ, ◌+◌, ◌-◌, ◌^◌, ◌≤◌, min, List, [], ◌∷◌, ◌++◌, length, take, get_or, Bool, true, false, cond, refl, sym, ap, subst, ◌∙◌, arith, append_assoc, length-append, ◌&&◌, Option, Some, None, Result, Ok, Err, if◌then◌else◌, is_some, is_none, not, codes, ◌≢◌, bytes_eq, ltb-false, append-nil}
use Rattle.std.proofs.lemmas.Bool.{or_cases}
use Rattle.std.proofs.lemmas.Slice.Eq.{bytes_eq-Decides}
use Rattle.std.proofs.Math.Seq.{take-append_seam, get_or-append_seam}
use Rattle.life_base.specs.Text.{is_empty, is_too_long, numbered_from}
use Rattle.life_base.specs.declared.kind.Kind.{Kind}
use Rattle.life_base.specs.declared.kind.Kind.TheVariants.{LineTooLong, NoRuleLine, NoTable, BadDescriptor, UnsupportedSymmetry, UnboundOutput, NotQuiet}
use Rattle.life_base.proofs.Refusals.{UnbrokenBelow}
use Rattle.life_base.proofs.Texts.{empty_is, not_too_long}
use Rattle.life_table.specs.Grammar.{IsPlainTable, TableGrammarsAgree, Lead, LineSays, TextSays, AreGiven, states, neighborhood, symmetry, variable, transition, passed, rule_line, other, table_line, blank, says, section_line, behind}
use Rattle.life_table.specs.Reading.{AreTable, IsTableFile, Describes, broken_table_rule, missing_table_part, missing_part_of, is_ahead, is_described, parsed_by, number_after, parse_line, parse_in_section, parse_ahead, parse_descriptor, parse_rest, parse_settled, if_named, if_states, if_neighborhood, if_symmetry, if_variable, if_transition, name_on, is_passed_over, is_table_line, is_section_line, is_descriptor, line_content, key_of, setting_of, is_states_key, is_neighborhood_key, is_symmetry_key, states_named, neighborhood_named, symmetry_named, agree, is_variable_line, variable_of, transition_of, is_bound}
use Rattle.life_table.specs.Valid.{neighbour_count, is_quiet}
use Rattle.life_table.specs.declared.directive.Parsed.{Parsed}
use Rattle.life_table.specs.declared.directive.Section.{Section}
use Rattle.life_table.specs.declared.directive.Section.TheVariants.{Ahead, Open, Behind}
use Rattle.life_table.specs.declared.directive.Directive.{Directive}
use Rattle.life_table.specs.declared.directive.Directive.TheVariants.{Nothing, TableOpens, TableEnds, Neighbors, Orders, Line}
use Rattle.life_table.specs.declared.table.Neighborhood.{Neighborhood}
use Rattle.life_table.specs.declared.table.Symmetry.{Symmetry}
use Rattle.life_table.specs.declared.table.Table.{Table}
use Rattle.life_table.proofs.ByLines.{Reach, reach_none, reach_more, unbroken_directive, missing_is}
use Rattle.life_table.proofs.Cases as cases
use Rattle.life_table.proofs.LineForms.{take_then, take_else, states_are, states_parsed, neighborhood_is, neighborhood_parsed, symmetry_is, symmetry_parsed, variable_is, variable_parsed, transition_is, transition_parsed}
use Rattle.life_table.proofs.FileLines.{parsed_start}

-- ---- small facts

is_something : (text : List ℕ) → is_empty text ≡ false → text ≢ []
is_something text h e = let z : is_empty text ≡ true = ap is_empty e in cc

not_nothing : (text : List ℕ) → text ≢ [] → is_empty text ≡ false
not_nothing [] h = absurd (h refl)
not_nothing (b ∷ text) h = refl

all_given : (parsed : Parsed) (on : Option ℕ) (oh : Option Neighborhood) (oy : Option Symmetry) → parsed.n_states ≡ on → parsed.neighborhood ≡ oh
    → parsed.symmetry ≡ oy
    → (is_some on && is_some oh && is_some oy) ≡ true → (n : ℕ) × (h : Neighborhood) × (y : Symmetry) × AreGiven parsed n h y
all_given parsed (Some n) (Some h) (Some y) p q r e = (n, h, y, record { states = p; neighbours = q; orders = r })
all_given parsed (Some n) (Some h) None p q r e = absurd (let z : ⊥ = cc in z)
all_given parsed (Some n) None oy p q r e = absurd (let z : ⊥ = cc in z)
all_given parsed None oh oy p q r e = absurd (let z : ⊥ = cc in z)

is_given : (parsed : Parsed) (n : ℕ) (h : Neighborhood) (y : Symmetry) → AreGiven parsed n h y → is_described parsed ≡ true
is_given parsed n h y g =
    ap (λ (o : Option ℕ). is_some o && is_some parsed.neighborhood && is_some parsed.symmetry) g.states
    ∙ ap (λ (o : Option Neighborhood). true && is_some o && is_some parsed.symmetry) g.neighbours
    ∙ ap (λ (o : Option Symmetry). true && true && is_some o) g.orders

-- ---- what a line is, from what its tests tell

module _ (parsed : Parsed) (number : ℕ) (text : List ℕ) (directive : Directive) where
  text_is : cases.Says parsed number text directive → TextSays parsed number text directive
  text_is (cases.states d k o n e t) =
      let w = states_parsed (setting_of text) n e in
      states n (record {
        digits = setting_of text;
        is = record { colon = d; before = (bytes_eq-Decides (key_of text) (codes "n_states")).0 k; behind = refl };
        number = w.0;
        value = w.1;
        least = w.2;
        most = w.3;
      }) o t
  text_is (cases.neighbors d s k o h e a t) =
      let spelled : (key_of text ≡ codes "neighborhood") ⊎ (key_of text ≡ codes "neighbourhood") =
      elim (or_cases (bytes_eq (key_of text) (codes "neighborhood")) (bytes_eq (key_of text) (codes "neighbourhood")) k) [
        | inl f ↦ inl ((bytes_eq-Decides (key_of text) (codes "neighborhood")).0 f)
        | inr f ↦ inr ((bytes_eq-Decides (key_of text) (codes "neighbourhood")).0 f)
      ] in
      neighborhood h (record {
        key = key_of text;
        spelled = spelled;
        is = record { colon = d; before = refl; behind = neighborhood_parsed (setting_of text) h e };
      }) o a t
  text_is (cases.orders d s n k o y e a t) =
      symmetry y (record { colon = d; before = (bytes_eq-Decides (key_of text) (codes "symmetries")).0 k; behind = symmetry_parsed (setting_of text) y e }) o a
      t
  text_is (cases.variable d n h y p q r v var e t) = variable n h y var (record { states = p; neighbours = q; orders = r })
      (variable_parsed n parsed.vars text var d v e) t
  text_is (cases.transition d n h y p q r v line e b quiet t) =
      transition n h y line (record { states = p; neighbours = q; orders = r }) (transition_parsed n (neighbour_count h) parsed.vars number text line d v e b)
      quiet t

module _ (parsed : Parsed) (number : ℕ) (line : List ℕ) (directive : Directive) where
  line_is : cases.Case parsed number line directive → LineSays parsed number line directive
  line_is (cases.passed s o p t) = passed s o p t
  line_is (cases.named s o p name e t) = rule_line name s o p e t
  line_is (cases.ahead s name o e t) = other name s o e t
  line_is (cases.opens s name o e t) = table_line name s o e t
  line_is (cases.ends s e d t) = let g = all_given parsed parsed.n_states parsed.neighborhood parsed.symmetry refl refl refl d in
      section_line g.0 g.1 g.2 s e g.3 t
  line_is (cases.silent s e c t) = blank s e (empty_is (line_content line) c) t
  line_is (cases.says s e c f) = says s e (is_something (line_content line) c) (text_is parsed number (line_content line) directive f)
  line_is (cases.behind s t) = behind s t

-- ---- what a line's tests tell, from what it is

-- either spelling of the key is no other key
spelled_key : (key own : List ℕ) → (key ≡ codes "neighborhood") ⊎ (key ≡ codes "neighbourhood") → own ≡ key → (is_states_key own ≡ false)
    × (is_neighborhood_key own ≡ true)
spelled_key key own (inl e) f = (ap is_states_key (f ∙ e), ap is_neighborhood_key (f ∙ e))
spelled_key key own (inr e) f = (ap is_states_key (f ∙ e), ap is_neighborhood_key (f ∙ e))

module _ (parsed : Parsed) (number : ℕ) (text : List ℕ) where
  abbrev bad : Result Directive Kind
  bad = Err BadDescriptor

  abbrev first : Result Directive Kind
  first = if is_some parsed.n_states then bad else if_states (states_named (setting_of text))

  abbrev second : Result Directive Kind
  second = if is_some parsed.neighborhood then bad else if_neighborhood parsed.symmetry (neighborhood_named (setting_of text))

  abbrev third : Result Directive Kind
  third = if is_some parsed.symmetry then bad else if_symmetry parsed.neighborhood (symmetry_named (setting_of text))

  abbrev from_third : Result Directive Kind
  from_third = if is_symmetry_key (key_of text) then third else bad

  abbrev from_second : Result Directive Kind
  from_second = if is_neighborhood_key (key_of text) then second else from_third

  abbrev rest : Result Directive Kind
  rest = parse_rest parsed.n_states parsed.neighborhood parsed.symmetry parsed.vars parsed.lines number text

  abbrev tells : Result Directive Kind
  tells = if is_descriptor text then parse_descriptor parsed.n_states parsed.neighborhood parsed.symmetry text else rest

  by_key : is_descriptor text ≡ true → tells ≡ (if is_states_key (key_of text) then first else from_second)
  unfolding parse_descriptor
  by_key d = take_then (is_descriptor text) (parse_descriptor parsed.n_states parsed.neighborhood parsed.symmetry text) rest d

  rest_given : (n : ℕ) (h : Neighborhood) (y : Symmetry) → AreGiven parsed n h y → rest ≡ parse_settled n h parsed.vars parsed.lines number text
  rest_given n h y g =
      ap (λ (o : Option ℕ). parse_rest o parsed.neighborhood parsed.symmetry parsed.vars parsed.lines number text) g.states
      ∙ ap (λ (o : Option Neighborhood). parse_rest (Some n) o parsed.symmetry parsed.vars parsed.lines number text) g.neighbours
      ∙ ap (λ (o : Option Symmetry). parse_rest (Some n) (Some h) o parsed.vars parsed.lines number text) g.orders

  text_tells : (directive : Directive) → TextSays parsed number text directive → tells ≡ Ok directive
  text_tells directive (states n s o t) =
      by_key s.is.colon ∙ take_then (is_states_key (key_of text)) first from_second (ap is_states_key s.is.before)
      ∙ take_else (is_some parsed.n_states) bad (if_states (states_named (setting_of text))) (ap is_some o)
      ∙ ap if_states (ap states_named s.is.behind ∙ states_are s.digits n s.number s.value s.least s.most) ∙ ap Ok (sym t)
  text_tells directive (neighborhood h s o a t) =
      by_key s.is.colon ∙ take_else (is_states_key (key_of text)) first from_second (spelled_key s.key (key_of text) s.spelled s.is.before).0
      ∙ take_then (is_neighborhood_key (key_of text)) second from_third (spelled_key s.key (key_of text) s.spelled s.is.before).1
      ∙ take_else (is_some parsed.neighborhood) bad (if_neighborhood parsed.symmetry (neighborhood_named (setting_of text))) (ap is_some o)
      ∙ ap (if_neighborhood parsed.symmetry) (ap neighborhood_named s.is.behind ∙ neighborhood_is h)
      ∙ take_then (agree (Some h) parsed.symmetry) (Ok (Neighbors h)) (Err UnsupportedSymmetry) a ∙ ap Ok (sym t)
  text_tells directive (symmetry y s o a t) =
      by_key s.colon ∙ take_else (is_states_key (key_of text)) first from_second (ap is_states_key s.before)
      ∙ take_else (is_neighborhood_key (key_of text)) second from_third (ap is_neighborhood_key s.before)
      ∙ take_then (is_symmetry_key (key_of text)) third bad (ap is_symmetry_key s.before)
      ∙ take_else (is_some parsed.symmetry) bad (if_symmetry parsed.neighborhood (symmetry_named (setting_of text))) (ap is_some o)
      ∙ ap (if_symmetry parsed.neighborhood) (ap symmetry_named s.behind ∙ symmetry_is y)
      ∙ take_then (agree parsed.neighborhood (Some y)) (Ok (Orders y)) (Err UnsupportedSymmetry) a ∙ ap Ok (sym t)
  text_tells directive (variable n h y var g v t) =
      take_else (is_descriptor text) (parse_descriptor parsed.n_states parsed.neighborhood parsed.symmetry text) rest v.colon ∙ rest_given n h y g
      ∙ take_then (is_variable_line text) (if_variable (variable_of n parsed.vars text))
      (if_transition parsed.vars parsed.lines (transition_of n (neighbour_count h) parsed.vars number text)) v.begins
      ∙ ap if_variable (variable_is n parsed.vars text var v) ∙ ap Ok (sym t)
  text_tells directive (transition n h y line g v quiet t) =
      let kept : Result Directive Kind = if is_quiet parsed.vars (parsed.lines ++ line ∷ []) then Ok (Line line) else Err NotQuiet in
      take_else (is_descriptor text) (parse_descriptor parsed.n_states parsed.neighborhood parsed.symmetry text) rest v.colon ∙ rest_given n h y g
      ∙ take_else (is_variable_line text) (if_variable (variable_of n parsed.vars text))
      (if_transition parsed.vars parsed.lines (transition_of n (neighbour_count h) parsed.vars number text)) v.begins
      ∙ ap (if_transition parsed.vars parsed.lines) (transition_is n (neighbour_count h) parsed.vars number text line v)
      ∙ take_else (not (is_bound line.inputs line.output)) (Err UnboundOutput) kept (ap not v.bound)
      ∙ take_then (is_quiet parsed.vars (parsed.lines ++ line ∷ [])) (Ok (Line line)) (Err NotQuiet) quiet ∙ ap Ok (sym t)

module _ (parsed : Parsed) (number : ℕ) (line : List ℕ) where
  abbrev of_text : Result Directive Kind
  of_text = tells parsed number (line_content line)

  abbrev of_content : Result Directive Kind
  of_content = if is_empty (line_content line) then Ok Nothing else of_text

  abbrev of_end : Result Directive Kind
  of_end = if is_described parsed then Ok TableEnds else Err BadDescriptor

  at_section : (section : Section) → parsed.section ≡ section → parse_in_section parsed.section parsed number line ≡ parse_in_section section parsed number line
  at_section section e = ap (λ (s : Section). parse_in_section s parsed number line) e

  at_name : (name : Option (List ℕ)) → parsed.name ≡ name → parse_ahead parsed.name line ≡ parse_ahead name line
  at_name name e = ap (λ (o : Option (List ℕ)). parse_ahead o line) e

  in_section : (directive : Directive) → LineSays parsed number line directive → parse_in_section parsed.section parsed number line ≡ Ok directive
  in_section directive (passed s o p t) = at_section Ahead s ∙ at_name None o ∙ take_then (is_passed_over line) (Ok Nothing) (if_named (name_on line)) p
      ∙ ap Ok (sym t)
  in_section directive (rule_line name s o p e t) =
      at_section Ahead s ∙ at_name None o ∙ take_else (is_passed_over line) (Ok Nothing) (if_named (name_on line)) p ∙ ap if_named e ∙ ap Ok (sym t)
  in_section directive (other name s o e t) = at_section Ahead s ∙ at_name (Some name) o ∙ take_else (is_table_line line) (Ok TableOpens) (Ok Nothing) e
      ∙ ap Ok (sym t)
  in_section directive (table_line name s o e t) = at_section Ahead s ∙ at_name (Some name) o ∙ take_then (is_table_line line) (Ok TableOpens) (Ok Nothing) e
      ∙ ap Ok (sym t)
  in_section directive (blank s e c t) =
      at_section Open s ∙ take_else (is_section_line line) of_end of_content e ∙ take_then (is_empty (line_content line)) (Ok Nothing) of_text (ap is_empty c)
      ∙ ap Ok (sym t)
  in_section directive (says s e c f) =
      at_section Open s ∙ take_else (is_section_line line) of_end of_content e
      ∙ take_else (is_empty (line_content line)) (Ok Nothing) of_text (not_nothing (line_content line) c)
      ∙ text_tells parsed number (line_content line) directive f
  in_section directive (section_line n h y s e g t) =
      at_section Open s ∙ take_then (is_section_line line) of_end of_content e ∙ take_then (is_described parsed) (Ok TableEnds) (Err BadDescriptor)
      (is_given parsed n h y g) ∙ ap Ok (sym t)
  in_section directive (behind s t) = at_section Behind s ∙ ap Ok (sym t)

  line_tells : (directive : Directive) → length line ≤ 2 ^ 20 → LineSays parsed number line directive → parse_line parsed number line ≡ Ok directive
  unfolding parse_line
  line_tells directive h f = take_else (is_too_long line) (Err LineTooLong) (parse_in_section parsed.section parsed number line) (not_too_long line h)
      ∙ in_section directive f

  short_line : (directive : Directive) → parse_line parsed number line ≡ Ok directive → length line ≤ 2 ^ 20
  unfolding parse_line
  short_line directive e = by (is_too_long line) refl e
    where
      by : (v : Bool) → is_too_long line ≡ v → cond v (Err LineTooLong) (parse_in_section parsed.section parsed number line) ≡ Ok directive
          → length line ≤ 2 ^ 20
      by true p q = absurd (let z : ⊥ = cc in z)
      by false p q = omega (arith, ltb-false (2 ^ 20) (length line) p)

-- ---- lines

next_number : (lines : List (List ℕ)) (line : List ℕ) → min (number_after lines + 1) (2 ^ 64 - 1) ≡ number_after (lines ++ line ∷ [])
next_number lines line = omega (arith, length-append lines (line ∷ []))

abbrev parsed_of : List (List ℕ) → Parsed
parsed_of lines = parsed_by (numbered_from 1 lines)

-- lines that lead on break no rule
led : (more lines : List (List ℕ)) (end : Parsed) → Reach lines → Lead (parsed_of lines) (number_after lines) more end → Reach (lines ++ more)
    × (parsed_of (lines ++ more) ≡ end)
led [] lines end r l = (subst Reach (sym (append-nil lines)) r, ap parsed_of (append-nil lines) ∙ l)
led (line ∷ more) lines end r l =
    let m = reach_more lines line l.0 r (line_tells (parsed_of lines) (number_after lines) line l.0 l.1 l.2) in
    let S : Parsed → Type 0 = λ s. Lead s (min (number_after lines + 1) (2 ^ 64 - 1)) more end in
    let N : ℕ → Type 0 = λ k. Lead (parsed_of (lines ++ line ∷ [])) k more end in
    let rest : Lead (parsed_of (lines ++ line ∷ [])) (number_after (lines ++ line ∷ [])) more end = subst N (next_number lines line) (subst S (sym m.0) l.3) in
    let whole = led more (lines ++ line ∷ []) end m.1 rest in
    let e : (lines ++ line ∷ []) ++ more ≡ lines ++ line ∷ more = append_assoc lines (line ∷ []) more in
    (subst Reach e whole.0, sym (ap parsed_of e) ∙ whole.1)

abbrev IsUnbroken : List (List ℕ) → Type 0
IsUnbroken lines = UnbrokenBelow IsTableFile broken_table_rule missing_table_part lines (length lines)

-- lines that break no rule lead on
leads : (more lines : List (List ℕ)) → Reach lines → IsUnbroken (lines ++ more) → Lead (parsed_of lines) (number_after lines) more (parsed_of (lines ++ more))
leads [] lines r u = ap parsed_of (sym (append-nil lines))
leads (line ∷ more) lines r u =
    let f : take (length lines) (lines ++ line ∷ more) ≡ lines = take-append_seam lines (line ∷ more) in
    let g : get_or (lines ++ line ∷ more) (length lines) [] ≡ line = get_or-append_seam lines line more [] in
    let here : broken_table_rule (take (length lines) (lines ++ line ∷ more)) (get_or (lines ++ line ∷ more) (length lines) []) ≡ None = u (length lines)
    (omega (arith, length-append lines (line ∷ more))) in
    let b : broken_table_rule lines line ≡ None = rw (f, g) at here in
    let t = unbroken_directive lines line b in
    let m = reach_more lines line t.0 r t.1 in
    let e : (lines ++ line ∷ []) ++ more ≡ lines ++ line ∷ more = append_assoc lines (line ∷ []) more in
    let rest = leads more (lines ++ line ∷ []) m.1 (subst IsUnbroken (sym e) u) in
    let E : List (List ℕ) → Type 0 = λ ls. Lead (parsed_of (lines ++ line ∷ [])) (number_after (lines ++ line ∷ [])) more (parsed_of ls) in
    let N : ℕ → Type 0 = λ k. Lead (parsed_of (lines ++ line ∷ [])) k more (parsed_of (lines ++ line ∷ more)) in
    let S : Parsed → Type 0 = λ s. Lead s (min (number_after lines + 1) (2 ^ 64 - 1)) more (parsed_of (lines ++ line ∷ more)) in (
      t.0,
      short_line (parsed_of lines) (number_after lines) line t.0 t.1,
      line_is (parsed_of lines) (number_after lines) line t.0 (cases.line_case (parsed_of lines) (number_after lines) line t.0 t.1),
      subst S m.0 (subst N (sym (next_number lines line)) (subst E e rest)),
    )

-- ---- files

no_ahead : (section : Section) → section ≢ Ahead → is_ahead section ≡ false
no_ahead Ahead h = absurd (h refl)
no_ahead Open h = refl
no_ahead Behind h = refl

nothing_lacks : (parsed : Parsed) (table : Table) → Describes parsed table → parsed.section ≢ Ahead → missing_part_of parsed ≡ None
nothing_lacks parsed table d h =
    let described : Option Kind = if is_described parsed then None else Some BadDescriptor in
    let g : AreGiven parsed table.n_states table.neighborhood table.symmetry = record { states = d.n_states; neighbours = d.neighborhood; orders = d.symmetry }
    in
    take_else (is_none parsed.name) (Some NoRuleLine) (if is_ahead parsed.section then Some NoTable else described) (ap is_none d.name)
    ∙ take_else (is_ahead parsed.section) (Some NoTable) described (no_ahead parsed.section h)
    ∙ take_then (is_described parsed) None (Some BadDescriptor) (is_given parsed table.n_states table.neighborhood table.symmetry g)

table_came : (a b c : Bool) → (if a then Some NoRuleLine else (if b then Some NoTable else (if c then None else Some BadDescriptor))) ≡ None → b ≡ false
table_came true b c h = absurd (let z : ⊥ = cc in z)
table_came false true c h = absurd (let z : ⊥ = cc in z)
table_came false false c h = refl

came_of : (parsed : Parsed) → missing_part_of parsed ≡ None → parsed.section ≢ Ahead
came_of parsed h e =
    let f : is_ahead parsed.section ≡ false = table_came (is_none parsed.name) (is_ahead parsed.section) (is_described parsed) h in
    let t : is_ahead parsed.section ≡ true = ap is_ahead e in
    let z : true ≡ false = sym t ∙ f in cc

written : (lines : List (List ℕ)) (table : Table) → IsPlainTable lines table → AreTable lines table
written lines table f =
    let start : Lead (parsed_of []) (number_after []) lines f.parsed = subst (λ (s : Parsed). Lead s 1 lines f.parsed) (sym parsed_start) f.leads in
    let r = led lines [] f.parsed reach_none start in
    record {
      file = record { unbroken = r.0.unbroken; whole = missing_is lines ∙ ap missing_part_of r.1 ∙ nothing_lacks f.parsed table f.describes f.came };
      says = subst (λ (s : Parsed). Describes s table) (sym r.1) f.describes;
    }

parsed_plainly : (lines : List (List ℕ)) (table : Table) → AreTable lines table → IsPlainTable lines table
parsed_plainly lines table a =
    let l : Lead (parsed_of []) (number_after []) lines (parsed_of lines) = leads lines [] reach_none a.file.unbroken in
    record {
      parsed = parsed_of lines;
      leads = subst (λ (s : Parsed). Lead s 1 lines (parsed_of lines)) parsed_start l;
      came = came_of (parsed_of lines) (sym (missing_is lines) ∙ a.file.whole);
      describes = a.says;
    }

pub grammars_agree : TableGrammarsAgree
grammars_agree lines table = (written lines table, parsed_plainly lines table)
