-- What lines say together with one more that breaks no rule.
use mathlib.Core.Bool.{and-false}
use Rattle.std.proofs.Common.{◌≡◌, ℕ, List, [], ◌∷◌, ◌++◌, Bool, true, false, not, refl, ap, sym, ◌∙◌, subst, ◌&&◌, ◌⊎◌, inl, inr, Option, Some, None, if◌then◌else◌, is_some, option_to_list, All, codes, bytes_eq, append-nil}
use Rattle.std.specs.List.{cons_option}
use Rattle.std.proofs.lemmas.List.Elements.{All-push}
use Rattle.std.proofs.lemmas.Slice.Eq.{bytes_eq-Decides}
use Rattle.std.proofs.lemmas.Bool.{or_cases}
use Rattle.life_table.specs.Valid.{neighbour_count}
use Rattle.life_table.specs.Reading.{NumberedLine, texts_of_lines, parsed_in, is_descriptor, key_of, setting_of, is_states_key, is_neighborhood_key, is_symmetry_key, states_named, neighborhood_named, symmetry_named, states_of, neighborhood_of, symmetry_of, is_variable_line, variable_of, variables_written, variables_in, is_transition_line, transition_of, transitions_written, transitions_in}
use Rattle.life_table.specs.Reader.{parsed_after}
use Rattle.life_table.specs.declared.directive.Parsed.{Parsed}
use Rattle.life_table.specs.declared.directive.Section.{Section}
use Rattle.life_table.specs.declared.directive.Section.TheVariants.{Open}
use Rattle.life_table.specs.declared.directive.Directive.{Directive}
use Rattle.life_table.specs.declared.directive.Directive.TheVariants.{States, Neighbors, Orders, Variable, Line}
use Rattle.life_table.specs.declared.table.Neighborhood.{Neighborhood}
use Rattle.life_table.specs.declared.table.Symmetry.{Symmetry}
use Rattle.life_table.specs.declared.table.Var.{Var}
use Rattle.life_table.specs.declared.table.Transition.{Transition}
use Rattle.life_table.proofs.Cases.{Says, states, neighbors, orders, variable, transition}
use Rattle.life_table.proofs.Keeping.{AreSettled, Settled, settled_more, Stays, stays_same, stays_none, AreVariables, variables_none, variables_new, variables_same}
use Rattle.life_table.proofs.Texts.{setting_same, setting_new, this_key, other_key, no_descriptor, written, variables_more, transitions_more, IsRead, transitions_kept, AreDescriptors, no_variables, no_transitions, none_to_read, on_line}

-- the texts so far: all are descriptors until all three settings are given, and each transition's line is read
pub record TextsStand (ts : List NumberedLine) : Type 0 where
  pub early : (is_some (states_of (texts_of_lines ts)) && is_some (neighborhood_of (texts_of_lines ts)) && is_some (symmetry_of (texts_of_lines ts))) ≡ false
      → AreDescriptors ts
  pub read : (n : ℕ) (h : Neighborhood) → states_of (texts_of_lines ts) ≡ Some n → neighborhood_of (texts_of_lines ts) ≡ Some h
      → All (IsRead n (neighbour_count h) (variables_written n (texts_of_lines ts))) ts
  pub settled : AreSettled (states_of (texts_of_lines ts)) (neighborhood_of (texts_of_lines ts)) (symmetry_of (texts_of_lines ts)) ts
  pub variables : (n : ℕ) → states_of (texts_of_lines ts) ≡ Some n → AreVariables n (variables_written n (texts_of_lines ts)) ts

-- no key is another
alone : (is_key : List ℕ → Bool) (own key : List ℕ) → is_key own ≡ false → bytes_eq key own ≡ true → is_key key ≡ false
alone is_key own key other e = subst (λ (w : List ℕ). is_key w ≡ false) (sym ((bytes_eq-Decides key own).0 e)) other

pub neighbors_alone : (key : List ℕ) → is_neighborhood_key key ≡ true → is_symmetry_key key ≡ false
neighbors_alone key e = elim (or_cases (bytes_eq key (codes "neighborhood")) (bytes_eq key (codes "neighbourhood")) e) [
  | inl a ↦ alone is_symmetry_key (codes "neighborhood") key refl a
  | inr b ↦ alone is_symmetry_key (codes "neighbourhood") key refl b
]

-- one said of five equal parts
parsed_same : (name : Option (List ℕ)) (section : Section) (a a' : Option ℕ) (b b' : Option Neighborhood) (c c' : Option Symmetry) (d d' : List Var)
    (e e' : List Transition)
    → a ≡ a' → b ≡ b' → c ≡ c' → d ≡ d' → e ≡ e'
    → (let s : Parsed = record { name = name; section = section; n_states = a; neighborhood = b; symmetry = c; vars = d; lines = e } in s)
    ≡ record { name = name; section = section; n_states = a'; neighborhood = b'; symmetry = c'; vars = d'; lines = e' }
parsed_same name section a a' b b' c c' d d' e e' p q r s t = cc

not_described : (a b c : Bool) → (a ≡ false) ⊎ ((b ≡ false) ⊎ (c ≡ false)) → (a && b && c) ≡ false
not_described true true c (inl h) = cc
not_described true true c (inr (inl h)) = cc
not_described true true c (inr (inr h)) = h
not_described true false c h = refl
not_described false b c h = refl

module _ (name : Option (List ℕ)) (ts : List NumberedLine) (number : ℕ) (text : List ℕ) (stand : TextsStand ts) where
  abbrev x : NumberedLine
  x = (number, text)

  abbrev on : Option ℕ
  on = states_of (texts_of_lines ts)

  abbrev oh : Option Neighborhood
  oh = neighborhood_of (texts_of_lines ts)

  abbrev oy : Option Symmetry
  oy = symmetry_of (texts_of_lines ts)

  abbrev on' : Option ℕ
  on' = states_of (texts_of_lines (ts ++ x ∷ []))

  abbrev oh' : Option Neighborhood
  oh' = neighborhood_of (texts_of_lines (ts ++ x ∷ []))

  abbrev oy' : Option Symmetry
  oy' = symmetry_of (texts_of_lines (ts ++ x ∷ []))

  -- one more descriptor
  module _ (d : is_descriptor text ≡ true) (all : AreDescriptors ts) where
    more_described : AreDescriptors (ts ++ x ∷ [])
    more_described = All-push (λ (t : NumberedLine). is_descriptor t.1 ≡ true) ts x all d

    described_vars : variables_in on' (texts_of_lines (ts ++ x ∷ [])) ≡ variables_in on (texts_of_lines ts)
    described_vars = no_variables on' (ts ++ x ∷ []) more_described ∙ sym (no_variables on ts all)

    described_lines : transitions_in on' oh' (variables_in on' (texts_of_lines (ts ++ x ∷ []))) (ts ++ x ∷ [])
        ≡ transitions_in on oh (variables_in on (texts_of_lines ts))
        ts
    described_lines = no_transitions on' oh' (variables_in on' (texts_of_lines (ts ++ x ∷ []))) (ts ++ x ∷ []) more_described
        ∙ sym (no_transitions on oh (variables_in on (texts_of_lines ts)) ts all)

    described_stand : Stays on on' → Stays oh oh' → Stays oy oy' → Settled on' oh' oy' text → TextsStand (ts ++ x ∷ [])
    described_stand n h y s = record {
      early = λ _. more_described;
      read = λ n h en eh. none_to_read n (neighbour_count h) (variables_written n (texts_of_lines (ts ++ x ∷ []))) (ts ++ x ∷ []) more_described;
      settled = settled_more on on' oh oh' oy oy' n h y ts x stand.settled (λ _. s);
      variables = λ n en. variables_none n (variables_written n (texts_of_lines (ts ++ x ∷ []))) (ts ++ x ∷ []) more_described
          (no_variables (Some n) (ts ++ x ∷ []) more_described);
    }

  -- one more variable or transition
  module _ (d : is_descriptor text ≡ false) (n : ℕ) (h : Neighborhood) (y : Symmetry) (en : on ≡ Some n) (eh : oh ≡ Some h) (ey : oy ≡ Some y) where
    abbrev V : List Var
    V = variables_written n (texts_of_lines ts)

    vars_are : variables_in on (texts_of_lines ts) ≡ V
    vars_are = ap (λ (o : Option ℕ). variables_in o (texts_of_lines ts)) en

    states_same : on' ≡ on
    states_same = setting_same is_states_key states_named ts x (no_descriptor is_states_key text d)

    neighbors_same : oh' ≡ oh
    neighbors_same = setting_same is_neighborhood_key neighborhood_named ts x (no_descriptor is_neighborhood_key text d)

    symmetry_same : oy' ≡ oy
    symmetry_same = setting_same is_symmetry_key symmetry_named ts x (no_descriptor is_symmetry_key text d)

    vars_then : (new : List Var) → written n V text ≡ new → variables_in on' (texts_of_lines (ts ++ x ∷ [])) ≡ V ++ new
    vars_then new w = ap (λ (o : Option ℕ). variables_in o (texts_of_lines (ts ++ x ∷ []))) (states_same ∙ en) ∙ variables_more n ts x
        ∙ ap (λ (vs : List Var). V ++ vs) w

    lines_are : transitions_in on oh (variables_in on (texts_of_lines ts)) ts ≡ transitions_written n (neighbour_count h) V ts
    lines_are = ap (λ (o : Option ℕ). transitions_in o oh (variables_in on (texts_of_lines ts)) ts) en
        ∙ ap (λ (o : Option Neighborhood). transitions_in (Some n) o (variables_in on (texts_of_lines ts)) ts) eh
        ∙ ap (λ (vs : List Var). transitions_written n (neighbour_count h) vs ts) vars_are

    lines_then : (vars : List Var) → variables_in on' (texts_of_lines (ts ++ x ∷ [])) ≡ vars
        → transitions_in on' oh' (variables_in on' (texts_of_lines (ts ++ x ∷ []))) (ts ++ x ∷ []) ≡ transitions_written n (neighbour_count h) vars ts
        ++ cons_option (on_line n (neighbour_count h) vars x) []
    lines_then vars e = ap (λ (o : Option ℕ). transitions_in o oh' (variables_in on' (texts_of_lines (ts ++ x ∷ []))) (ts ++ x ∷ [])) (states_same ∙ en)
        ∙ ap (λ (o : Option Neighborhood). transitions_in (Some n) o (variables_in on' (texts_of_lines (ts ++ x ∷ []))) (ts ++ x ∷ [])) (neighbors_same ∙ eh)
        ∙ ap (λ (vs : List Var). transitions_written n (neighbour_count h) vs (ts ++ x ∷ [])) e ∙ transitions_more n (neighbour_count h) vars ts x

    all_read : All (IsRead n (neighbour_count h) V) ts
    all_read = stand.read n h en eh

    stand_then : All (IsRead n (neighbour_count h) (variables_written n (texts_of_lines (ts ++ x ∷ [])))) (ts ++ x ∷ [])
        → AreVariables n (variables_written n (texts_of_lines (ts ++ x ∷ []))) (ts ++ x ∷ []) → TextsStand (ts ++ x ∷ [])
    stand_then all vars = record {
      early = λ e. absurd (
          let t : (is_some on' && is_some oh' && is_some oy') ≡ true =
          ap (λ (o : Option ℕ). is_some o && is_some oh' && is_some oy') (states_same ∙ en)
          ∙ ap (λ (o : Option Neighborhood). is_some o && is_some oy') (neighbors_same ∙ eh) ∙ ap (λ (o : Option Symmetry). is_some o) (symmetry_same ∙ ey) in
          let z : true ≡ false = sym t ∙ e in let w : ⊥ = cc in w);
      read = λ m g em eg.
          let same_n : n ≡ m = (let z : Some n ≡ Some m = sym (states_same ∙ en) ∙ em in cc) in
          let same_h : h ≡ g = (let z : Some h ≡ Some g = sym (neighbors_same ∙ eh) ∙ eg in cc) in
          subst (λ (m : ℕ). All (IsRead m (neighbour_count g) (variables_written m (texts_of_lines (ts ++ x ∷ [])))) (ts ++ x ∷ [])) same_n
          (subst (λ (g : Neighborhood). All (IsRead n (neighbour_count g) (variables_written n (texts_of_lines (ts ++ x ∷ [])))) (ts ++ x ∷ [])) same_h all);
      settled = settled_more on on' oh oh' oy oy' (stays_same on on' states_same) (stays_same oh oh' neighbors_same) (stays_same oy oy' symmetry_same) ts x
          stand.settled
          (λ e. absurd (let z : false ≡ true = sym d ∙ e in let w : ⊥ = cc in w));
      variables = λ m em.
          let same_n : n ≡ m = (let z : Some n ≡ Some m = sym (states_same ∙ en) ∙ em in cc) in
          subst (λ (m : ℕ). AreVariables m (variables_written m (texts_of_lines (ts ++ x ∷ []))) (ts ++ x ∷ [])) same_n vars;
    }

    variable_written : (var : Var) → is_variable_line text ≡ true → variable_of n (variables_in on (texts_of_lines ts)) text ≡ Some var → written n V text ≡ var
        ∷ []
    variable_written var v e =
        ap (λ (b : Bool). if b && not (is_descriptor text) then option_to_list (variable_of n V text) else []) v
        ∙ ap (λ (b : Bool). if not b then option_to_list (variable_of n V text) else []) d
        ∙ ap option_to_list (ap (λ (vs : List Var). variable_of n vs text) (sym vars_are) ∙ e)

    nothing_written : is_variable_line text ≡ false → written n V text ≡ []
    nothing_written v = ap (λ (b : Bool). if b && not (is_descriptor text) then option_to_list (variable_of n V text) else []) v

    no_transition : (vars : List Var) → is_variable_line text ≡ true → on_line n (neighbour_count h) vars x ≡ None
    no_transition vars v = ap (λ (b : Bool). if not b && not (is_variable_line text) then transition_of n (neighbour_count h) vars number text else None) d
        ∙ ap (λ (b : Bool). if not b then transition_of n (neighbour_count h) vars number text else None) v

    transition_there : (vars : List Var) → is_variable_line text ≡ false → on_line n (neighbour_count h) vars x ≡ transition_of n (neighbour_count h) vars
        number text
    transition_there vars v = ap (λ (b : Bool). if not b && not (is_variable_line text) then transition_of n (neighbour_count h) vars number text else None) d
        ∙ ap (λ (b : Bool). if not b then transition_of n (neighbour_count h) vars number text else None) v

  -- what the texts say together with one more, and that they stand
  abbrev SaysMore : Directive → Type 0
  SaysMore directive = (parsed_in name Open (ts ++ x ∷ []) ≡ parsed_after (parsed_in name Open ts) directive) × TextsStand (ts ++ x ∷ [])

  says_states : is_descriptor text ≡ true → is_states_key (key_of text) ≡ true → on ≡ None → (n : ℕ) → states_named (setting_of text) ≡ Some n
      → SaysMore (States n)
  says_states d k none n e =
      let all : AreDescriptors ts = stand.early (not_described (is_some on) (is_some oh) (is_some oy) (inl (ap (λ (o : Option ℕ). is_some o) none))) in
      let states : on' ≡ Some n = setting_new is_states_key states_named ts x (this_key is_states_key text d k) none ∙ e in
      let neighbors : oh' ≡ oh =
      setting_same is_neighborhood_key neighborhood_named ts x
      (other_key is_neighborhood_key text (alone is_neighborhood_key (codes "n_states") (key_of text) refl k)) in
      let symmetry : oy' ≡ oy =
      setting_same is_symmetry_key symmetry_named ts x
      (other_key is_symmetry_key text (alone is_symmetry_key (codes "n_states") (key_of text) refl k)) in (
        parsed_same name Open on' (Some n) oh' oh oy' oy _ _ _ _ states neighbors symmetry
            (described_vars d all) (described_lines d all),
        described_stand d all (stays_none on on' none) (stays_same oh oh' neighbors) (stays_same oy oy' symmetry) (inl (k, n, e, states)),
      )

  says_neighbors : is_descriptor text ≡ true → is_states_key (key_of text) ≡ false → is_neighborhood_key (key_of text) ≡ true → oh ≡ None → (h : Neighborhood)
      → neighborhood_named (setting_of text) ≡ Some h → SaysMore (Neighbors h)
  says_neighbors d s k none h e =
      let all : AreDescriptors ts = stand.early
      (not_described (is_some on) (is_some oh) (is_some oy) (inr (inl (ap (λ (o : Option Neighborhood). is_some o) none)))) in
      let states : on' ≡ on = setting_same is_states_key states_named ts x (other_key is_states_key text s) in
      let neighbors : oh' ≡ Some h = setting_new is_neighborhood_key neighborhood_named ts x (this_key is_neighborhood_key text d k) none ∙ e in
      let symmetry : oy' ≡ oy = setting_same is_symmetry_key symmetry_named ts x (other_key is_symmetry_key text (neighbors_alone (key_of text) k)) in (
        parsed_same name Open on' on oh' (Some h) oy' oy _ _ _ _ states neighbors symmetry
            (described_vars d all) (described_lines d all),
        described_stand d all (stays_same on on' states) (stays_none oh oh' none) (stays_same oy oy' symmetry) (inr (inl (k, h, e, neighbors))),
      )

  says_orders : is_descriptor text ≡ true → is_states_key (key_of text) ≡ false → is_neighborhood_key (key_of text) ≡ false
      → is_symmetry_key (key_of text) ≡ true → oy ≡ None → (y : Symmetry)
      → symmetry_named (setting_of text) ≡ Some y → SaysMore (Orders y)
  says_orders d s m k none y e =
      let all : AreDescriptors ts = stand.early
      (not_described (is_some on) (is_some oh) (is_some oy) (inr (inr (ap (λ (o : Option Symmetry). is_some o) none)))) in
      let states : on' ≡ on = setting_same is_states_key states_named ts x (other_key is_states_key text s) in
      let neighbors : oh' ≡ oh = setting_same is_neighborhood_key neighborhood_named ts x (other_key is_neighborhood_key text m) in
      let symmetry : oy' ≡ Some y = setting_new is_symmetry_key symmetry_named ts x (this_key is_symmetry_key text d k) none ∙ e in (
        parsed_same name Open on' on oh' oh oy' (Some y) _ _ _ _ states neighbors symmetry
            (described_vars d all) (described_lines d all),
        described_stand d all (stays_same on on' states) (stays_same oh oh' neighbors) (stays_none oy oy' none) (inr (inr (k, y, e, symmetry))),
      )

  says_variable : is_descriptor text ≡ false → (n : ℕ) (h : Neighborhood) (y : Symmetry) → on ≡ Some n → oh ≡ Some h → oy ≡ Some y
      → is_variable_line text ≡ true → (var : Var)
      → variable_of n (variables_in on (texts_of_lines ts)) text ≡ Some var → SaysMore (Variable var)
  says_variable d n h y en eh ey v var e =
      let k : ℕ = neighbour_count h in
      let w = variable_written d n h y en eh ey var v e in
      let vars : variables_in on' (texts_of_lines (ts ++ x ∷ [])) ≡ V d n h y en eh ey ++ var ∷ [] = vars_then d n h y en eh ey (var ∷ []) w in
      let kept = transitions_kept n (neighbour_count h) (V d n h y en eh ey) var ts (all_read d n h y en eh ey) in
      let lines = lines_then d n h y en eh ey (V d n h y en eh ey ++ var ∷ []) vars
      ∙ ap (λ (o : Option Transition). transitions_written n (neighbour_count h) (V d n h y en eh ey ++ var ∷ []) ts ++ cons_option o [])
      (no_transition d n h y en eh ey (V d n h y en eh ey ++ var ∷ []) v)
      ∙ append-nil (transitions_written n (neighbour_count h) (V d n h y en eh ey ++ var ∷ []) ts) ∙ kept.0 ∙ sym (lines_are d n h y en eh ey) in
      let there : variables_written n (texts_of_lines (ts ++ x ∷ [])) ≡ V d n h y en eh ey ++ var ∷ [] = variables_more n ts x
      ∙ ap (λ (vs : List Var). V d n h y en eh ey ++ vs) w in
      let last : IsRead n (neighbour_count h) (V d n h y en eh ey ++ var ∷ []) x = λ is. absurd (
      let no : is_transition_line text ≡ false = ap (λ (b : Bool). not (is_descriptor text) && not b) v ∙ and-false (not (is_descriptor text)) in
      let z : true ≡ false = sym is ∙ no in let q : ⊥ = cc in q) in (
        parsed_same name Open on' on oh' oh oy' oy _ _ _ _ (states_same d n h y en eh ey) (neighbors_same d n h y en eh ey) (symmetry_same d n h y en eh ey)
            (vars ∙ ap (λ (vs : List Var). vs ++ var ∷ []) (sym (vars_are d n h y en eh ey))) lines,
        stand_then d n h y en eh ey (subst (λ (vs : List Var). All (IsRead n (neighbour_count h) vs) (ts ++ x ∷ [])) (sym there)
            (All-push (IsRead n (neighbour_count h) (V d n h y en eh ey ++ var ∷ [])) ts x kept.1 last))
            (subst (λ (vs : List Var). AreVariables n vs (ts ++ x ∷ [])) (sym there)
            (variables_new n (V d n h y en eh ey) var ts x (stand.variables n en) (ap (λ (b : Bool). b && not (is_descriptor text)) v ∙ ap not d)
            (ap (λ (vs : List Var). variable_of n vs text) (sym (vars_are d n h y en eh ey)) ∙ e))),
      )

  says_transition : is_descriptor text ≡ false → (n : ℕ) (h : Neighborhood) (y : Symmetry) → on ≡ Some n → oh ≡ Some h → oy ≡ Some y
      → is_variable_line text ≡ false → (t : Transition)
      → transition_of n (neighbour_count h) (variables_in on (texts_of_lines ts)) number text ≡ Some t → SaysMore (Line t)
  says_transition d n h y en eh ey v t e =
      let w = nothing_written d n h y en eh ey v in
      let vars : variables_in on' (texts_of_lines (ts ++ x ∷ [])) ≡ V d n h y en eh ey = vars_then d n h y en eh ey [] w ∙ append-nil (V d n h y en eh ey) in
      let read : transition_of n (neighbour_count h) (V d n h y en eh ey) number text ≡ Some t =
      ap (λ (vs : List Var). transition_of n (neighbour_count h) vs number text) (sym (vars_are d n h y en eh ey)) ∙ e in
      let lines = lines_then d n h y en eh ey (V d n h y en eh ey) vars
      ∙ ap (λ (o : Option Transition). transitions_written n (neighbour_count h) (V d n h y en eh ey) ts ++ cons_option o [])
      (transition_there d n h y en eh ey (V d n h y en eh ey) v ∙ read)
      ∙ ap (λ (ls : List Transition). ls ++ t ∷ []) (sym (lines_are d n h y en eh ey)) in
      let there : variables_written n (texts_of_lines (ts ++ x ∷ [])) ≡ V d n h y en eh ey = variables_more n ts x
      ∙ ap (λ (vs : List Var). V d n h y en eh ey ++ vs) w ∙ append-nil (V d n h y en eh ey) in (
        parsed_same name Open on' on oh' oh oy' oy _ _ _ _ (states_same d n h y en eh ey) (neighbors_same d n h y en eh ey) (symmetry_same d n h y en eh ey)
            (vars ∙ sym (vars_are d n h y en eh ey)) lines,
        stand_then d n h y en eh ey (subst (λ (vs : List Var). All (IsRead n (neighbour_count h) vs) (ts ++ x ∷ [])) (sym there)
            (All-push (IsRead n (neighbour_count h) (V d n h y en eh ey)) ts x (all_read d n h y en eh ey) (λ is. (t, read))))
            (subst (λ (vs : List Var). AreVariables n vs (ts ++ x ∷ [])) (sym there)
            (variables_same n (V d n h y en eh ey) ts x (stand.variables n en) (ap (λ (b : Bool). b && not (is_descriptor text)) v))),
      )

  pub says_more : (directive : Directive) → Says (parsed_in name Open ts) number text directive → SaysMore directive
  says_more directive (states d k none n e is) = subst SaysMore (sym is) (says_states d k none n e)
  says_more directive (neighbors d s k none h e agree is) = subst SaysMore (sym is) (says_neighbors d s k none h e)
  says_more directive (orders d s m k none y e agree is) = subst SaysMore (sym is) (says_orders d s m k none y e)
  says_more directive (variable d n h y en eh ey v var e is) = subst SaysMore (sym is) (says_variable d n h y en eh ey v var e)
  says_more directive (transition d n h y en eh ey v t e bound quiet is) = subst SaysMore (sym is) (says_transition d n h y en eh ey v t e)
