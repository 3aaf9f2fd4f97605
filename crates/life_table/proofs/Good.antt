-- What is said so far are parts of a rule table.
use Rattle.std.proofs.Common.{◌≡◌, ◌≢◌, ℕ, ◌+◌, ◌<◌, ◌≤◌, List, [], ◌∷◌, ◌++◌, length, Bool, true, false, refl, ap, sym, ◌∙◌, subst, ◌&&◌, ◌||◌, inl, inr, arith, get_or, length-append, Option, Some, None, if◌then◌else◌, All, IsTrue, IfSome, nat_lt, nat_le, slice_get, bytes_eq, ltb-false}
use Rattle.std.specs.List.{list_any, list_all, position_or_len}
use Rattle.std.specs.Option.{option_map_or}
use Rattle.std.proofs.lemmas.List.{get_or_append_left, get_or_push}
use Rattle.std.proofs.lemmas.List.Sums.{fails_before_first}
use Rattle.std.proofs.lemmas.List.Elements.{All-push, All-nil, All-head, All-tail}
use Rattle.std.proofs.lemmas.Bool.Decides.{eqb_tells}
use Rattle.std.proofs.lemmas.Option.{slice_get_within, slice_get-get_or, get_or_from_slice_get}
use Rattle.std.proofs.lemmas.Slice.Eq.{bytes_eq-Decides}
use Rattle.life_base.specs.Text.{value_of}
use Rattle.life_table.specs.Meaning.{has_state}
use Rattle.life_table.specs.Valid.{IsEntry, IsTransition, IsVariable, IsSoundTable, neighbour_count, is_listed, allows_zero, fits_zero, is_quiet_output, is_quiet}
use Rattle.life_table.specs.Reading.{variable_named, states_named, number_below, agree, setting_of, line_content}
use Rattle.life_table.specs.Reader.{IsGood, IsKeptParse, parsed_after, fits_after, nothing_parsed}
use Rattle.life_table.specs.declared.directive.Parsed.{Parsed}
use Rattle.life_table.specs.declared.directive.Section.{Section}
use Rattle.life_table.specs.declared.directive.Section.TheVariants.{Open, Behind}
use Rattle.life_table.specs.declared.directive.Directive.{Directive}
use Rattle.life_table.specs.declared.directive.Directive.TheVariants.{States, Neighbors, Orders, Variable, Line}
use Rattle.life_table.specs.declared.table.Neighborhood.{Neighborhood}
use Rattle.life_table.specs.declared.table.Symmetry.{Symmetry}
use Rattle.life_table.specs.declared.table.Var.{Var}
use Rattle.life_table.specs.declared.table.Entry.{Entry}
use Rattle.life_table.specs.declared.table.Entry.TheVariants as entries
use Rattle.life_table.specs.declared.table.Transition.{Transition}
use Rattle.life_table.proofs.Prefixes.{any_more}
use Rattle.life_table.proofs.Cases.{Says, states, neighbors, orders, variable, transition, Case, passed, named, ahead, opens, ends, silent, says, behind}
use Rattle.life_table.proofs.Values.{tested, below_limit, is_variable_written, is_transition}
use Rattle.life_base.proofs.Basics.{false_from_none}

-- 1. One more variable

pub get_more : (vars : List Var) (v : Var) (i : ℕ) → i < length vars → slice_get (vars ++ v ∷ []) i ≡ slice_get vars i
get_more vars v i h =
    slice_get-get_or (vars ++ v ∷ []) i v (omega (arith, h, length-append vars (v ∷ [])))
    ∙ ap Some (get_or_append_left vars (v ∷ []) v i h) ∙ sym (slice_get-get_or vars i v h)

get_last : (vars : List Var) (v : Var) (i : ℕ) → i ≡ length vars → slice_get (vars ++ v ∷ []) i ≡ Some v
get_last vars v i h = slice_get-get_or (vars ++ v ∷ []) i v (omega (arith, h, length-append vars (v ∷ []))) ∙ ap Some (get_or_push vars v v i (sym h))

entry_more : (n : ℕ) (vars : List Var) (v : Var) (e : Entry) → IsEntry n vars e → IsEntry n (vars ++ v ∷ []) e
entry_more n vars v e is = record { fixed = is.fixed; variable = λ i eq. (let below = is.variable i eq in omega (arith, below, length-append vars (v ∷ []))) }

transition_more : (n k : ℕ) (vars : List Var) (v : Var) (t : Transition) → IsTransition n k vars t → IsTransition n k (vars ++ v ∷ []) t
transition_more n k vars v t is = record {
  count = is.count;
  inputs = λ j d below. entry_more n vars v (get_or t.inputs j d) (is.inputs j d below);
  output = entry_more n vars v t.output is.output;
  bound = is.bound;
}

zero_more : (n : ℕ) (vars : List Var) (v : Var) (e : Entry) → IsEntry n vars e → allows_zero (vars ++ v ∷ []) e ≡ allows_zero vars e
zero_more n vars v (entries.Fixed s) is = refl
zero_more n vars v (entries.Var i) is = ap (λ (o : Option Var). option_map_or (λ (w : Var). has_state w 0) o false) (get_more vars v i (is.variable i refl))

all_same : (p q : Entry → Bool) (es : List Entry) → All (λ e. p e ≡ q e) es → list_all p es ≡ list_all q es
all_same p q [] h = refl
all_same p q (e ∷ es) h = ap (λ (b : Bool). b && list_all p es) (All-head (λ e. p e ≡ q e) e es h)
    ∙ ap (λ (b : Bool). q e && b) (all_same p q es (All-tail (λ e. p e ≡ q e) e es h))

fits_more : (n k : ℕ) (vars : List Var) (v : Var) (t : Transition) → IsTransition n k vars t → fits_zero (vars ++ v ∷ []) t ≡ fits_zero vars t
fits_more n k vars v t is = all_same (allows_zero (vars ++ v ∷ [])) (allows_zero vars) t.inputs
    (λ j d below. zero_more n vars v (get_or t.inputs j d) (is.inputs j d below))

quiet_same : (n k : ℕ) (vars : List Var) (v : Var) (ts : List Transition) → All (IsTransition n k vars) ts → is_quiet (vars ++ v ∷ []) ts ≡ is_quiet vars ts
quiet_same n k vars v [] h = refl
quiet_same n k vars v (t ∷ ts) h =
    ap (λ (b : Bool). if b then is_quiet_output t.output else is_quiet (vars ++ v ∷ []) ts) (fits_more n k vars v t (All-head (IsTransition n k vars) t ts h))
    ∙ ap (λ (b : Bool). if fits_zero vars t then is_quiet_output t.output else b) (quiet_same n k vars v ts (All-tail (IsTransition n k vars) t ts h))

any_same : (n k : ℕ) (vars : List Var) (v : Var) (ts : List Transition) → All (IsTransition n k vars) ts → list_any (fits_zero (vars ++ v ∷ [])) ts
    ≡ list_any (fits_zero vars) ts
any_same n k vars v [] h = refl
any_same n k vars v (t ∷ ts) h =
    ap (λ (b : Bool). b || list_any (fits_zero (vars ++ v ∷ [])) ts) (fits_more n k vars v t (All-head (IsTransition n k vars) t ts h))
    ∙ ap (λ (b : Bool). fits_zero vars t || b) (any_same n k vars v ts (All-tail (IsTransition n k vars) t ts h))

-- a name that no variable has
none_named : (vars : List Var) (name : List ℕ) → variable_named vars name ≡ None → (i : ℕ) (x : Var) → slice_get vars i ≡ Some x → x.name ≢ name
none_named vars name none i x there same =
    let past : length vars ≤ position_or_len (λ (w : Var). bytes_eq w.name name) vars = ltb-false _ _
    (false_from_none (nat_lt (position_or_len (λ (w : Var). bytes_eq w.name name) vars) (length vars)) _ none) in
    let within : i < length vars = slice_get_within vars i x there in
    let fails : bytes_eq (get_or vars i x).name name ≡ false = fails_before_first (λ (w : Var). bytes_eq w.name name) vars i x (omega (arith, past, within)) in
    let at : get_or vars i x ≡ x = get_or_from_slice_get vars i x x there in
    let fails_here : bytes_eq x.name name ≡ false = ap (λ (w : Var). bytes_eq w.name name) (sym at) ∙ fails in
    let passes : bytes_eq x.name name ≡ true = (bytes_eq-Decides x.name name).1 same in
    let z : true ≡ false = sym passes ∙ fails_here in cc

abbrev AreApart : List Var → Type 0
AreApart vars = (i j : ℕ) (x y : Var) → i < j → slice_get vars i ≡ Some x → slice_get vars j ≡ Some y → x.name ≢ y.name

apart_more : (vars : List Var) (v : Var) → AreApart vars → variable_named vars v.name ≡ None → AreApart (vars ++ v ∷ [])
apart_more vars v apart none i j x y less a b same =
    let within : j < length (vars ++ v ∷ []) = slice_get_within (vars ++ v ∷ []) j y b in
    let size : length (vars ++ v ∷ []) ≡ length vars + 1 = length-append vars (v ∷ []) in
    let before : i < length vars = omega (arith, less, within, size) in
    let a' : slice_get vars i ≡ Some x = sym (get_more vars v i before) ∙ a in
    elim (eqb_tells j (length vars)) [
      | inl last ↦
          (let b' : Some v ≡ Some y = sym (get_last vars v j last.1) ∙ b in
          let e : v ≡ y = cc in
          none_named vars v.name none i x a' (same ∙ ap (λ (w : Var). w.name) (sym e)))
      | inr other ↦
          (let inside : j < length vars = omega (arith, within, size, other.1) in
          apart i j x y less a' (sym (get_more vars v j inside) ∙ b) same)
    ]

-- 2. What a number of states is

states_range : (word : List ℕ) (n : ℕ) → states_named word ≡ Some n → (2 ≤ n) × (n ≤ 256)
states_range word n h =
    let t = tested (nat_le 2 (value_of word)) (number_below 257 word) n h in
    let b = below_limit 257 word n t.1 in
    let least : 2 ≤ value_of word = grind (arith, t.0) in
    (omega (arith, b.0, least), omega (arith, b.1))

-- 3. One more line

-- a symmetry that is listed for the neighbourhood; the name and the section don't matter
good_with : (parsed : Parsed) (name : Option (List ℕ)) (section : Section) (symmetry : Option Symmetry) → IsGood parsed →
    ((h : Neighborhood) (y : Symmetry) → parsed.neighborhood ≡ Some h → symmetry ≡ Some y → IsTrue (is_listed h y)) →
    IsGood (record parsed { name = name; section = section; symmetry = symmetry })
good_with parsed name section symmetry g listed = record {
  states = g.states;
  listed = listed;
  names = g.names;
  variables = g.variables;
  no_variables = g.no_variables;
  no_transitions = g.no_transitions;
  none_without = g.none_without;
  transitions = g.transitions;
  quiet = g.quiet;
}

good_elsewhere : (parsed : Parsed) (name : Option (List ℕ)) (section : Section) → IsGood parsed → IsGood (record parsed { name = name; section = section })
good_elsewhere parsed name section g = good_with parsed name section parsed.symmetry g g.listed

good_states : (parsed : Parsed) (n : ℕ) (word : List ℕ) → IsGood parsed → parsed.n_states ≡ None → states_named word ≡ Some n
    → IsGood (parsed_after parsed (States n))
good_states parsed n word g none e =
    let range = states_range word n e in
    record {
      states = λ m is. (let same : n ≡ m = (let z : Some n ≡ Some m = is in cc) in (omega (arith, same, range.0), omega (arith, same, range.1)));
      listed = g.listed;
      names = g.names;
      variables = λ m is. subst (All (IsVariable m)) (sym (g.no_variables none)) (All-nil (IsVariable m));
      no_variables = λ is. absurd (let z : ⊥ = cc in z);
      no_transitions = λ is. absurd (let z : ⊥ = cc in z);
      none_without = g.none_without;
      transitions = λ m h is ih. subst (All (IsTransition m (neighbour_count h) parsed.vars)) (sym (g.no_transitions none))
          (All-nil (IsTransition m (neighbour_count h) parsed.vars));
      quiet = g.quiet;
    }

good_neighbors : (parsed : Parsed) (h : Neighborhood) → IsGood parsed → parsed.neighborhood ≡ None → agree (Some h) parsed.symmetry ≡ true
    → IsGood (parsed_after parsed (Neighbors h))
good_neighbors parsed h g none e = record {
  states = g.states;
  listed = λ k y ik iy. (let same : h ≡ k = (let z : Some h ≡ Some k = ik in cc) in
      subst (λ (k : Neighborhood). IsTrue (is_listed k y)) same (sym (ap (agree (Some h)) iy) ∙ e));
  names = g.names;
  variables = g.variables;
  no_variables = g.no_variables;
  no_transitions = g.no_transitions;
  none_without = λ is. absurd (let z : ⊥ = cc in z);
  transitions = λ m k is ik. subst (All (IsTransition m (neighbour_count k) parsed.vars)) (sym (g.none_without none))
      (All-nil (IsTransition m (neighbour_count k) parsed.vars));
  quiet = g.quiet;
}

good_orders : (parsed : Parsed) (y : Symmetry) → IsGood parsed → agree parsed.neighborhood (Some y) ≡ true → IsGood (parsed_after parsed (Orders y))
good_orders parsed y g e = good_with parsed parsed.name parsed.section (Some y) g (λ k z ik iz.
    let same : y ≡ z = (let w : Some y ≡ Some z = iz in cc) in
    subst (λ (z : Symmetry). IsTrue (is_listed k z)) same (sym (ap (λ (o : Option Neighborhood). agree o (Some y)) ik) ∙ e))

module _ (parsed : Parsed) (n : ℕ) (h : Neighborhood) (g : IsGood parsed) (en : parsed.n_states ≡ Some n) (eh : parsed.neighborhood ≡ Some h) where
  good_variable : (text : List ℕ) (var : Var) → IsVariable n var → variable_named parsed.vars var.name ≡ None → IsGood (parsed_after parsed (Variable var))
  good_variable text var is none = record {
    states = g.states;
    listed = g.listed;
    names = apart_more parsed.vars var g.names none;
    variables = λ m im. (let same : n ≡ m = (let z : Some n ≡ Some m = sym en ∙ im in cc) in
        subst (λ (m : ℕ). All (IsVariable m) (parsed.vars ++ var ∷ [])) same (All-push (IsVariable n) parsed.vars var (g.variables n en) is));
    no_variables = λ im. absurd (let z : Some n ≡ None = sym en ∙ im in let w : ⊥ = cc in w);
    no_transitions = g.no_transitions;
    none_without = g.none_without;
    transitions = λ m k im ik. λ j d below. transition_more m (neighbour_count k) parsed.vars var (get_or parsed.lines j d) (g.transitions m k im ik j d below);
    quiet = quiet_same n (neighbour_count h) parsed.vars var parsed.lines (g.transitions n h en eh) ∙ g.quiet;
  }

  good_line : (t : Transition) → IsTransition n (neighbour_count h) parsed.vars t → is_quiet parsed.vars (parsed.lines ++ t ∷ []) ≡ true
      → IsGood (parsed_after parsed (Line t))
  good_line t is quiet = record {
    states = g.states;
    listed = g.listed;
    names = g.names;
    variables = g.variables;
    no_variables = g.no_variables;
    no_transitions = λ im. absurd (let z : Some n ≡ None = sym en ∙ im in let w : ⊥ = cc in w);
    none_without = λ ik. absurd (let z : Some h ≡ None = sym eh ∙ ik in let w : ⊥ = cc in w);
    transitions = λ m k im ik.
        (let same_n : n ≡ m = (let z : Some n ≡ Some m = sym en ∙ im in cc) in
        let same_h : h ≡ k = (let z : Some h ≡ Some k = sym eh ∙ ik in cc) in
        subst (λ (m : ℕ). All (IsTransition m (neighbour_count k) parsed.vars) (parsed.lines ++ t ∷ [])) same_n
        (subst (λ (k : Neighborhood). All (IsTransition n (neighbour_count k) parsed.vars) (parsed.lines ++ t ∷ [])) same_h
        (All-push (IsTransition n (neighbour_count h) parsed.vars) parsed.lines t (g.transitions n h en eh) is)));
    quiet = quiet;
  }

good_says : (parsed : Parsed) (number : ℕ) (text : List ℕ) (directive : Directive) → IsGood parsed → Says parsed number text directive
    → IsGood (parsed_after parsed directive)
good_says parsed number text directive g (states d k none n e is) = subst (λ (t : Directive). IsGood (parsed_after parsed t)) (sym is)
    (good_states parsed n (setting_of text) g none e)
good_says parsed number text directive g (neighbors d s k none h e agrees is) = subst (λ (t : Directive). IsGood (parsed_after parsed t)) (sym is)
    (good_neighbors parsed h g none agrees)
good_says parsed number text directive g (orders d s m k none y e agrees is) = subst (λ (t : Directive). IsGood (parsed_after parsed t)) (sym is)
    (good_orders parsed y g agrees)
good_says parsed number text directive g (variable d n h y en eh ey v var e is) =
    let w = is_variable_written n (g.states n en).1 parsed.vars (g.variables n en) text var e in
    subst (λ (t : Directive). IsGood (parsed_after parsed t)) (sym is) (good_variable parsed n h g en eh text var w.0 w.1)
good_says parsed number text directive g (transition d n h y en eh ey v t e bound quiet is) =
    subst (λ (t : Directive). IsGood (parsed_after parsed t)) (sym is)
    (good_line parsed n h g en eh t (is_transition n (neighbour_count h) parsed.vars number text t e bound) quiet)

pub good_more : (parsed : Parsed) (number : ℕ) (line : List ℕ) (directive : Directive) → IsGood parsed → Case parsed number line directive
    → IsGood (parsed_after parsed directive)
good_more parsed number line directive g (passed s n p is) = subst (λ (t : Directive). IsGood (parsed_after parsed t)) (sym is) g
good_more parsed number line directive g (named s n p name e is) = subst (λ (t : Directive). IsGood (parsed_after parsed t)) (sym is)
    (good_elsewhere parsed (Some name) parsed.section g)
good_more parsed number line directive g (ahead s name n p is) = subst (λ (t : Directive). IsGood (parsed_after parsed t)) (sym is) g
good_more parsed number line directive g (opens s name n p is) = subst (λ (t : Directive). IsGood (parsed_after parsed t)) (sym is)
    (good_elsewhere parsed parsed.name Open g)
good_more parsed number line directive g (ends s l d is) = subst (λ (t : Directive). IsGood (parsed_after parsed t)) (sym is)
    (good_elsewhere parsed parsed.name Behind g)
good_more parsed number line directive g (silent s l e is) = subst (λ (t : Directive). IsGood (parsed_after parsed t)) (sym is) g
good_more parsed number line directive g (says s l e more) = good_says parsed number (line_content line) directive g more
good_more parsed number line directive g (behind s is) = subst (λ (t : Directive). IsGood (parsed_after parsed t)) (sym is) g

pub good_start : IsGood nothing_parsed
good_start = record {
  states = λ n is. absurd (let z : ⊥ = cc in z);
  listed = λ n s is. absurd (let z : ⊥ = cc in z);
  names = λ i j x y less a. absurd (let within : i < 0 = slice_get_within [] i x a in omega (arith, within));
  variables = λ n is. absurd (let z : ⊥ = cc in z);
  no_variables = λ is. refl;
  no_transitions = λ is. refl;
  none_without = λ is. refl;
  transitions = λ n h is. absurd (let z : ⊥ = cc in z);
  quiet = refl;
}

-- what is said makes a table
pub sound_of : (parsed : Parsed) → IsGood parsed → (n : ℕ) (h : Neighborhood) (y : Symmetry) → parsed.n_states ≡ Some n → parsed.neighborhood ≡ Some h
    → parsed.symmetry ≡ Some y
    → IsSoundTable n h y parsed.vars parsed.lines
sound_of parsed g n h y en eh ey = record {
  least = (g.states n en).0;
  most = (g.states n en).1;
  listed = g.listed h y eh ey;
  names = g.names;
  variables = g.variables n en;
  transitions = g.transitions n h en eh;
  quiet = g.quiet;
}

-- what the reader keeps

kept_most : (o : Option ℕ) → ((n : ℕ) → o ≡ Some n → (2 ≤ n) × (n ≤ 256)) → IfSome o (λ n. n ≤ 256)
kept_most None f = tt
kept_most (Some n) f = (f n refl).1

-- a line fits zeros after a directive where the reader says so
abbrev StaysFit : Parsed → Bool → Directive → Type 0
StaysFit parsed fit directive = fits_after fit parsed.vars directive
    ≡ list_any (fits_zero (parsed_after parsed directive).vars) (parsed_after parsed directive).lines

fits_says : (parsed : Parsed) (number : ℕ) (text : List ℕ) (directive : Directive) (fit : Bool) → IsGood parsed
    → fit ≡ list_any (fits_zero parsed.vars) parsed.lines → Says parsed number text directive
    → StaysFit parsed fit directive
fits_says parsed number text directive fit g f (states d k none n e is) = subst (StaysFit parsed fit) (sym is) f
fits_says parsed number text directive fit g f (neighbors d s k none h e agrees is) = subst (StaysFit parsed fit) (sym is) f
fits_says parsed number text directive fit g f (orders d s m k none y e agrees is) = subst (StaysFit parsed fit) (sym is) f
fits_says parsed number text directive fit g f (variable d n h y en eh ey v var e is) = subst (StaysFit parsed fit) (sym is)
    (f ∙ sym (any_same n (neighbour_count h) parsed.vars var parsed.lines (g.transitions n h en eh)))
fits_says parsed number text directive fit g f (transition d n h y en eh ey v t e bound quiet is) = subst (StaysFit parsed fit) (sym is)
    (ap (λ (b : Bool). b || fits_zero parsed.vars t) f ∙ sym (any_more (fits_zero parsed.vars) parsed.lines t))

fits_case : (parsed : Parsed) (number : ℕ) (line : List ℕ) (directive : Directive) (fit : Bool) → IsGood parsed
    → fit ≡ list_any (fits_zero parsed.vars) parsed.lines → Case parsed number line directive
    → StaysFit parsed fit directive
fits_case parsed number line directive fit g f (passed s n p is) = subst (StaysFit parsed fit) (sym is) f
fits_case parsed number line directive fit g f (named s n p name e is) = subst (StaysFit parsed fit) (sym is) f
fits_case parsed number line directive fit g f (ahead s name n p is) = subst (StaysFit parsed fit) (sym is) f
fits_case parsed number line directive fit g f (opens s name n p is) = subst (StaysFit parsed fit) (sym is) f
fits_case parsed number line directive fit g f (ends s l d is) = subst (StaysFit parsed fit) (sym is) f
fits_case parsed number line directive fit g f (silent s l e is) = subst (StaysFit parsed fit) (sym is) f
fits_case parsed number line directive fit g f (says s l e more) = fits_says parsed number (line_content line) directive fit g f more
fits_case parsed number line directive fit g f (behind s is) = subst (StaysFit parsed fit) (sym is) f

pub kept_start : IsKeptParse nothing_parsed false
kept_start = record { most = tt; fits = refl; quiet = refl }

pub kept_more : (parsed : Parsed) (number : ℕ) (line : List ℕ) (directive : Directive) (fit : Bool) → IsGood parsed → IsKeptParse parsed fit
    → Case parsed number line directive
    → IsKeptParse (parsed_after parsed directive) (fits_after fit parsed.vars directive)
kept_more parsed number line directive fit g k case =
    let next = good_more parsed number line directive g case in
    record {
      most = kept_most (parsed_after parsed directive).n_states next.states;
      fits = fits_case parsed number line directive fit g k.fits case;
      quiet = next.quiet;
    }
