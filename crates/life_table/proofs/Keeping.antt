-- What descriptors and variables say is kept.
use Rattle.std.proofs.Common.{◌≡◌, ℕ, List, [], ◌∷◌, ◌++◌, map, Bool, true, false, not, refl, ap, sym, ◌∙◌, ◌⊎◌, inl, inr, Option, Some, None, if◌then◌else◌, option_map, option_and_then, All, slice_get, filter, append-nil}
use Rattle.std.proofs.lemmas.List.{map-append}
use Rattle.std.proofs.lemmas.List.Elements.{All-push, All-weaker, All-head, All-tail, filter-append}
use Rattle.std.proofs.lemmas.Option.{slice_get_within}
use Rattle.std.proofs.lemmas.Bool.{and_right}
use Rattle.life_table.specs.Reading.{NumberedLine, all_some, is_descriptor, key_of, setting_of, is_states_key, is_neighborhood_key, is_symmetry_key, states_named, neighborhood_named, symmetry_named, is_variable_line, entry_of, states_of_entry, states_listed, between_commas, within_braces, variable_name, list_text, variable_states, variable_of, union_of}
use Rattle.life_table.specs.Laws.{is_variable_text, variable_on}
use Rattle.life_table.specs.declared.table.Neighborhood.{Neighborhood}
use Rattle.life_table.specs.declared.table.Symmetry.{Symmetry}
use Rattle.life_table.specs.declared.table.Var.{Var}
use Rattle.life_table.specs.declared.table.Entry.{Entry}
use Rattle.life_table.specs.declared.table.Entry.TheVariants as entries
use Rattle.life_table.proofs.Texts.{mapped, followed, some_kept, entry_kept, AreDescriptors}
use Rattle.life_table.proofs.Values.{set_named, states_case}
use Rattle.life_table.proofs.Good.{get_more}

-- 1. Descriptors

-- what a descriptor gives is known
abbrev pub Settled : Option ℕ → Option Neighborhood → Option Symmetry → List ℕ → Type 0
Settled on oh oy text =
    ((is_states_key (key_of text) ≡ true) × (n : ℕ) × (states_named (setting_of text) ≡ Some n) × (on ≡ Some n))
    ⊎ (((is_neighborhood_key (key_of text) ≡ true) × (h : Neighborhood) × (neighborhood_named (setting_of text) ≡ Some h) × (oh ≡ Some h))
    ⊎ ((is_symmetry_key (key_of text) ≡ true) × (y : Symmetry) × (symmetry_named (setting_of text) ≡ Some y) × (oy ≡ Some y)))

abbrev pub AreSettled : Option ℕ → Option Neighborhood → Option Symmetry → List NumberedLine → Type 0
AreSettled on oh oy ts = All (λ (t : NumberedLine). is_descriptor t.1 ≡ true → Settled on oh oy t.1) ts

-- what is there stays
abbrev pub Stays : {X : Type 0} → Option X → Option X → Type 0
Stays {X} o p = (x : X) → o ≡ Some x → p ≡ Some x

pub stays_same : {X : Type 0} (o p : Option X) → p ≡ o → Stays o p
stays_same o p e x h = e ∙ h

pub stays_none : {X : Type 0} (o p : Option X) → o ≡ None → Stays o p
stays_none o p e x h = absurd (let z : None ≡ Some x = sym e ∙ h in let w : ⊥ = cc in w)

module _ (on on' : Option ℕ) (oh oh' : Option Neighborhood) (oy oy' : Option Symmetry) (n : Stays on on') (h : Stays oh oh') (y : Stays oy oy') where
  settled_kept : (text : List ℕ) → Settled on oh oy text → Settled on' oh' oy' text
  settled_kept text (inl s) = inl (s.0, s.1, s.2, n s.1 s.3)
  settled_kept text (inr (inl s)) = inr (inl (s.0, s.1, s.2, h s.1 s.3))
  settled_kept text (inr (inr s)) = inr (inr (s.0, s.1, s.2, y s.1 s.3))

  all_kept : (ts : List NumberedLine) → AreSettled on oh oy ts → AreSettled on' oh' oy' ts
  all_kept = All-weaker (λ (t : NumberedLine). is_descriptor t.1 ≡ true → Settled on oh oy t.1) (λ t. is_descriptor t.1 ≡ true → Settled on' oh' oy' t.1)
      (λ t s d. settled_kept t.1 (s d))

  pub settled_more : (ts : List NumberedLine) (x : NumberedLine) → AreSettled on oh oy ts → (is_descriptor x.1 ≡ true → Settled on' oh' oy' x.1)
      → AreSettled on' oh' oy' (ts ++ x ∷ [])
  settled_more ts x a s = All-push (λ (t : NumberedLine). is_descriptor t.1 ≡ true → Settled on' oh' oy' t.1) ts x (all_kept ts a) s

-- 2. One more variable changes no list of states that was read

module _ (n : ℕ) (vars : List Var) (v : Var) where
  entry_states : (e : Entry) (states : List ℕ) → states_of_entry vars e ≡ Some states → states_of_entry (vars ++ v ∷ []) e ≡ Some states
  entry_states (entries.Fixed s) states h = h
  entry_states (entries.Var i) states h =
      let m = mapped (λ (var : Var). var.states) (slice_get vars i) states h in
      ap (option_map (λ (var : Var). var.states)) (get_more vars v i (slice_get_within vars i m.0 m.1) ∙ m.1) ∙ ap Some (sym m.2)

  word_states : (word states : List ℕ) → set_named n vars word ≡ Some states → set_named n (vars ++ v ∷ []) word ≡ Some states
  word_states word states h =
      let f = followed (states_of_entry vars) (entry_of n vars word) states h in
      ap (option_and_then (states_of_entry (vars ++ v ∷ []))) (entry_kept n vars v word f.0 f.1) ∙ entry_states f.0 states f.2

  pub list_kept : (text states : List ℕ) → states_listed n vars text ≡ Some states → states_listed n (vars ++ v ∷ []) text ≡ Some states
  unfolding states_listed
  list_kept text states h =
      let m = mapped union_of (all_some (map (set_named n vars) (between_commas text))) states h in
      ap (option_map union_of) (some_kept (set_named n vars) (set_named n (vars ++ v ∷ [])) word_states (between_commas text) m.0 m.1) ∙ ap Some (sym m.2)

-- 3. Variables

abbrev pub directive : Var → List ℕ × Option (List ℕ)
directive var = (var.name, Some var.states)

abbrev pub variable_texts : List NumberedLine → List NumberedLine
variable_texts ts = filter (λ (text : NumberedLine). is_variable_text text.1) ts

abbrev pub on_lines : ℕ → List Var → List NumberedLine → List (List ℕ × Option (List ℕ))
on_lines n vars ts = map (λ (text : NumberedLine). variable_on n vars text.1) ts

-- each line of a variable gives one, with its name and its states
abbrev pub AreVariables : ℕ → List Var → List NumberedLine → Type 0
AreVariables n vars ts = map directive vars ≡ on_lines n vars (variable_texts ts)

same_pair : (a b : List ℕ) (o p : Option (List ℕ)) → a ≡ b → o ≡ p → (let q : List ℕ × Option (List ℕ) = (a, o) in q) ≡ (b, p)
same_pair a b o p e f = cc

on_lines_kept : (n : ℕ) (vars : List Var) (v : Var) (some : List Var) (ts : List NumberedLine) → map directive some ≡ on_lines n vars ts
    → map directive some ≡ on_lines n (vars ++ v ∷ []) ts
on_lines_kept n vars v [] [] h = refl
on_lines_kept n vars v [] (t ∷ ts) h = absurd (let z : ⊥ = cc in z)
on_lines_kept n vars v (w ∷ some) [] h = absurd (let z : ⊥ = cc in z)
on_lines_kept n vars v (w ∷ some) (t ∷ ts) h =
    let first : directive w ≡ variable_on n vars t.1 = cc in
    let rest : map directive some ≡ on_lines n vars ts = cc in
    let name : w.name ≡ variable_name t.1 = ap (λ (p : List ℕ × Option (List ℕ)). p.0) first in
    let states : Some w.states ≡ states_listed n vars (within_braces (list_text t.1)) = ap (λ (p : List ℕ × Option (List ℕ)). p.1) first in
    let kept : states_listed n (vars ++ v ∷ []) (within_braces (list_text t.1)) ≡ Some w.states = list_kept n vars v (within_braces (list_text t.1)) w.states
    (sym states) in
    let head : directive w ≡ variable_on n (vars ++ v ∷ []) t.1 = same_pair w.name (variable_name t.1) (Some w.states)
    (states_listed n (vars ++ v ∷ []) (within_braces (list_text t.1))) name (sym kept) in
    ap (λ (p : List ℕ × Option (List ℕ)). p ∷ map directive some) head
    ∙ ap (λ (ps : List (List ℕ × Option (List ℕ))). variable_on n (vars ++ v ∷ []) t.1 ∷ ps) (on_lines_kept n vars v some ts rest)

written_parts : (n : ℕ) (vars : List Var) (text : List ℕ) (var : Var) → variable_of n vars text ≡ Some var
    → (var.name ≡ variable_name text) × (states_listed n vars (within_braces (list_text text)) ≡ Some var.states)
unfolding variable_of
written_parts n vars text var h =
    let m = mapped (λ (states : List ℕ). record { name = variable_name text; states = states }) (variable_states n vars (variable_name text) (list_text text))
    var h in
    let s = states_case n vars (variable_name text) (list_text text) m.0 m.1 in
    (ap (λ (v : Var). v.name) m.2, s.1 ∙ ap Some (sym (ap (λ (v : Var). v.states) m.2)))

one_text : (x : NumberedLine) (b : Bool) → is_variable_text x.1 ≡ b → variable_texts (x ∷ []) ≡ (if b then x ∷ [] else [])
one_text x b e = ap (λ (c : Bool). if c then x ∷ [] else []) e

texts_more : (ts : List NumberedLine) (x : NumberedLine) (b : Bool) → is_variable_text x.1 ≡ b → variable_texts (ts ++ x ∷ []) ≡ variable_texts ts
    ++ (if b then x ∷ [] else [])
texts_more ts x b e = filter-append (λ (text : NumberedLine). is_variable_text text.1) ts (x ∷ [])
    ∙ ap (λ (us : List NumberedLine). variable_texts ts ++ us) (one_text x b e)

pub variables_same : (n : ℕ) (vars : List Var) (ts : List NumberedLine) (x : NumberedLine) → AreVariables n vars ts → is_variable_text x.1 ≡ false
    → AreVariables n vars (ts ++ x ∷ [])
variables_same n vars ts x a e = a ∙ ap (on_lines n vars) (sym (texts_more ts x false e ∙ append-nil (variable_texts ts)))

pub variables_new : (n : ℕ) (vars : List Var) (v : Var) (ts : List NumberedLine) (x : NumberedLine) → AreVariables n vars ts → is_variable_text x.1 ≡ true
    → variable_of n vars x.1 ≡ Some v
    → AreVariables n (vars ++ v ∷ []) (ts ++ x ∷ [])
variables_new n vars v ts x a e w =
    let p = written_parts n vars x.1 v w in
    let states : states_listed n (vars ++ v ∷ []) (within_braces (list_text x.1)) ≡ Some v.states = list_kept n vars v (within_braces (list_text x.1)) v.states
    p.1 in
    let new : directive v ≡ variable_on n (vars ++ v ∷ []) x.1 = same_pair v.name (variable_name x.1) (Some v.states)
    (states_listed n (vars ++ v ∷ []) (within_braces (list_text x.1))) p.0 (sym states) in
    map-append directive vars (v ∷ [])
    ∙ ap (λ (us : List (List ℕ × Option (List ℕ))). us ++ directive v ∷ []) (on_lines_kept n vars v vars (variable_texts ts) a)
    ∙ ap (λ (u : List ℕ × Option (List ℕ)). on_lines n (vars ++ v ∷ []) (variable_texts ts) ++ u ∷ []) new
    ∙ sym (map-append (λ (text : NumberedLine). variable_on n (vars ++ v ∷ []) text.1) (variable_texts ts) (x ∷ []))
    ∙ ap (on_lines n (vars ++ v ∷ [])) (sym (texts_more ts x true e))

-- descriptors are no variables
no_texts : (ts : List NumberedLine) → AreDescriptors ts → variable_texts ts ≡ []
no_texts [] h = refl
no_texts (t ∷ ts) h =
    let d = All-head (λ (u : NumberedLine). is_descriptor u.1 ≡ true) t ts h in
    ap (λ (b : Bool). if b then t ∷ variable_texts ts else variable_texts ts) (and_right (is_variable_line t.1) (not (is_descriptor t.1)) (ap not d))
    ∙ no_texts ts (All-tail (λ (u : NumberedLine). is_descriptor u.1 ≡ true) t ts h)

pub variables_none : (n : ℕ) (vars : List Var) (ts : List NumberedLine) → AreDescriptors ts → vars ≡ [] → AreVariables n vars ts
variables_none n vars ts d e = ap (map directive) e ∙ sym (ap (on_lines n vars) (no_texts ts d))
