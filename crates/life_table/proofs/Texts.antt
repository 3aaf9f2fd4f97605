-- One more text of the table: what it changes of what is said.
use Rattle.std.proofs.Common.{◌≡◌, ℕ, ◌+◌, ◌<◌, List, [], ◌∷◌, ◌++◌, map, length, Bool, true, false, not, refl, ap, sym, ◌∙◌, ◌&&◌, arith, cond, eqb, length-append, ltb-true, lt-ltb, Option, Some, None, if◌then◌else◌, option_map, option_and_then, option_to_list, All, nat_lt, bytes_eq}
use Rattle.std.proofs.lemmas.Bool.{and_right}
use Rattle.std.specs.List.{fold, position_or_len, position, cons_option}
use Rattle.std.proofs.lemmas.List.Folds.{position_or_len_push}
use Rattle.std.proofs.lemmas.List.Sums.{fold-append}
use Rattle.std.proofs.lemmas.List.Elements.{All-nil, All-cons, All-head, All-tail, All-weaker, filter_map-append}
use Rattle.std.proofs.lemmas.Option.{cond_some}
use Rattle.std.proofs.lemmas.List.{map-append}
use Rattle.life_base.specs.Text.{is_digit_text}
use Rattle.life_table.specs.Valid.{neighbour_count}
use Rattle.life_table.specs.Reading.{NumberedLine, texts_of_lines, first_some, value_by, describes_by, is_descriptor, key_of, setting_of, is_variable_line, variable_of, variables_written, variables_in, is_transition_line, transition_of, transition_from, entries_of, entry_of, all_some, transition_words, transitions_written, transitions_in, variable_named, number_below}
use Rattle.life_table.specs.declared.table.Neighborhood.{Neighborhood}
use Rattle.life_table.specs.declared.table.Var.{Var}
use Rattle.life_table.specs.declared.table.Entry.{Entry}
use Rattle.life_table.specs.declared.table.Entry.TheVariants as entries
use Rattle.life_table.specs.declared.table.Transition.{Transition}

-- 1. Settings

abbrev pub or_new : {X : Type 0} → Option X → Option X → Option X
or_new None o = o
or_new (Some x) o = Some x

module _ {X : Type 0} (f : List ℕ → Option X) where
  first_end : (o : Option X) → first_some (o ∷ []) ≡ o
  first_end None = refl
  first_end (Some x) = refl

  pub first_more : (ts : List NumberedLine) (x : NumberedLine) → first_some (map f (texts_of_lines (ts ++ x ∷ [])))
      ≡ or_new (first_some (map f (texts_of_lines ts))) (f x.1)
  first_more [] x = first_end (f x.1)
  first_more (t ∷ ts) x = first_again (f t.1) (first_some (map f (texts_of_lines (ts ++ x ∷ [])))) (first_some (map f (texts_of_lines ts))) (f x.1)
      (map f (texts_of_lines (ts ++ x ∷ []))) (map f (texts_of_lines ts)) refl refl (first_more ts x)
    where
      first_again : (o l r new : Option X) (ls rs : List (Option X)) → first_some ls ≡ l → first_some rs ≡ r → l ≡ or_new r new
          → first_some (o ∷ ls) ≡ or_new (first_some (o ∷ rs)) new
      first_again None l r new ls rs el er e = el ∙ e ∙ ap (λ (q : Option X). or_new q new) (sym er)
      first_again (Some y) l r new ls rs el er e = refl

or_nothing : {X : Type 0} (o : Option X) → or_new o None ≡ o
or_nothing None = refl
or_nothing (Some x) = refl

-- the value of a text that is no such descriptor
pub value_none : {X : Type 0} (is_key : List ℕ → Bool) (named : List ℕ → Option X) (text : List ℕ) → describes_by is_key text ≡ false
    → value_by is_key named text ≡ None
value_none is_key named text e = ap (λ (b : Bool). if b then named (setting_of text) else None) e

pub value_some : {X : Type 0} (is_key : List ℕ → Bool) (named : List ℕ → Option X) (text : List ℕ) → describes_by is_key text ≡ true
    → value_by is_key named text ≡ named (setting_of text)
value_some is_key named text e = ap (λ (b : Bool). if b then named (setting_of text) else None) e

pub other_key : (is_key : List ℕ → Bool) (text : List ℕ) → is_key (key_of text) ≡ false → describes_by is_key text ≡ false
other_key is_key text e = and_right (is_descriptor text) (is_key (key_of text)) e

pub this_key : (is_key : List ℕ → Bool) (text : List ℕ) → is_descriptor text ≡ true → is_key (key_of text) ≡ true → describes_by is_key text ≡ true
this_key is_key text d e = ap (λ (b : Bool). b && is_key (key_of text)) d ∙ e

pub no_descriptor : (is_key : List ℕ → Bool) (text : List ℕ) → is_descriptor text ≡ false → describes_by is_key text ≡ false
no_descriptor is_key text d = ap (λ (b : Bool). b && is_key (key_of text)) d

module _ {X : Type 0} (is_key : List ℕ → Bool) (named : List ℕ → Option X) (ts : List NumberedLine) (x : NumberedLine) where
  abbrev value_in : List NumberedLine → Option X
  value_in qs = first_some (map (value_by is_key named) (texts_of_lines qs))

  pub setting_same : describes_by is_key x.1 ≡ false → value_in (ts ++ x ∷ []) ≡ value_in ts
  setting_same e = first_more (value_by is_key named) ts x ∙ ap (or_new (value_in ts)) (value_none is_key named x.1 e) ∙ or_nothing (value_in ts)

  pub setting_new : describes_by is_key x.1 ≡ true → value_in ts ≡ None → value_in (ts ++ x ∷ []) ≡ named (setting_of x.1)
  setting_new e n = first_more (value_by is_key named) ts x ∙ ap (λ (o : Option X). or_new o (value_by is_key named x.1)) n ∙ value_some is_key named x.1 e

-- 2. Variables

abbrev pub written : ℕ → List Var → List ℕ → List Var
written n vars text = if is_variable_line text && not (is_descriptor text) then option_to_list (variable_of n vars text) else []

texts_more : (ts : List NumberedLine) (x : NumberedLine) → texts_of_lines (ts ++ x ∷ []) ≡ texts_of_lines ts ++ x.1 ∷ []
texts_more ts x = map-append (λ (text : NumberedLine). text.1) ts (x ∷ [])

pub variables_more : (n : ℕ) (ts : List NumberedLine) (x : NumberedLine)
    → variables_written n (texts_of_lines (ts ++ x ∷ [])) ≡ variables_written n (texts_of_lines ts) ++ written n (variables_written n (texts_of_lines ts)) x.1
variables_more n ts x =
    ap (variables_written n) (texts_more ts x)
    ∙ fold-append (λ (vars : List Var) (text : List ℕ). vars ++ written n vars text) [] (texts_of_lines ts) (x.1 ∷ [])

-- 3. Transitions

abbrev pub on_line : ℕ → ℕ → List Var → NumberedLine → Option Transition
on_line n k vars text = if is_transition_line text.1 then transition_of n k vars text.0 text.1 else None

pub transitions_more : (n k : ℕ) (vars : List Var) (ts : List NumberedLine) (x : NumberedLine)
    → transitions_written n k vars (ts ++ x ∷ []) ≡ transitions_written n k vars ts ++ cons_option (on_line n k vars x) []
transitions_more n k vars ts x = filter_map-append (on_line n k vars) ts (x ∷ [])

-- 4. One more variable changes no entry that was read

-- what an option that is there came from
pub mapped : {X Y : Type 0} (f : X → Y) (o : Option X) (y : Y) → option_map f o ≡ Some y → (x : X) × (o ≡ Some x) × (y ≡ f x)
mapped f None y h = absurd (let z : ⊥ = cc in z)
mapped f (Some x) y h = (x, refl, (let e : Some (f x) ≡ Some y = h in cc))

pub followed : {X Y : Type 0} (f : X → Option Y) (o : Option X) (y : Y) → option_and_then f o ≡ Some y → (x : X) × (o ≡ Some x) × (f x ≡ Some y)
followed f None y h = absurd (let z : ⊥ = cc in z)
followed f (Some x) y h = (x, refl, h)

position_kept : (p : Var → Bool) (vars : List Var) (v : Var) (i : ℕ) → position p vars ≡ Some i → position p (vars ++ v ∷ []) ≡ Some i
position_kept p vars v i h =
    let w = cond_some (nat_lt (position_or_len p vars) (length vars)) (position_or_len p vars) i h in
    let below : position_or_len p vars < length vars = ltb-true _ _ w.0 in
    let apart : eqb (position_or_len p vars) (length vars) ≡ false = grind (arith, below) in
    let same : position_or_len p (vars ++ v ∷ []) ≡ position_or_len p vars =
    position_or_len_push p vars v ∙ ap (λ (b : Bool). cond b (length vars + cond (p v) 0 1) (position_or_len p vars)) apart in
    let longer : length (vars ++ v ∷ []) ≡ length vars + 1 = length-append vars (v ∷ []) in
    let within : nat_lt (position_or_len p (vars ++ v ∷ [])) (length (vars ++ v ∷ [])) ≡ true = lt-ltb _ _ (omega (arith, same, longer, below)) in
    ap (λ (b : Bool). cond b (Some (position_or_len p (vars ++ v ∷ []))) None) within ∙ ap Some (same ∙ w.1)

entry_by : (digits : Bool) (a o p : Option Entry) (e : Entry) → (o ≡ Some e → p ≡ Some e) → (if digits then a else o) ≡ Some e
    → (if digits then a else p) ≡ Some e
entry_by true a o p e f h = h
entry_by false a o p e f h = f h

pub entry_kept : (n : ℕ) (vars : List Var) (v : Var) (word : List ℕ) (e : Entry) → entry_of n vars word ≡ Some e → entry_of n (vars ++ v ∷ []) word ≡ Some e
unfolding entry_of
entry_kept n vars v word e h =
    entry_by (is_digit_text word) (option_map entries.Fixed (number_below n word)) (option_map entries.Var (variable_named vars word))
    (option_map entries.Var (variable_named (vars ++ v ∷ []) word)) e
    (λ (there : option_map entries.Var (variable_named vars word) ≡ Some e).
    let m = mapped entries.Var (variable_named vars word) e there in
    ap (option_map entries.Var) (position_kept (λ (w : Var). bytes_eq w.name word) vars v m.0 m.1) ∙ ap Some (sym m.2)) h

-- the first of the options is there, and the others are
pub split_some : {X : Type 0} (o : Option X) (os : List (Option X)) (xs : List X) → all_some (o ∷ os) ≡ Some xs → (x : X) × (rest : List X) × (o ≡ Some x)
    × (all_some os ≡ Some rest) × (xs ≡ x ∷ rest)
split_some None os xs h = absurd (let z : ⊥ = cc in z)
split_some (Some x) os xs h = split_again x (all_some os) xs h
  where
    split_again : {X : Type 0} (x : X) (r : Option (List X)) (xs : List X) → option_map (λ (ys : List X). x ∷ ys) r ≡ Some xs → (y : X) × (rest : List X)
        × (Some x ≡ Some y) × (r ≡ Some rest) × (xs ≡ y ∷ rest)
    split_again x None xs h = absurd (let z : ⊥ = cc in z)
    split_again {X} x (Some rest) xs h = (x, rest, refl, refl, (let g : Some (x ∷ rest) ≡ Some xs = h in cc))

-- what each word of a list gives stays, where what a word gives stays
pub some_kept : {W X : Type 0} (f g : W → Option X) → ((w : W) (x : X) → f w ≡ Some x → g w ≡ Some x) → (ws : List W) (xs : List X)
    → all_some (map f ws) ≡ Some xs → all_some (map g ws) ≡ Some xs
some_kept f g more [] xs h = h
some_kept {W} {X} f g more (w ∷ ws) xs h =
    let s = split_some (f w) (map f ws) xs h in
    ap (λ (o : Option X). all_some (o ∷ map g ws)) (more w s.0 s.2) ∙ ap (option_map (λ (ys : List X). s.0 ∷ ys)) (some_kept f g more ws s.1 s.3)
    ∙ ap Some (sym s.4)

pub entries_kept : (n : ℕ) (vars : List Var) (v : Var) (text : List ℕ) (es : List Entry) → entries_of n vars text ≡ Some es → entries_of n (vars ++ v ∷ []) text
    ≡ Some es
unfolding entries_of
entries_kept n vars v text es h = some_kept (entry_of n vars) (entry_of n (vars ++ v ∷ [])) (entry_kept n vars v) (transition_words text) es h

pub transition_kept : (n k : ℕ) (vars : List Var) (v : Var) (number : ℕ) (text : List ℕ) (t : Transition)
    → transition_of n k vars number text ≡ Some t → transition_of n k (vars ++ v ∷ []) number text ≡ Some t
unfolding transition_of
transition_kept n k vars v number text t h =
    let f = followed (transition_from k number) (entries_of n vars text) t h in
    ap (option_and_then (transition_from k number)) (entries_kept n vars v text f.0 f.1) ∙ f.2

-- each transition's line is read
abbrev pub IsRead : ℕ → ℕ → List Var → NumberedLine → Type 0
IsRead n k vars text = is_transition_line text.1 ≡ true → (t : Transition) × (transition_of n k vars text.0 text.1 ≡ Some t)

read_kept : (n k : ℕ) (vars : List Var) (v : Var) (text : NumberedLine) → IsRead n k vars text → IsRead n k (vars ++ v ∷ []) text
read_kept n k vars v text r = λ is. let s = r is in (s.0, transition_kept n k vars v text.0 text.1 s.0 s.1)

on_line_kept : (n k : ℕ) (vars : List Var) (v : Var) (b : Bool) (text : NumberedLine) → is_transition_line text.1 ≡ b → IsRead n k vars text
    → on_line n k (vars ++ v ∷ []) text ≡ on_line n k vars text
on_line_kept n k vars v false text e r = rw e refl
on_line_kept n k vars v true text e r =
    let s = r e in
    let a : on_line n k (vars ++ v ∷ []) text ≡ Some s.0 = rw e (transition_kept n k vars v text.0 text.1 s.0 s.1) in
    let b : on_line n k vars text ≡ Some s.0 = rw e s.1 in
    a ∙ sym b

pub transitions_kept : (n k : ℕ) (vars : List Var) (v : Var) (ts : List NumberedLine) → All (IsRead n k vars) ts
    → (transitions_written n k (vars ++ v ∷ []) ts ≡ transitions_written n k vars ts) × All (IsRead n k (vars ++ v ∷ [])) ts
transitions_kept n k vars v [] h = (refl, All-nil (IsRead n k (vars ++ v ∷ [])))
transitions_kept n k vars v (t ∷ ts) h =
    let head = All-head (IsRead n k vars) t ts h in
    let rest = transitions_kept n k vars v ts (All-tail (IsRead n k vars) t ts h) in (
      ap (λ (o : Option Transition). cons_option o (transitions_written n k (vars ++ v ∷ []) ts)) (on_line_kept n k vars v (is_transition_line t.1) t refl head)
          ∙ ap (cons_option (on_line n k vars t)) rest.0,
      All-cons (IsRead n k (vars ++ v ∷ [])) t ts (read_kept n k vars v t head) rest.1,
    )

-- 5. Before all settings are given

abbrev pub AreDescriptors : List NumberedLine → Type 0
AreDescriptors ts = All (λ (t : NumberedLine). is_descriptor t.1 ≡ true) ts

written_none : (n : ℕ) (vars : List Var) (text : List ℕ) → is_descriptor text ≡ true → written n vars text ≡ []
written_none n vars text e = ap (λ (b : Bool). if b then option_to_list (variable_of n vars text) else [])
    (and_right (is_variable_line text) (not (is_descriptor text)) (ap not e))

no_variables_from : (n : ℕ) (ts : List NumberedLine) → AreDescriptors ts
    → fold (λ (vars : List Var) (text : List ℕ). vars ++ written n vars text) [] (texts_of_lines ts)
    ≡ []
no_variables_from n [] h = refl
no_variables_from n (t ∷ ts) h =
    let first : [] ++ written n [] t.1 ≡ [] = written_none n [] t.1 (All-head (λ (u : NumberedLine). is_descriptor u.1 ≡ true) t ts h) in
    ap (λ (vars : List Var). fold (λ (vs : List Var) (text : List ℕ). vs ++ written n vs text) vars (texts_of_lines ts)) first
    ∙ no_variables_from n ts (All-tail (λ (u : NumberedLine). is_descriptor u.1 ≡ true) t ts h)

pub no_variables : (on : Option ℕ) (ts : List NumberedLine) → AreDescriptors ts → variables_in on (texts_of_lines ts) ≡ []
no_variables None ts h = refl
no_variables (Some n) ts h = no_variables_from n ts h

no_transitions_written : (n k : ℕ) (vars : List Var) (ts : List NumberedLine) → AreDescriptors ts → transitions_written n k vars ts ≡ []
no_transitions_written n k vars [] h = refl
no_transitions_written n k vars (t ∷ ts) h =
    let d = All-head (λ (u : NumberedLine). is_descriptor u.1 ≡ true) t ts h in
    ap (λ (b : Bool). cons_option (if not b && not (is_variable_line t.1) then transition_of n k vars t.0 t.1 else None) (transitions_written n k vars ts)) d
    ∙ no_transitions_written n k vars ts (All-tail (λ (u : NumberedLine). is_descriptor u.1 ≡ true) t ts h)

pub no_transitions : (on : Option ℕ) (oh : Option Neighborhood) (vars : List Var) (ts : List NumberedLine) → AreDescriptors ts → transitions_in on oh vars ts
    ≡ []
no_transitions None oh vars ts h = refl
no_transitions (Some n) None vars ts h = refl
no_transitions (Some n) (Some h) vars ts d = no_transitions_written n (neighbour_count h) vars ts d

pub none_to_read : (n k : ℕ) (vars : List Var) (ts : List NumberedLine) → AreDescriptors ts → All (IsRead n k vars) ts
none_to_read n k vars = All-weaker (λ (t : NumberedLine). is_descriptor t.1 ≡ true) (IsRead n k vars) (λ t d is. absurd (
    let e : false ≡ true = sym (ap (λ (b : Bool). not b && not (is_variable_line t.1)) d) ∙ is in let z : ⊥ = cc in z))
