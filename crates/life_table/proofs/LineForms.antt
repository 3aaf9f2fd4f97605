-- What a text of the table is, and the tests by which it is read.
use Rattle.std.proofs.Common.{◌≡◌, inl, inr, ℕ, zero, suc, ◌+◌, ◌≤◌, List, [], ◌∷◌, ◌++◌, length, take, map, Bool, true, false, refl, sym, ap, subst, ◌∙◌, arith, lt-ltb, eq-eqb, eqb-true, Option, Some, None, if◌then◌else◌, is_some, nat_le, nat_lt, ◌==◌, ◌&&◌, bytes_eq, codes, slice_get, option_map, option_and_then, le-leb, leb-true, length-append, length-take-le}
use Rattle.std.specs.List.{AllZip}
use Rattle.std.proofs.lemmas.Bool.{and_from, and_parts, cases_Bool}
use Rattle.std.proofs.lemmas.Slice.Eq.{bytes_eq-Decides}
use Rattle.std.proofs.Math.Seq.{take-append_seam}
use Rattle.life_base.specs.Text.{is_digit_text, value_of}
use Rattle.life_table.specs.Grammar.{neighborhood_word, symmetry_word, IsVariableLine, IsTransitionLine}
use Rattle.life_table.specs.Reading.{states_named, number_below, neighborhood_named, symmetry_named, all_some, entry_of, entries_of, transition_words, transition_from, transition_of, is_descriptor, is_variable_line, is_variable_name, is_list, is_bound, list_text, variable_name, states_listed, variable_named, variable_of, variable_states, within_braces}
use Rattle.life_table.specs.declared.table.Entry.{Entry}
use Rattle.life_table.specs.declared.table.Neighborhood.{Neighborhood}
use Rattle.life_table.specs.declared.table.Neighborhood.TheVariants.{VonNeumann, Moore}
use Rattle.life_table.specs.declared.table.Symmetry.{Symmetry}
use Rattle.life_table.specs.declared.table.Symmetry.TheVariants.{Identity, Rotate4, Rotate4Reflect, ReflectHorizontal, Permute, Rotate8, Rotate8Reflect}
use Rattle.life_table.specs.declared.table.Transition.{Transition}
use Rattle.life_table.specs.declared.table.Var.{Var}
use Rattle.life_table.proofs.Cases.{then_part, else_part, not_some}
use Rattle.life_table.proofs.Texts.{mapped, followed, split_some}
use Rattle.life_table.proofs.Values.{tested, tested_not, below_limit}
use Rattle.life_base.proofs.Basics.{slice_get-last}

-- ---- tests that were taken

pub take_then : {X : Type 0} (b : Bool) (x y : X) → b ≡ true → (if b then x else y) ≡ x
take_then true x y e = refl
take_then false x y e = cc

pub take_else : {X : Type 0} (b : Bool) (x y : X) → b ≡ false → (if b then x else y) ≡ y
take_else true x y e = cc
take_else false x y e = refl

-- ---- the words of descriptors

pub states_are : (word : List ℕ) (n : ℕ) → is_digit_text word ≡ true → value_of word ≡ n → 2 ≤ n → n ≤ 256 → states_named word ≡ Some n
states_are word n d v l m =
    let low : nat_le 2 (value_of word) ≡ true = le-leb 2 (value_of word) (omega (arith, v, l)) in
    let high : nat_lt (value_of word) 257 ≡ true = lt-ltb (value_of word) 257 (omega (arith, v, m)) in
    take_then (nat_le 2 (value_of word)) (number_below 257 word) None low
    ∙ take_then (is_digit_text word && nat_lt (value_of word) 257) (Some (value_of word)) None
    (and_from (is_digit_text word) (nat_lt (value_of word) 257) d high)
    ∙ ap Some v

pub states_parsed : (word : List ℕ) (n : ℕ) → states_named word ≡ Some n → (is_digit_text word ≡ true) × (value_of word ≡ n) × (2 ≤ n) × (n ≤ 256)
states_parsed word n h =
    let a = tested (nat_le 2 (value_of word)) (number_below 257 word) n h in
    let b = tested (is_digit_text word && nat_lt (value_of word) 257) (Some (value_of word)) n a.1 in
    let c = below_limit 257 word n a.1 in
    let low : 2 ≤ value_of word = leb-true 2 (value_of word) a.0 in
    ((and_parts (is_digit_text word) (nat_lt (value_of word) 257) b.0).0, sym c.0, omega (arith, low, c.0), omega (arith, c.1))

-- a chain of words: the first that fits is what is meant
one_word : {X : Type 0} (word_of : X → List ℕ) (word own : List ℕ) (x : X) (rest : Option X) → own ≡ word_of x → ((y : X) → rest ≡ Some y → word ≡ word_of y)
    → (y : X) → (if bytes_eq word own then Some x else rest) ≡ Some y → word ≡ word_of y
one_word word_of word own x rest e more y h = elim (cases_Bool (bytes_eq word own)) [
  | inl does ↦
      let g : Some x ≡ Some y = then_part (bytes_eq word own) (Some x) rest (Some y) does h in
      let same : x ≡ y = cc in
      (bytes_eq-Decides word own).0 does ∙ e ∙ ap word_of same
  | inr does_not ↦ more y (else_part (bytes_eq word own) (Some x) rest (Some y) does_not h)
]

no_word : {X : Type 0} (word_of : X → List ℕ) (word : List ℕ) (y : X) → None ≡ Some y → word ≡ word_of y
no_word word_of word y h = absurd (let z : ⊥ = cc in z)

pub neighborhood_is : (h : Neighborhood) → neighborhood_named (neighborhood_word h) ≡ Some h
neighborhood_is VonNeumann = refl
neighborhood_is Moore = refl

pub neighborhood_parsed : (word : List ℕ) (h : Neighborhood) → neighborhood_named word ≡ Some h → word ≡ neighborhood_word h
neighborhood_parsed word =
    one_word neighborhood_word word (codes "vonNeumann") VonNeumann (if bytes_eq word (codes "Moore") then Some Moore else None) refl
    (one_word neighborhood_word word (codes "Moore") Moore None refl (no_word neighborhood_word word))

pub symmetry_is : (y : Symmetry) → symmetry_named (symmetry_word y) ≡ Some y
symmetry_is Identity = refl
symmetry_is Rotate4 = refl
symmetry_is Rotate4Reflect = refl
symmetry_is ReflectHorizontal = refl
symmetry_is Permute = refl
symmetry_is Rotate8 = refl
symmetry_is Rotate8Reflect = refl

pub symmetry_parsed : (word : List ℕ) (y : Symmetry) → symmetry_named word ≡ Some y → word ≡ symmetry_word y
symmetry_parsed word =
    let last : Option Symmetry = if bytes_eq word (codes "rotate8reflect") then Some Rotate8Reflect else None in
    let sixth : Option Symmetry = if bytes_eq word (codes "rotate8") then Some Rotate8 else last in
    let fifth : Option Symmetry = if bytes_eq word (codes "permute") then Some Permute else sixth in
    let fourth : Option Symmetry = if bytes_eq word (codes "reflect_horizontal") then Some ReflectHorizontal else fifth in
    let third : Option Symmetry = if bytes_eq word (codes "rotate4reflect") then Some Rotate4Reflect else fourth in
    let second : Option Symmetry = if bytes_eq word (codes "rotate4") then Some Rotate4 else third in
    one_word symmetry_word word (codes "none") Identity second refl
    (one_word symmetry_word word (codes "rotate4") Rotate4 third refl
    (one_word symmetry_word word (codes "rotate4reflect") Rotate4Reflect fourth refl
    (one_word symmetry_word word (codes "reflect_horizontal") ReflectHorizontal fifth refl
    (one_word symmetry_word word (codes "permute") Permute sixth refl
    (one_word symmetry_word word (codes "rotate8") Rotate8 last refl
    (one_word symmetry_word word (codes "rotate8reflect") Rotate8Reflect None refl (no_word symmetry_word word)))))))

-- ---- variables

abbrev new_var : List ℕ → List ℕ → Var
new_var states name = record { name = name; states = states }

module _ (n : ℕ) (vars : List Var) (text : List ℕ) (var : Var) where
  pub variable_is : IsVariableLine n vars text var → variable_of n vars text ≡ Some var
  unfolding variable_of variable_states
  variable_is v =
      let form : is_variable_name (variable_name text) ≡ true = ap is_variable_name (sym v.name) ∙ v.form in
      let new : is_some (variable_named vars (variable_name text)) ≡ false = ap is_some (ap (variable_named vars) (sym v.name) ∙ v.new) in
      let listed : Option (List ℕ) = if is_list (list_text text) then states_listed n vars (within_braces (list_text text)) else None in
      let states : variable_states n vars (variable_name text) (list_text text) ≡ Some var.states =
      take_then (is_variable_name (variable_name text)) (if is_some (variable_named vars (variable_name text)) then None else listed) None form
      ∙ take_else (is_some (variable_named vars (variable_name text))) None listed new
      ∙ take_then (is_list (list_text text)) (states_listed n vars (within_braces (list_text text))) None v.braces ∙ v.states in
      ap (option_map (λ (s : List ℕ). new_var s (variable_name text))) states ∙ ap (λ (name : List ℕ). Some (new_var var.states name)) (sym v.name)

  pub variable_parsed : is_descriptor text ≡ false → is_variable_line text ≡ true → variable_of n vars text ≡ Some var → IsVariableLine n vars text var
  unfolding variable_of variable_states
  variable_parsed d b h =
      let listed : Option (List ℕ) = if is_list (list_text text) then states_listed n vars (within_braces (list_text text)) else None in
      let m = mapped (λ (s : List ℕ). new_var s (variable_name text)) (variable_states n vars (variable_name text) (list_text text)) var h in
      let x = tested (is_variable_name (variable_name text)) (if is_some (variable_named vars (variable_name text)) then None else listed) m.0 m.1 in
      let y = tested_not (is_some (variable_named vars (variable_name text))) listed m.0 x.1 in
      let z = tested (is_list (list_text text)) (states_listed n vars (within_braces (list_text text))) m.0 y.1 in
      let name : var.name ≡ variable_name text = ap (λ (v : Var). v.name) m.2 in
      record {
        colon = d;
        begins = b;
        name = name;
        form = ap is_variable_name name ∙ x.0;
        new = ap (variable_named vars) name ∙ not_some (variable_named vars (variable_name text)) y.0;
        braces = z.0;
        states = z.1 ∙ ap Some (sym (ap (λ (v : Var). v.states) m.2));
      }

-- ---- transitions

abbrev Writes : ℕ → List Var → List ℕ → Entry → Type 0
Writes n vars word entry = entry_of n vars word ≡ Some entry

first_some : (o : Option Entry) (os : List (Option Entry)) (e : Entry) (es : List Entry) → o ≡ Some e → all_some os ≡ Some es
    → all_some (o ∷ os) ≡ Some (e ∷ es)
first_some None os e es p q = cc
first_some (Some x) os e es p q = let same : x ≡ e = cc in ap (option_map (λ (xs : List Entry). x ∷ xs)) q ∙ ap (λ (z : Entry). Some (z ∷ es)) same

words_are : (n : ℕ) (vars : List Var) (words : List (List ℕ)) (es : List Entry) → AllZip (Writes n vars) words es → all_some (map (entry_of n vars) words)
    ≡ Some es
words_are n vars [] [] z = refl
words_are n vars [] (e ∷ es) z = absurd z
words_are n vars (word ∷ words) [] z = absurd z
words_are n vars (word ∷ words) (e ∷ es) z = first_some (entry_of n vars word) (map (entry_of n vars) words) e es z.0 (words_are n vars words es z.1)

none_some : (es : List Entry) (R : List ℕ → Entry → Type 0) → all_some (let os : List (Option Entry) = [] in os) ≡ Some es → AllZip R [] es
none_some [] R h = tt
none_some (e ∷ es) R h = absurd (let z : ⊥ = cc in z)

words_parsed : (n : ℕ) (vars : List Var) (words : List (List ℕ)) (es : List Entry) → all_some (map (entry_of n vars) words) ≡ Some es
    → AllZip (Writes n vars) words es
words_parsed n vars [] es h = none_some es (Writes n vars) h
words_parsed n vars (word ∷ words) es h =
    let s = split_some (entry_of n vars word) (map (entry_of n vars) words) es h in
    subst (AllZip (Writes n vars) (word ∷ words)) (sym s.4) (s.2, words_parsed n vars words s.1 s.3)

last_of : {X : Type 0} (m : ℕ) (xs : List X) (x : X) → length xs ≡ suc m → slice_get xs m ≡ Some x → take m xs ++ x ∷ [] ≡ xs
last_of m [] x l g = absurd (omega (arith, l))
last_of {X = X} zero (y ∷ []) x l g = let same : y ≡ x = cc in ap (λ (z : X). z ∷ []) (sym same)
last_of zero (y ∷ z ∷ xs) x l g = absurd (omega (arith, l))
last_of {X = X} (suc m) (y ∷ xs) x l g = ap (λ (zs : List X). y ∷ zs) (last_of m xs x (omega (arith, l)) g)

abbrev new_line : ℕ → List Entry → Entry → Transition
new_line number inputs output = record { line = number; inputs = inputs; output = output }

module _ (n k : ℕ) (vars : List Var) (number : ℕ) (text : List ℕ) (line : Transition) where
  abbrev whole : List Entry
  whole = line.inputs ++ line.output ∷ []

  pub transition_is : IsTransitionLine n k vars number text line → transition_of n k vars number text ≡ Some line
  unfolding transition_of entries_of
  transition_is t =
      let long : length whole ≡ k + 2 = omega (arith, length-append line.inputs (line.output ∷ []), t.count) in
      let prefix : take (k + 1) whole ≡ line.inputs = ap (λ (m : ℕ). take m whole) (sym t.count) ∙ take-append_seam line.inputs (line.output ∷ []) in
      let last : slice_get whole (k + 1) ≡ Some line.output = ap (slice_get whole) (sym t.count) ∙ slice_get-last line.inputs line.output in
      let made : Entry → Transition = new_line number (take (k + 1) whole) in
      ap (option_and_then (transition_from k number)) (words_are n vars (transition_words text) whole t.words)
      ∙ take_then (length whole == k + 2) (option_map made (slice_get whole (k + 1))) None (eq-eqb (length whole) (k + 2) long)
      ∙ ap (option_map made) last ∙ ap (λ (inputs : List Entry). Some (new_line number inputs line.output)) prefix
      ∙ ap (λ (m : ℕ). Some (new_line m line.inputs line.output)) (sym t.number_is)

  pub transition_parsed : is_descriptor text ≡ false → is_variable_line text ≡ false → transition_of n k vars number text ≡ Some line
      → is_bound line.inputs line.output ≡ true
      → IsTransitionLine n k vars number text line
  unfolding transition_of entries_of
  transition_parsed d b h o =
      let f = followed (transition_from k number) (all_some (map (entry_of n vars) (transition_words text))) line h in
      let es : List Entry = f.0 in
      let g = tested (length es == k + 2) (option_map (new_line number (take (k + 1) es)) (slice_get es (k + 1))) line f.2 in
      let m = mapped (new_line number (take (k + 1) es)) (slice_get es (k + 1)) line g.1 in
      let long : length es ≡ k + 2 = eqb-true (length es) (k + 2) g.0 in
      let parts : whole ≡ es = ap (λ (l : Transition). l.inputs ++ l.output ∷ []) m.2 ∙ last_of (k + 1) es m.0 (omega (arith, long)) m.1 in
      record {
        colon = d;
        begins = b;
        words = subst (AllZip (Writes n vars) (transition_words text)) (sym parts) (words_parsed n vars (transition_words text) es f.1);
        count = ap (λ (l : Transition). length l.inputs) m.2 ∙ omega (arith, length-take-le (k + 1) es (omega (arith, long)));
        number_is = ap (λ (l : Transition). l.line) m.2;
        bound = o;
      }
