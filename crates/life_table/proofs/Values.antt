-- The values that lines write are parts of a rule table.
use Rattle.std.proofs.Common.{◌≡◌, ℕ, zero, suc, ◌+◌, ◌/◌, ◌%◌, ◌^◌, ◌<◌, ◌≤◌, List, [], ◌∷◌, map, take, length, Bool, true, false, refl, ap, sym, ◌∙◌, subst, ◌&&◌, ◌⊎◌, inl, inr, arith, cond, get_or, max, length-take, eqb-true, eq-eqb, Option, Some, None, if◌then◌else◌, is_some, option_map, option_and_then, All, IsTrue, nat_lt, ◌==◌, slice_get, slice_index, bit_or, bytes_eq, ltb-true}
use Rattle.std.specs.Int.{bit_at}
use Rattle.std.specs.List.{fold, list_any, position, slice_split, position_or_len, onto_first}
use Rattle.std.proofs.lemmas.Bool.{and_parts, cases_Bool}
use Rattle.std.proofs.lemmas.Bool.Decides.{eqb_tells}
use Rattle.std.proofs.lemmas.List.Elements.{All-nil, All-cons, All-head, All-tail, All-take}
use Rattle.std.proofs.lemmas.Option.{get_or_from_slice_get, cond_some}
use Rattle.std.proofs.lemmas.Nat.Bits.{bit_at_or, bit_at-pow_same, bit_at-pow_other, bit_at-zero, bit_at-lt}
use Rattle.std.proofs.lemmas.List.{get_or_past}
use Rattle.life_base.specs.Text.{is_digit_text, value_of, trim}
use Rattle.life_table.specs.Valid.{IsEntry, IsTransition, IsVariable, is_variable}
use Rattle.life_table.specs.Reading.{entry_of, number_below, variable_named, entries_of, all_some, transition_words, transition_of, transition_from, is_bound, single, union, union_of, states_of_entry, states_listed, between_commas, variable_states, variable_of, is_variable_name, is_list, within_braces, variable_name, list_text}
use Rattle.life_table.specs.declared.table.Var.{Var}
use Rattle.life_table.specs.declared.table.Entry.{Entry}
use Rattle.life_table.specs.declared.table.Entry.TheVariants as entries
use Rattle.life_table.specs.declared.table.Transition.{Transition}
use Rattle.life_table.proofs.Texts.{split_some, mapped, followed}
use Rattle.life_table.proofs.Cases.{not_some}
use Rattle.life_table.proofs.Searching.{zeros_at}

-- 1. What a test let through

pub tested : {X : Type 0} (b : Bool) (o : Option X) (x : X) → (if b then o else None) ≡ Some x → (b ≡ true) × (o ≡ Some x)
tested true o x h = (refl, h)
tested false o x h = absurd (let z : ⊥ = cc in z)

pub tested_not : {X : Type 0} (b : Bool) (o : Option X) (x : X) → (if b then None else o) ≡ Some x → (b ≡ false) × (o ≡ Some x)
tested_not true o x h = absurd (let z : ⊥ = cc in z)
tested_not false o x h = (refl, h)

-- 2. Entries

pub below_limit : (limit : ℕ) (word : List ℕ) (s : ℕ) → number_below limit word ≡ Some s → (s ≡ value_of word) × (s < limit)
below_limit limit word s h =
    let t = tested (is_digit_text word && nat_lt (value_of word) limit) (Some (value_of word)) s h in
    let same : value_of word ≡ s = (let e : Some (value_of word) ≡ Some s = t.1 in cc) in
    let less : value_of word < limit = ltb-true (value_of word) limit (and_parts (is_digit_text word) (nat_lt (value_of word) limit) t.0).1 in
    (sym same, omega (arith, same, less))

fixed_entry : (n : ℕ) (vars : List Var) (word : List ℕ) (e : Entry) → option_map entries.Fixed (number_below n word) ≡ Some e → IsEntry n vars e
fixed_entry n vars word e h =
    let m = mapped entries.Fixed (number_below n word) e h in
    let b = below_limit n word m.0 m.1 in
    record {
      fixed = λ s is. (let same : m.0 ≡ s = (let z : entries.Fixed m.0 ≡ entries.Fixed s = sym m.2 ∙ is in cc) in omega (arith, same, b.1));
      variable = λ i is. absurd (let z : entries.Fixed m.0 ≡ entries.Var i = sym m.2 ∙ is in let w : ⊥ = cc in w);
    }

named_entry : (n : ℕ) (vars : List Var) (word : List ℕ) (e : Entry) → option_map entries.Var (variable_named vars word) ≡ Some e → IsEntry n vars e
named_entry n vars word e h =
    let m = mapped entries.Var (variable_named vars word) e h in
    let below : m.0 < length vars = position_below (λ (w : Var). bytes_eq w.name word) vars m.0 m.1 in
    record {
      fixed = λ s is. absurd (let z : entries.Var m.0 ≡ entries.Fixed s = sym m.2 ∙ is in let w : ⊥ = cc in w);
      variable = λ i is. (let same : m.0 ≡ i = (let z : entries.Var m.0 ≡ entries.Var i = sym m.2 ∙ is in cc) in omega (arith, same, below));
    }
  where
    position_below : (p : Var → Bool) (vars : List Var) (i : ℕ) → position p vars ≡ Some i → i < length vars
    position_below p vars i h =
        let w = cond_some (nat_lt (position_or_len p vars) (length vars)) (position_or_len p vars) i h in
        let less : position_or_len p vars < length vars = ltb-true _ _ w.0 in
        omega (arith, less, w.1)

entry_cases : (digits : Bool) (a b : Option Entry) (e : Entry) → (if digits then a else b) ≡ Some e → (a ≡ Some e) ⊎ (b ≡ Some e)
entry_cases true a b e h = inl h
entry_cases false a b e h = inr h

pub is_entry : (n : ℕ) (vars : List Var) (word : List ℕ) (e : Entry) → entry_of n vars word ≡ Some e → IsEntry n vars e
unfolding entry_of
is_entry n vars word e h = elim
    (entry_cases (is_digit_text word) (option_map entries.Fixed (number_below n word)) (option_map entries.Var (variable_named vars word)) e h) [
      | inl a ↦ fixed_entry n vars word e a
      | inr b ↦ named_entry n vars word e b
    ]

-- what the words of a list give has a property, if what each word gives has it
each_some : {X : Type 0} (P : X → Type 0) (f : List ℕ → Option X) → ((word : List ℕ) (x : X) → f word ≡ Some x → P x) → (words : List (List ℕ)) (xs : List X)
    → all_some (map f words) ≡ Some xs → All P xs
each_some P f each [] xs h = subst (All P) (let z : Some [] ≡ Some xs = h in let e : [] ≡ xs = cc in e) (All-nil P)
each_some P f each (word ∷ words) xs h =
    let s = split_some (f word) (map f words) xs h in
    subst (All P) (sym s.4) (All-cons P s.0 s.1 (each word s.0 s.2) (each_some P f each words s.1 s.3))

entries_are : (n : ℕ) (vars : List Var) (text : List ℕ) (es : List Entry) → entries_of n vars text ≡ Some es → All (IsEntry n vars) es
unfolding entries_of
entries_are n vars text es h = each_some (IsEntry n vars) (entry_of n vars) (is_entry n vars) (transition_words text) es h

-- 3. Transitions

bound_variable : (inputs : List Entry) (output : Entry) → is_bound inputs output ≡ true → (i : ℕ) → output ≡ entries.Var i
    → IsTrue (list_any (is_variable i) inputs)
bound_variable inputs output h i e = sym (ap (is_bound inputs) e) ∙ h

from_parts : (n k : ℕ) (vars : List Var) (number : ℕ) (es : List Entry) (t : Transition) → All (IsEntry n vars) es → transition_from k number es ≡ Some t
    → is_bound t.inputs t.output ≡ true → IsTransition n k vars t
from_parts n k vars number es t all h bound =
    let q = tested (length es == k + 2)
    (option_map (λ (output : Entry). record { line = number; inputs = take (k + 1) es; output = output }) (slice_get es (k + 1))) t h in
    let m = mapped (λ (output : Entry). record { line = number; inputs = take (k + 1) es; output = output }) (slice_get es (k + 1)) t q.1 in
    let long : length es ≡ k + 2 = eqb-true (length es) (k + 2) q.0 in
    let last : get_or es (k + 1) m.0 ≡ m.0 = get_or_from_slice_get es (k + 1) m.0 m.0 m.1 in
    let output : IsEntry n vars m.0 = subst (IsEntry n vars) last (all (k + 1) m.0 (omega (arith, long))) in
    let P : Transition → Type 0 = λ (u : Transition). is_bound u.inputs u.output ≡ true → IsTransition n k vars u in
    subst P (sym m.2) (λ b. record {
      count = length-take (k + 1) es ∙ omega (arith, long);
      inputs = All-take (IsEntry n vars) (k + 1) es all;
      output = output;
      bound = bound_variable (take (k + 1) es) m.0 b;
    }) bound

pub is_transition : (n k : ℕ) (vars : List Var) (number : ℕ) (text : List ℕ) (t : Transition) → transition_of n k vars number text ≡ Some t
    → is_bound t.inputs t.output ≡ true → IsTransition n k vars t
unfolding transition_of
is_transition n k vars number text t h bound =
    let f = followed (transition_from k number) (entries_of n vars text) t h in
    from_parts n k vars number f.0 t (entries_are n vars text f.0 f.1) f.2 bound

-- 4. Sets of states

pub record IsSet (n : ℕ) (states : List ℕ) : Type 0 where
  pub some : ¬ ((s : ℕ) → ¬ (bit_at (slice_index states (s / 64)) (s % 64) ≡ 1))
  pub below : (s : ℕ) → bit_at (slice_index states (s / 64)) (s % 64) ≡ 1 → s < n

-- a word of a set of four words
word_at : (f : ℕ → ℕ) (k : ℕ) → k < 4 → slice_index (map f (0 ∷ 1 ∷ 2 ∷ 3 ∷ [])) k ≡ f k
word_at f zero h = refl
word_at f (suc zero) h = refl
word_at f (suc (suc zero)) h = refl
word_at f (suc (suc (suc zero))) h = refl
word_at f (suc (suc (suc (suc k)))) h = absurd (omega (arith, h))

pub union_at : (a b : List ℕ) (k : ℕ) → k < 4 → slice_index (union a b) k ≡ bit_or (slice_index a k) (slice_index b k)
union_at a b = word_at (λ k. bit_or (slice_index a k) (slice_index b k))

abbrev bit_of : List ℕ → ℕ → ℕ
bit_of states s = bit_at (slice_index states (s / 64)) (s % 64)

union_has : (a b : List ℕ) (s : ℕ) → s / 64 < 4 → bit_of (union a b) s ≡ max (bit_of a s) (bit_of b s)
union_has a b s h = ap (λ (w : ℕ). bit_at w (s % 64)) (union_at a b (s / 64) h) ∙ bit_at_or (slice_index a (s / 64)) (slice_index b (s / 64)) (s % 64)

union_of_either : (a b : List ℕ) (s : ℕ) → bit_of (union a b) s ≡ 1 → (bit_of a s ≡ 1) ⊎ (bit_of b s ≡ 1)
union_of_either a b s h = elim (cases_Bool (nat_lt (s / 64) 4)) [
  | inl within ↦ one_of (bit_of a s) (bit_of b s) (sym (union_has a b s (ltb-true (s / 64) 4 within)) ∙ h)
  | inr beyond ↦ absurd (
      let past : slice_index (union a b) (s / 64) ≡ 0 = get_or_past (union a b) (s / 64) 0 (grind (arith, beyond)) in
      let none : bit_of (union a b) s ≡ 0 = ap (λ (w : ℕ). bit_at w (s % 64)) past ∙ bit_at-zero (s % 64) in
      omega (arith, none, h))
]
  where
    one_of : (x y : ℕ) → max x y ≡ 1 → (x ≡ 1) ⊎ (y ≡ 1)
    one_of x y h = elim (eqb_tells x 1) [ inl same ↦ inl same.1 | inr other ↦ inr (omega (arith, h, other.1)) ]

single_at : (s k : ℕ) → k < 4 → slice_index (single s) k ≡ (if k == s / 64 then 2 ^ (s % 64) else 0)
single_at s = word_at (λ k. if k == s / 64 then 2 ^ (s % 64) else 0)

single_alone : (s t : ℕ) → bit_of (single s) t ≡ 1 → t ≡ s
single_alone s t h = elim (cases_Bool (nat_lt (t / 64) 4)) [
  | inr beyond ↦ absurd (
      let past : slice_index (single s) (t / 64) ≡ 0 = get_or_past (single s) (t / 64) 0 (grind (arith, beyond)) in
      let none : bit_of (single s) t ≡ 0 = ap (λ (w : ℕ). bit_at w (t % 64)) past ∙ bit_at-zero (t % 64) in
      omega (arith, none, h))
  | inl within ↦ elim (eqb_tells (t / 64) (s / 64)) [
    | inr other ↦ absurd (
        let none : bit_of (single s) t ≡ 0 = ap (λ (w : ℕ). bit_at w (t % 64))
        (single_at s (t / 64) (ltb-true (t / 64) 4 within) ∙ ap (λ (b : Bool). if b then 2 ^ (s % 64) else 0) other.0) ∙ bit_at-zero (t % 64) in
        omega (arith, none, h))
    | inl same ↦ elim (eqb_tells (t % 64) (s % 64)) [
      | inl rest ↦ (let a : t / 64 ≡ s / 64 = same.1 in let b : t % 64 ≡ s % 64 = rest.1 in omega (arith, a, b))
      | inr apart ↦ absurd (
          let none : bit_of (single s) t ≡ 0 = ap (λ (w : ℕ). bit_at w (t % 64))
          (single_at s (t / 64) (ltb-true (t / 64) 4 within) ∙ ap (λ (b : Bool). if b then 2 ^ (s % 64) else 0) same.0)
          ∙ bit_at-pow_other (s % 64) (t % 64) apart.1 in
          omega (arith, none, h))
    ]
  ]
]

single_there : (s : ℕ) → s < 256 → bit_of (single s) s ≡ 1
single_there s h = ap (λ (w : ℕ). bit_at w (s % 64))
    (single_at s (s / 64) (omega (arith, h)) ∙ ap (λ (b : Bool). if b then 2 ^ (s % 64) else 0) (eq-eqb (s / 64) (s / 64) refl)) ∙ bit_at-pow_same (s % 64)

single_set : (n s : ℕ) → s < n → n ≤ 256 → IsSet n (single s)
single_set n s h m = record {
  some = λ none. none s (single_there s (omega (arith, h, m)));
  below = λ t there. (let same : t ≡ s = single_alone s t there in omega (arith, same, h));
}

-- a set of which something may be missing, with the states of one more
abbrev IsBelow : ℕ → List ℕ → Type 0
IsBelow n states = (s : ℕ) → bit_of states s ≡ 1 → s < n

union_below : (n : ℕ) (a b : List ℕ) → IsBelow n a → IsBelow n b → IsBelow n (union a b)
union_below n a b ha hb s h = elim (union_of_either a b s h) [ inl x ↦ ha s x | inr y ↦ hb s y ]

-- a state of either set is one of the union
union_takes : (a b : List ℕ) (s : ℕ) → s < 256 → 1 ≤ bit_of a s + bit_of b s → bit_of (union a b) s ≡ 1
union_takes a b s h e =
    let m : bit_of (union a b) s ≡ max (bit_of a s) (bit_of b s) = union_has a b s (omega (arith, h)) in
    let x : bit_of a s < 2 = bit_at-lt (slice_index a (s / 64)) (s % 64) in
    let y : bit_of b s < 2 = bit_at-lt (slice_index b (s / 64)) (s % 64) in
    omega (arith, m, e, x, y)

fold_below : (n : ℕ) (acc : List ℕ) (sets : List (List ℕ)) → IsBelow n acc → All (IsSet n) sets → IsBelow n (fold union acc sets)
fold_below n acc [] h all = h
fold_below n acc (set ∷ sets) h all =
    fold_below n (union acc set) sets (union_below n acc set h (All-head (IsSet n) set sets all).below) (All-tail (IsSet n) set sets all)

fold_keeps : (acc : List ℕ) (sets : List (List ℕ)) (s : ℕ) → s < 256 → bit_of acc s ≡ 1 → bit_of (fold union acc sets) s ≡ 1
fold_keeps acc [] s h e = e
fold_keeps acc (set ∷ sets) s h e = fold_keeps (union acc set) sets s h (union_takes acc set s h (omega (arith, e)))

zeros_below : (n : ℕ) → IsBelow n (0 ∷ 0 ∷ 0 ∷ 0 ∷ [])
zeros_below n s h = absurd (let none : bit_of (0 ∷ 0 ∷ 0 ∷ 0 ∷ []) s ≡ 0 = ap (λ (w : ℕ). bit_at w (s % 64)) (zeros_at 4 (s / 64)) ∙ bit_at-zero (s % 64) in
    omega (arith, none, h))

union_set : (n : ℕ) → n ≤ 256 → (set : List ℕ) (sets : List (List ℕ)) → All (IsSet n) (set ∷ sets) → IsSet n (union_of (set ∷ sets))
union_set n most set sets all =
    let first : IsSet n set = All-head (IsSet n) set sets all in
    record {
      some = λ none. first.some (λ s there.
          (let small : s < n = first.below s there in
          none s (fold_keeps (union (0 ∷ 0 ∷ 0 ∷ 0 ∷ []) set) sets s (omega (arith, small, most))
          (union_takes (0 ∷ 0 ∷ 0 ∷ 0 ∷ []) set s (omega (arith, small, most)) (omega (arith, there))))));
      below = fold_below n (0 ∷ 0 ∷ 0 ∷ 0 ∷ []) (set ∷ sets) (zeros_below n) all;
    }

-- 5. Variables

variable_set : (n : ℕ) (var : Var) → IsVariable n var → IsSet n var.states
variable_set n var v = record {
  some = λ none. v.some (λ s has. none s (eqb-true (bit_of var.states s) 1 has));
  below = λ s there. v.below s (ap (λ (b : ℕ). b == 1) there);
}

set_variable : (n : ℕ) (name states : List ℕ) → IsSet n states → IsVariable n (record { name = name; states = states })
set_variable n name states v = record {
  some = λ none. v.some (λ s there. none s (ap (λ (b : ℕ). b == 1) there));
  below = λ s has. v.below s (eqb-true (bit_of states s) 1 has);
}

entry_set : (n : ℕ) → n ≤ 256 → (vars : List Var) → All (IsVariable n) vars → (e : Entry) → IsEntry n vars e → (set : List ℕ)
    → states_of_entry vars e ≡ Some set → IsSet n set
entry_set n most vars all (entries.Fixed s) is set h =
    subst (IsSet n) (let z : Some (single s) ≡ Some set = h in let e : single s ≡ set = cc in e) (single_set n s (is.fixed s refl) most)
entry_set n most vars all (entries.Var i) is set h =
    let m = mapped (λ (var : Var). var.states) (slice_get vars i) set h in
    let at : get_or vars i m.0 ≡ m.0 = get_or_from_slice_get vars i m.0 m.0 m.1 in
    let good : IsVariable n m.0 = subst (IsVariable n) at (all i m.0 (is.variable i refl)) in
    subst (IsSet n) (sym m.2) (variable_set n m.0 good)

-- the states of the entry that a word writes
abbrev pub set_named : ℕ → List Var → List ℕ → Option (List ℕ)
set_named n vars word = option_and_then (states_of_entry vars) (entry_of n vars word)

word_set : (n : ℕ) → n ≤ 256 → (vars : List Var) → All (IsVariable n) vars → (word set : List ℕ) → set_named n vars word ≡ Some set → IsSet n set
word_set n most vars all word set h =
    let f = followed (states_of_entry vars) (entry_of n vars word) set h in
    entry_set n most vars all f.0 (is_entry n vars word f.0 f.1) set f.2

-- a text between commas has one word at least
some_word : (text : List ℕ) → (w : List ℕ) × (ws : List (List ℕ)) × (between_commas text ≡ w ∷ ws)
some_word text = let s = some_part text in (trim s.0, map trim s.1, ap (map trim) s.2)
  where
    some_part : (text : List ℕ) → (w : List ℕ) × (ws : List (List ℕ)) × (slice_split (λ b. b == 44) text ≡ w ∷ ws)
    some_part [] = ([], [], refl)
    some_part (b ∷ text) = next (b == 44) b (slice_split (λ c. c == 44) text) (some_part text)
      where
        next : (v : Bool) (b : ℕ) (parts : List (List ℕ)) → (w : List ℕ) × (ws : List (List ℕ)) × (parts ≡ w ∷ ws)
            → (w : List ℕ) × (ws : List (List ℕ)) × (cond v ([] ∷ parts) (onto_first b parts) ≡ w ∷ ws)
        next true b parts s = ([], parts, refl)
        next false b parts s = (b ∷ s.0, s.1, ap (onto_first b) s.2)

listed_set : (n : ℕ) → n ≤ 256 → (vars : List Var) → All (IsVariable n) vars → (text states : List ℕ) → states_listed n vars text ≡ Some states → IsSet n states
unfolding states_listed
listed_set n most vars all text states h =
    let m = mapped union_of (all_some (map (set_named n vars) (between_commas text))) states h in
    let sets : All (IsSet n) m.0 = each_some (IsSet n) (set_named n vars) (word_set n most vars all) (between_commas text) m.0 m.1 in
    let w = some_word text in
    let s = split_some (set_named n vars w.0) (map (set_named n vars) w.1) m.0
    (ap (λ (words : List (List ℕ)). all_some (map (set_named n vars) words)) (sym w.2) ∙ m.1) in
    subst (IsSet n) (sym (m.2 ∙ ap union_of s.4)) (union_set n most s.0 s.1 (subst (All (IsSet n)) s.4 sets))

pub states_case : (n : ℕ) (vars : List Var) (name list states : List ℕ) → variable_states n vars name list ≡ Some states → (variable_named vars name ≡ None)
    × (states_listed n vars (within_braces list) ≡ Some states)
unfolding variable_states
states_case n vars name list states h =
    let a = tested (is_variable_name name)
    (if is_some (variable_named vars name) then None else (if is_list list then states_listed n vars (within_braces list) else None)) states h in
    let b = tested_not (is_some (variable_named vars name)) (if is_list list then states_listed n vars (within_braces list) else None) states a.1 in
    let c = tested (is_list list) (states_listed n vars (within_braces list)) states b.1 in
    (not_some (variable_named vars name) b.0, c.1)

-- a variable that a line writes has a new name
pub is_new_name : (n : ℕ) (vars : List Var) (text : List ℕ) (var : Var) → variable_of n vars text ≡ Some var → variable_named vars var.name ≡ None
unfolding variable_of
is_new_name n vars text var h =
    let m = mapped (λ (states : List ℕ). record { name = variable_name text; states = states }) (variable_states n vars (variable_name text) (list_text text))
    var h in
    ap (λ (v : Var). variable_named vars v.name) m.2 ∙ (states_case n vars (variable_name text) (list_text text) m.0 m.1).0

-- a variable that a line writes has states below the number of states, and a new name
pub is_variable_written : (n : ℕ) → n ≤ 256 → (vars : List Var) → All (IsVariable n) vars → (text : List ℕ) (var : Var) → variable_of n vars text ≡ Some var
    → IsVariable n var × (variable_named vars var.name ≡ None)
unfolding variable_of
is_variable_written n most vars all text var h =
    let m = mapped (λ (states : List ℕ). record { name = variable_name text; states = states }) (variable_states n vars (variable_name text) (list_text text))
    var h in
    let s = states_case n vars (variable_name text) (list_text text) m.0 m.1 in (
      subst (IsVariable n) (sym m.2) (set_variable n (variable_name text) m.0 (listed_set n most vars all (within_braces (list_text text)) m.0 s.1)),
      is_new_name n vars text var h,
    )
