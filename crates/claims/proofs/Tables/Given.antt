-- A line gives a state in the words of the format exactly if some choice of states for the variables gives it.
use Rattle.std.proofs.Common.{◌≡◌, ℕ, zero, suc, ◌<◌, List, [], ◌∷◌, length, map, Bool, true, false, cond, ◌&&◌, ◌||◌, refl, ap, ◌∙◌, sym, subst, arith, inl, inr, eq-eqb, eqb, eqb-true, Option, Some, None, IfSome, IsTrue, All, slice_get, ◌==◌, zip}
use Rattle.std.specs.List.{list_all, list_any}
use Rattle.std.specs.Option.{option_map_or}
use Rattle.std.proofs.lemmas.Bool.Decides.{eqb_tells}
use Rattle.std.proofs.lemmas.List.Elements.{All-head, All-tail}
use Rattle.std.proofs.lemmas.Bool.{or_left, or_right, and_from, cases_Bool}
use Rattle.std.proofs.lemmas.Option.{same_Some}
use Rattle.life_base.proofs.Basics.{right_of_and, left_of_and, equal_swapped}
use Rattle.life_table.specs.Meaning.{has_state, HasState, IsChoice, state_of, GivesAs}
use Rattle.life_table.specs.Valid.{is_variable, IsEntry}
use Rattle.life_table.specs.declared.table.Var.{Var}
use Rattle.life_table.specs.declared.table.Entry.{Entry as LayerEntry}
use Rattle.life_table.specs.declared.table.Entry.TheVariants as entries
use Rattle.life_table.specs.declared.table.Transition.{Transition as LayerTransition}
use Rattle.claims.specs.Table.{Variable, variable, claimed_states_of, state_of_variable, allows, claimed_state_given}
use Rattle.claims.specs.Tables.{entry_in, transition_in, AreVariables}

-- ---- tests

pub or_rest : (a b : Bool) → a ≡ false → (a || b) ≡ true → b ≡ true
or_rest true b e h = cc
or_rest false b e h = h

-- ---- variables that there are

if_some : {X : Type 0} (p : X → Bool) (o : Option X) → option_map_or p o false ≡ true → IfSome o (λ x. IsTrue (p x))
if_some p None h = cc
if_some p (Some x) h = h

some_if : {X : Type 0} (p : X → Bool) (xs : List X) (i : ℕ) → i < length xs → IfSome (slice_get xs i) (λ x. IsTrue (p x))
    → option_map_or p (slice_get xs i) false ≡ true
some_if p [] i l h = absurd (omega arith)
some_if p (x ∷ xs) zero l h = h
some_if p (x ∷ xs) (suc i) l h = some_if p xs i (omega arith) h

module _ (vars : List Var) (variables : List Variable) (same : AreVariables vars variables) where
  pub has_state_of : (i s : ℕ) → list_any (λ t. t == s) (claimed_states_of variables (variable i)) ≡ true → IfSome (slice_get vars i) (λ var. HasState var s)
  has_state_of i s h = if_some (λ var. has_state var s) (slice_get vars i) (sym (same.states i s) ∙ h)

  pub is_state_of : (i s : ℕ) → i < length vars → IfSome (slice_get vars i) (λ var. HasState var s)
      → list_any (λ t. t == s) (claimed_states_of variables (variable i)) ≡ true
  is_state_of i s l h = same.states i s ∙ some_if (λ var. has_state var s) vars i l h

  -- ---- a given state is that of a choice

  -- a choice that agrees with the states taken gives the entries those states
  all_values : (value choice : ℕ → ℕ) (es : List LayerEntry) (ss : List ℕ) → length es ≡ length ss
      → list_all (allows variables value) (zip (map entry_in es) ss) ≡ true
      → ((i : ℕ) → list_any (is_variable i) es ≡ true → choice i ≡ value i) → map (state_of choice) es ≡ ss
  all_values value choice [] [] l a h = refl
  all_values value choice [] (s ∷ ss) l a h = absurd (omega (arith, l))
  all_values value choice (e ∷ es) [] l a h = absurd (omega (arith, l))
  all_values value choice (entries.Fixed f ∷ es) (s ∷ ss) l a h =
      let head : f ≡ s = eqb-true f s (left_of_and _ _ a) in
      let tail : map (state_of choice) es ≡ ss = all_values value choice es ss (omega (arith, l)) (right_of_and _ _ a) h in
      ap (λ (n : ℕ). n ∷ map (state_of choice) es) head ∙ ap (λ (t : List ℕ). s ∷ t) tail
  all_values value choice (entries.Var j ∷ es) (s ∷ ss) l a h =
      let head : choice j ≡ s = h j (or_left (eqb j j) _ (eq-eqb j j refl)) ∙ eqb-true (value j) s (left_of_and _ _ (left_of_and _ _ a)) in
      let tail : map (state_of choice) es ≡ ss = all_values value choice es ss (omega (arith, l)) (right_of_and _ _ a) (λ i m. h i (or_right (eqb i j) _ m)) in
      ap (λ (n : ℕ). n ∷ map (state_of choice) es) head ∙ ap (λ (t : List ℕ). s ∷ t) tail

  -- the state that an input takes is one of its variable's
  has_consumed : (value : ℕ → ℕ) (i : ℕ) (es : List LayerEntry) (ss : List ℕ) → length es ≡ length ss
      → list_all (allows variables value) (zip (map entry_in es) ss) ≡ true → list_any (is_variable i) es ≡ true
      → list_any (λ t. t == value i) (claimed_states_of variables (variable i)) ≡ true
  has_consumed value i [] ss l a m = cc
  has_consumed value i (e ∷ es) [] l a m = absurd (omega (arith, l))
  has_consumed value i (entries.Fixed f ∷ es) (s ∷ ss) l a m = has_consumed value i es ss (omega (arith, l)) (right_of_and _ _ a) m
  has_consumed value i (entries.Var j ∷ es) (s ∷ ss) l a m = elim (eqb_tells i j) [
    | inl e ↦
        let at : value j ≡ s = eqb-true (value j) s (left_of_and _ _ (left_of_and _ _ a)) in
        subst (λ n. list_any (λ t. t == value n) (claimed_states_of variables (variable n)) ≡ true) (sym e.1)
        (subst (λ n. list_any (λ t. t == n) (claimed_states_of variables (variable j)) ≡ true) (sym at) (right_of_and _ _ (left_of_and _ _ a)))
    | inr n ↦ has_consumed value i es ss (omega (arith, l)) (right_of_and _ _ a) (or_rest (eqb i j) _ n.0 m)
  ]

  module _ (base : ℕ → ℕ) (is_base : IsChoice vars base) (es : List LayerEntry) (ss : List ℕ) (l : length es ≡ length ss)
      (a : list_all (allows variables (state_of_variable (map entry_in es) ss)) (zip (map entry_in es) ss) ≡ true) where
    choice : ℕ → ℕ
    choice i = cond (list_any (is_variable i) es) (state_of_variable (map entry_in es) ss i) (base i)

    choice_at : (i : ℕ) → list_any (is_variable i) es ≡ true → choice i ≡ state_of_variable (map entry_in es) ss i
    unfolding choice
    choice_at i m = ap (λ v. cond v (state_of_variable (map entry_in es) ss i) (base i)) m

    choice_off : (i : ℕ) → list_any (is_variable i) es ≡ false → choice i ≡ base i
    unfolding choice
    choice_off i m = ap (λ v. cond v (state_of_variable (map entry_in es) ss i) (base i)) m

    choice_is : IsChoice vars choice
    choice_is i below = elim (cases_Bool (list_any (is_variable i) es)) [
      | inl m ↦ subst (λ s. IfSome (slice_get vars i) (λ var. HasState var s)) (sym (choice_at i m))
          (has_state_of i (state_of_variable (map entry_in es) ss i) (has_consumed (state_of_variable (map entry_in es) ss) i es ss l a m))
      | inr m ↦ subst (λ s. IfSome (slice_get vars i) (λ var. HasState var s)) (sym (choice_off i m)) (is_base i below)
    ]

    output_is : (output : LayerEntry) → ((i : ℕ) → output ≡ entries.Var i → list_any (is_variable i) es ≡ true)
        → (s : ℕ) → state_of (state_of_variable (map entry_in es) ss) output ≡ s → state_of choice output ≡ s
    output_is (entries.Fixed f) bound s e = e
    output_is (entries.Var i) bound s e = choice_at i (bound i refl) ∙ e

    gives_these : (number : ℕ) (output : LayerEntry) → ((i : ℕ) → output ≡ entries.Var i → list_any (is_variable i) es ≡ true)
        → (s : ℕ) → state_of (state_of_variable (map entry_in es) ss) output ≡ s → GivesAs vars (record { line = number; inputs = es; output = output }) ss s
    gives_these number output bound s e = record {
      choice = choice;
      is_choice = choice_is;
      inputs = all_values (state_of_variable (map entry_in es) ss) choice es ss l a choice_at;
      output = output_is output bound s e;
    }

  -- what `claimed_state_given` gives where all inputs are allowed
  shown : (line : LayerTransition) (ss : List ℕ)
      → claimed_state_given variables (transition_in line) ss
      ≡ cond (list_all (allows variables (state_of_variable (map entry_in line.inputs) ss)) (zip (map entry_in line.inputs) ss))
      (Some (state_of (state_of_variable (map entry_in line.inputs) ss) line.output)) None
  shown line ss = by line.output
    where
      by : (output : LayerEntry) → claimed_state_given variables (record { line = line.line; inputs = map entry_in line.inputs; output = entry_in output }) ss
          ≡ cond (list_all (allows variables (state_of_variable (map entry_in line.inputs) ss)) (zip (map entry_in line.inputs) ss))
          (Some (state_of (state_of_variable (map entry_in line.inputs) ss) output)) None
      by (entries.Fixed f) = refl
      by (entries.Var i) = refl

  pub given_is_choice : (base : ℕ → ℕ) → IsChoice vars base → (line : LayerTransition) (ss : List ℕ) (s : ℕ) → length line.inputs ≡ length ss
      → ((i : ℕ) → line.output ≡ entries.Var i → IsTrue (list_any (is_variable i) line.inputs))
      → claimed_state_given variables (transition_in line) ss ≡ Some s → GivesAs vars line ss s
  given_is_choice base is_base line ss s l bound g =
      let all = list_all (allows variables (state_of_variable (map entry_in line.inputs) ss)) (zip (map entry_in line.inputs) ss) in
      let h : cond all (Some (state_of (state_of_variable (map entry_in line.inputs) ss) line.output)) None ≡ Some s = sym (shown line ss) ∙ g in
      elim (cases_Bool all) [
        | inl a ↦
            let k : Some (state_of (state_of_variable (map entry_in line.inputs) ss) line.output)
            ≡ Some s = sym (ap (λ v. cond v (Some (state_of (state_of_variable (map entry_in line.inputs) ss) line.output)) None) a) ∙ h in
            gives_these base is_base line.inputs ss l a line.line line.output bound s (same_Some _ s k)
        | inr a ↦ absurd (let k : None ≡ Some s = sym (ap (λ v. cond v (Some (state_of (state_of_variable (map entry_in line.inputs) ss) line.output)) None) a)
            ∙ h in cc)
      ]

  -- ---- the state of a choice is given

  consumed_is : (choice : ℕ → ℕ) (i : ℕ) (es : List LayerEntry) → list_any (is_variable i) es ≡ true
      → state_of_variable (map entry_in es) (map (state_of choice) es) i ≡ choice i
  consumed_is choice i [] m = cc
  consumed_is choice i (entries.Fixed f ∷ es) m = consumed_is choice i es m
  consumed_is choice i (entries.Var j ∷ es) m = elim (eqb_tells j i) [
    | inl e ↦ ap (λ v. cond v (choice j) (state_of_variable (map entry_in es) (map (state_of choice) es) i)) e.0 ∙ ap choice e.1
    | inr n ↦ ap (λ v. cond v (choice j) (state_of_variable (map entry_in es) (map (state_of choice) es) i)) n.0
        ∙ consumed_is choice i es (or_rest (eqb i j) _ (equal_swapped i j ∙ n.0) m)
  ]

  all_allowed : (n : ℕ) (value choice : ℕ → ℕ) → IsChoice vars choice → (es : List LayerEntry) → All (IsEntry n vars) es
      → ((i : ℕ) → list_any (is_variable i) es ≡ true → value i ≡ choice i)
      → list_all (allows variables value) (zip (map entry_in es) (map (state_of choice) es)) ≡ true
  all_allowed n value choice is [] there h = refl
  all_allowed n value choice is (entries.Fixed f ∷ es) there h =
      and_from (eqb f f) _ (eq-eqb f f refl) (all_allowed n value choice is es (All-tail (IsEntry n vars) (entries.Fixed f) es there) h)
  all_allowed n value choice is (entries.Var j ∷ es) there h =
      let below : j < length vars = (All-head (IsEntry n vars) (entries.Var j) es there).variable j refl in
      and_from (eqb (value j) (choice j) && list_any (λ t. t == choice j) (claimed_states_of variables (variable j))) _
      (and_from (eqb (value j) (choice j)) _ (eq-eqb (value j) (choice j) (h j (or_left (eqb j j) _ (eq-eqb j j refl))))
      (is_state_of j (choice j) below (is j below)))
      (all_allowed n value choice is es (All-tail (IsEntry n vars) (entries.Var j) es there) (λ i m. h i (or_right (eqb i j) _ m)))

  output_consumed : (choice : ℕ → ℕ) (es : List LayerEntry) (output : LayerEntry) → ((i : ℕ) → output ≡ entries.Var i → list_any (is_variable i) es ≡ true)
      → state_of (state_of_variable (map entry_in es) (map (state_of choice) es)) output ≡ state_of choice output
  output_consumed choice es (entries.Fixed f) bound = refl
  output_consumed choice es (entries.Var i) bound = consumed_is choice i es (bound i refl)

  pub choice_is_given : (n : ℕ) (line : LayerTransition) (ss : List ℕ) (s : ℕ) → All (IsEntry n vars) line.inputs
      → ((i : ℕ) → line.output ≡ entries.Var i → IsTrue (list_any (is_variable i) line.inputs))
      → GivesAs vars line ss s → claimed_state_given variables (transition_in line) ss ≡ Some s
  choice_is_given n line ss s there bound g =
      let states = map (state_of g.choice) line.inputs in
      ap (claimed_state_given variables (transition_in line)) (sym g.inputs)
      ∙ shown line states
      ∙ ap (λ v. cond v (Some (state_of (state_of_variable (map entry_in line.inputs) states) line.output)) None)
      (all_allowed n (state_of_variable (map entry_in line.inputs) states) g.choice g.is_choice line.inputs there (λ i m. consumed_is g.choice i line.inputs m))
      ∙ ap Some (output_consumed g.choice line.inputs line.output bound ∙ g.output)
