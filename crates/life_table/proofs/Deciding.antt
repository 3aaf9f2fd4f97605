-- What a line gives by counts, from the groups of its open inputs and the places that its settled inputs leave free.
use Rattle.std.proofs.Common.{◌≡◌, ℕ, ◌+◌, ◌-◌, ◌<◌, List, [], ◌∷◌, map, take, drop, length, get_or, cond, nat_eq, Bool, true, false, refl, ap, sym, ◌∙◌, subst, inl, inr, arith, length-drop, eqb-true, Option, Some, None, slice_get, IfSome, All, take_all}
use Rattle.std.specs.List.{sum_by}
use Rattle.std.specs.Option.{option_map_or}
use Rattle.std.proofs.lemmas.Bool.Decides.{eqb_tells}
use Rattle.std.proofs.lemmas.List.Elements.{All-head, All-tail}
use Rattle.std.proofs.lemmas.List.Sums.{sum_by-cons}
use Rattle.std.proofs.lemmas.Bool.{cases_Bool}
use Rattle.std.proofs.lemmas.Option.{same_Some}
use Rattle.life_table.specs.Meaning.{IsChoice, has_state, state_of, count_of, GivesByCounts}
use Rattle.life_table.specs.Found.{IsFoundOf}
use Rattle.life_table.specs.Valid.{is_variable}
use Rattle.life_table.specs.Taking.{of_state, free_count, can_be_state, settled_state, settled_count, open_state, wanted_inputs, first_variable, IsGrouped, Completes, CompletesWith}
use Rattle.life_table.proofs.Adding.{directives_same}
use Rattle.life_table.proofs.Choices.{changed, changed_same, changed_choice}
use Rattle.life_table.proofs.Counts.{count-cons}
use Rattle.life_table.proofs.Grouping.{of_group}
use Rattle.life_table.proofs.Searching.{drop_at}
use Rattle.life_table.specs.declared.found.Found.{Found}
use Rattle.life_table.specs.declared.table.Var.{Var}
use Rattle.life_table.specs.declared.table.Entry.{Entry}
use Rattle.life_table.specs.declared.table.Entry.TheVariants as entries
use Rattle.life_table.specs.declared.table.Transition.{Transition}
use Rattle.life_table.specs.declared.groups.Group.{Group}
use Rattle.life_base.proofs.Basics.{true_false}

-- the centre's variable has the centre's state
centre_is : (choice : ℕ → ℕ) (i : ℕ) (first : Entry) → is_variable i first ≡ true → state_of choice first ≡ choice i
centre_is choice i (entries.Fixed s) h = absurd (let z : ⊥ = cc in z)
centre_is choice i (entries.Var j) h = ap choice (sym (eqb-true i j h))

-- one input is settled or open
one_entry : (choice : ℕ → ℕ) (first : Entry) (centre t : ℕ) → state_of choice first ≡ centre → (e : Entry) →
    of_state t (state_of choice e) 1 ≡ option_map_or (λ s. of_state t s 1) (settled_state first centre e) 0 + open_state first choice t e
one_entry choice first centre t h (entries.Fixed s) = omega arith
one_entry choice first centre t h (entries.Var i) = elim (cases_Bool (is_variable i first)) [
  | inl is_one ↦
      let a = ap (λ b. option_map_or (λ s. of_state t s 1) (cond b (Some centre) None) 0 + cond b 0 (of_state t (choice i) 1)) is_one in
      let b = ap (λ s. of_state t s 1) (sym (centre_is choice i first is_one) ∙ h) in
      omega (arith, a, b)
  | inr is_none ↦
      let a = ap (λ b. option_map_or (λ s. of_state t s 1) (cond b (Some centre) None) 0 + cond b 0 (of_state t (choice i) 1)) is_none in
      omega (arith, a)
]

-- each input is settled or open
split_count : (choice : ℕ → ℕ) (first : Entry) (centre t : ℕ) → state_of choice first ≡ centre → (es : List Entry) →
    count_of t (map (state_of choice) es) ≡ settled_count first centre t es + sum_by (open_state first choice t) es
split_count choice first centre t h [] = refl
split_count choice first centre t h (e ∷ es) =
    let a = count-cons t (state_of choice e) (map (state_of choice) es) in
    let b = sum_by-cons (λ entry. option_map_or (λ s. of_state t s 1) (settled_state first centre entry) 0) e es in
    let d = sum_by-cons (open_state first choice t) e es in
    let one = one_entry choice first centre t h e in
    let r = split_count choice first centre t h es in
    omega (arith, a, b, d, one, r)

some_none : {X : Type 0} {x : X} → Some x ≡ None → ⊥
some_none e = cc

some_holds : {X : Type 0} (p : X → Bool) (o : Option X) → option_map_or p o false ≡ true → IfSome o (λ x. p x ≡ true)
some_holds p None h = absurd (let z : ⊥ = cc in z)
some_holds p (Some x) h = h

-- a choice that makes the centre's input the centre
pub record IsCentred (first : Entry) (centre : ℕ) (choice new : ℕ → ℕ) : Type 0 where
  pub first_is : state_of new first ≡ centre
  pub others : (i : ℕ) → is_variable i first ≡ false → new i ≡ choice i

centred : (vars : List Var) (first : Entry) (centre : ℕ) → can_be_state vars first centre ≡ true → (choice : ℕ → ℕ) → IsChoice vars choice → (new : ℕ → ℕ)
    × IsChoice vars new × IsCentred first centre choice new
centred vars (entries.Fixed s) centre h choice is = (choice, is, record { first_is = eqb-true s centre h; others = λ i open_i. refl })
centred vars (entries.Var j) centre h choice is = (
  changed choice j centre,
  changed_choice vars choice j centre is (some_holds (λ var. has_state var centre) (slice_get vars j) h),
  record {
    first_is = changed_same choice j centre;
    others = λ i open_i. elim (eqb_tells j i) [
      | inl same ↦ absurd (elim (eqb_tells i j) [ inl is_one ↦ true_false (nat_eq i j) is_one.0 open_i | inr is_none ↦ is_none.1 (sym same.1) ])
      | inr other ↦ ap (λ b. cond b centre (choice i)) other.0
    ];
  },
)

wanted_same : (first : Entry) (centre : ℕ) (choice new : ℕ → ℕ) → IsCentred first centre choice new → (t : ℕ) (groups : List Group)
    → All (λ (g : Group). is_variable g.variable first ≡ false) groups →
    wanted_inputs new groups t ≡ wanted_inputs choice groups t
wanted_same first centre choice new c t [] h = refl
wanted_same first centre choice new c t (g ∷ groups) h =
    let a = sum_by-cons (of_group new t) g groups in
    let b = sum_by-cons (of_group choice t) g groups in
    let e = ap (λ s. of_state t s g.times) (c.others g.variable (All-head (λ (g : Group). is_variable g.variable first ≡ false) g groups h)) in
    let r = wanted_same first centre choice new c t groups (All-tail (λ (g : Group). is_variable g.variable first ≡ false) g groups h) in
    omega (arith, a, b, e, r)

head_is : (a b : ℕ) → a ∷ [] ≡ b ∷ [] → a ≡ b
head_is a b e = cc

module _ (vars : List Var) (line : Transition) (first : Entry) (rest : List Entry) (shape : line.inputs ≡ first ∷ rest) (centre : ℕ) (others : List ℕ) where
  centre_of : (s : ℕ) (g : GivesByCounts vars line centre others s) → state_of g.choice first ≡ centre
  centre_of s g = head_is (state_of g.choice first) centre (ap (λ es. map (state_of g.choice) (take 1 es)) (sym shape) ∙ g.first)

  count_rest : (s : ℕ) (g : GivesByCounts vars line centre others s) (t : ℕ) → count_of t (map (state_of g.choice) rest) ≡ count_of t others
  count_rest s g t = ap (λ es. count_of t (map (state_of g.choice) (drop 1 es))) (sym shape) ∙ g.counts t

  -- the settled inputs are too many
  pub too_many : (t : ℕ) → count_of t others < settled_count first centre t rest → (s : ℕ) → GivesByCounts vars line centre others s → ⊥
  too_many t few s g =
      let a = split_count g.choice first centre t (centre_of s g) rest in
      let b = count_rest s g t in
      absurd (omega (arith, a, b, few))

  module _ (output_groups : List Group) (free : ℕ) (grouped : IsGrouped first line.output rest output_groups)
      (left : (t : ℕ) → settled_count first centre t rest + free_count t free others ≡ count_of t others) where
    -- the groups take the free places
    pub from_gives : (s : ℕ) (g : GivesByCounts vars line centre others s) → Completes vars output_groups others free
    from_gives s g = record {
      choice = g.choice;
      is_choice = g.is_choice;
      counts = λ t.
          let a = split_count g.choice first centre t (centre_of s g) rest in
          let b = count_rest s g t in
          let c = grouped.counts g.choice t in
          let d = left t in
          omega (arith, a, b, c, d);
    }

    pub to_gives : can_be_state vars first centre ≡ true → (c : Completes vars output_groups others free) → (new : ℕ → ℕ) × IsCentred first centre c.choice new
        × GivesByCounts vars line centre others (state_of new line.output)
    to_gives may c =
        let r = centred vars first centre may c.choice c.is_choice in (
          r.0,
          r.2,
          record {
            choice = r.0;
            is_choice = r.1;
            first = ap (λ es. map (state_of r.0) (take 1 es)) shape ∙ ap (λ s. s ∷ []) r.2.first_is;
            counts = λ t.
                let a = split_count r.0 first centre t r.2.first_is rest in
                let b = ap (λ es. count_of t (map (state_of r.0) (drop 1 es))) shape in
                let d = grouped.counts r.0 t in
                let e = wanted_same first centre c.choice r.0 r.2 t output_groups grouped.unsettled in
                let f = left t in
                let g = c.counts t in
                omega (arith, a, b, d, e, f, g);
            output = refl;
          },
        )

    -- where the output is settled
    settled_is : (choice : ℕ → ℕ) → state_of choice first ≡ centre → (e : Entry) (o : ℕ) → settled_state first centre e ≡ Some o → state_of choice e ≡ o
    settled_is choice h (entries.Fixed s) o is = same_Some s o is
    settled_is choice h (entries.Var i) o is = elim (cases_Bool (is_variable i first)) [
      | inl is_one ↦ sym (centre_is choice i first is_one) ∙ h ∙ same_Some centre o (sym (ap (λ b. cond b (Some centre) None) is_one) ∙ is)
      | inr is_none ↦ absurd (some_none (sym (sym (ap (λ b. cond b (Some centre) None) is_none) ∙ is)))
    ]

    pub gives_settled : can_be_state vars first centre ≡ true → (o : ℕ) → settled_state first centre line.output ≡ Some o
        → Completes vars output_groups others free →
        GivesByCounts vars line centre others o × ((s : ℕ) → GivesByCounts vars line centre others s → s ≡ o)
    gives_settled may o is c =
        let r = to_gives may c in (
          subst (GivesByCounts vars line centre others) (settled_is r.0 r.1.first_is line.output o is) r.2,
          λ s g. sym g.output ∙ settled_is g.choice (centre_of s g) line.output o is,
        )

    -- where the output is open
    open_is : (choice new : ℕ → ℕ) → IsCentred first centre choice new → (e : Entry) → settled_state first centre e ≡ None
        → ((i : ℕ) → e ≡ entries.Var i → is_variable i first ≡ false → first_variable output_groups ≡ i) →
        (state_of new e ≡ choice (first_variable output_groups)) × (state_of choice e ≡ choice (first_variable output_groups))
    open_is choice new c (entries.Fixed s) is h = absurd (some_none is)
    open_is choice new c (entries.Var i) is h = elim (cases_Bool (is_variable i first)) [
      | inl is_one ↦ absurd (some_none (sym (ap (λ b. cond b (Some centre) None) is_one) ∙ is))
      | inr is_none ↦ let v = h i refl is_none in (c.others i is_none ∙ ap choice (sym v), ap choice (sym v))
    ]

    pub gives_open : can_be_state vars first centre ≡ true → settled_state first centre line.output ≡ None → (found : Found)
        → IsFoundOf (CompletesWith vars output_groups others free) found →
        IsFoundOf (GivesByCounts vars line centre others) found
    unfolding from_gives
    gives_open may is found h =
        directives_same (CompletesWith vars output_groups others free) (GivesByCounts vars line centre others)
        (λ s c. let r = to_gives may c.completes in
        subst (GivesByCounts vars line centre others) ((open_is c.completes.choice r.0 r.1 line.output is first_one).0 ∙ c.is) r.2)
        (λ s g. record {
          completes = from_gives s g;
          is = sym (open_is g.choice g.choice (record { first_is = centre_of s g; others = λ i open_i. refl }) line.output is first_one).1 ∙ g.output;
        })
        found h
      where
        first_one : (i : ℕ) → line.output ≡ entries.Var i → is_variable i first ≡ false → first_variable output_groups ≡ i
        first_one i is open_i = (grouped.output_first i is open_i).1

-- a line's inputs are the centre's and the others
pub shape_of : (seen inputs : List Entry) → seen ≡ inputs → 0 < length inputs → inputs ≡ get_or seen 0 (entries.Fixed 0) ∷ take (length seen - 1) (drop 1 seen)
shape_of seen inputs same some =
    sym same ∙ drop_at seen 0 (entries.Fixed 0) (omega (arith, some, ap length same))
    ∙ ap (λ es. get_or seen 0 (entries.Fixed 0) ∷ es) (sym (take_all (length seen - 1) (drop 1 seen) (simp length-drop (omega arith))))

pub rest_of : (cells : List ℕ) → take (length cells - 1) (drop 1 cells) ≡ drop 1 cells
rest_of cells = take_all (length cells - 1) (drop 1 cells) (simp length-drop (omega arith))

pub rest_entries : (P : Entry → Type 0) (inputs : List Entry) (first : Entry) (rest : List Entry) → inputs ≡ first ∷ rest → All P inputs → All P rest
rest_entries P inputs first rest shape h = All-tail P first rest (subst (All P) shape h)
