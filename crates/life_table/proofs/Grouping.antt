-- The groups of a line's open inputs.
use Rattle.std.proofs.Common.{◌≡◌, ◌≢◌, ℕ, zero, suc, ◌+◌, ◌<◌, ◌≤◌, List, [], ◌∷◌, ◌++◌, length, take, set, get_or, cond, nat_eq, Bool, true, false, refl, ap, sym, ◌∙◌, subst, ◌⊎◌, inl, inr, arith, ◌||◌, eq-eqb, ne_eqb, All, IsTrue, get_or-take, length-take-le}
use Rattle.std.specs.List.{list_any}
use Rattle.std.specs.List.Sorted.{IsPermutation}
use Rattle.std.proofs.lemmas.List.Sorted.{sum_by-IsPermutation, list_any-IsPermutation}
use Rattle.std.proofs.lemmas.Bool.Decides.{eqb_tells}
use Rattle.std.proofs.lemmas.List.Elements.{All-head, All-tail, All-cons}
use Rattle.std.proofs.lemmas.List.Folds.{list_any-append}
use Rattle.std.proofs.Math.Seq.{take-set-lt}
use Rattle.std.proofs.lemmas.List.{take_more_set}
use Rattle.std.proofs.lemmas.List.Sums.{sum_by-cons, sum_by_push}
use Rattle.std.proofs.lemmas.Bool.{eqb-false, or_parts, or_from, or_cases, or_left, or_right}
use Rattle.life_table.specs.Valid.{IsEntry, is_variable}
use Rattle.life_table.specs.Taking.{of_state, open_state, wanted_inputs, add_to, has_group, IsDistinct, first_variable, IsGrouped, AreGroups}
use Rattle.life_table.proofs.Free.{of_sum, zero_of}
use Rattle.life_table.specs.declared.table.Var.{Var}
use Rattle.life_table.specs.declared.table.Entry.{Entry}
use Rattle.life_table.specs.declared.table.Entry.TheVariants as entries
use Rattle.life_table.specs.declared.groups.Group.{Group}
use Rattle.life_base.proofs.Basics.{true_false}

-- the inputs of one group
abbrev pub of_group : (ℕ → ℕ) → ℕ → Group → ℕ
of_group choice t g = of_state t (choice g.variable) g.times

wanted_add : (choice : ℕ → ℕ) (t number : ℕ) (groups : List Group) → wanted_inputs choice (add_to number groups) t ≡ wanted_inputs choice groups t + of_state t
    (choice number) 1
wanted_add choice t number [] = let e = sum_by-cons (of_group choice t) (record { variable = number; times = 1 }) [] in omega (arith, e)
wanted_add choice t number (g ∷ groups) = elim (eqb_tells number g.variable) [
  | inl same ↦
      let e = ap (λ b. wanted_inputs choice (cond b (record { variable = g.variable; times = g.times + 1 } ∷ groups) (g ∷ add_to number groups)) t) same.0 in
      let f = sum_by-cons (of_group choice t) (record { variable = g.variable; times = g.times + 1 }) groups in
      let old = sum_by-cons (of_group choice t) g groups in
      let more = of_sum t (choice g.variable) (g.times + 1) g.times 1 refl in
      let one = ap (λ v. of_state t (choice v) 1) same.1 in
      omega (arith, e, f, old, more, one)
  | inr other ↦
      let e = ap (λ b. wanted_inputs choice (cond b (record { variable = g.variable; times = g.times + 1 } ∷ groups) (g ∷ add_to number groups)) t) other.0 in
      let f = sum_by-cons (of_group choice t) g (add_to number groups) in
      let old = sum_by-cons (of_group choice t) g groups in
      let r = wanted_add choice t number groups in
      omega (arith, e, f, old, r)
]

has_add : (v number : ℕ) (groups : List Group) → has_group v groups ≡ false → nat_eq v number ≡ false → has_group v (add_to number groups) ≡ false
has_add v number [] h other = or_from (nat_eq v number) false other refl
has_add v number (g ∷ groups) h other =
    let parts = or_parts (nat_eq v g.variable) (has_group v groups) h in
    elim (eqb_tells number g.variable) [
      | inl same ↦ ap (λ b. has_group v (cond b (record { variable = g.variable; times = g.times + 1 } ∷ groups) (g ∷ add_to number groups))) same.0 ∙ h
      | inr diff ↦ ap (λ b. has_group v (cond b (record { variable = g.variable; times = g.times + 1 } ∷ groups) (g ∷ add_to number groups))) diff.0
          ∙ or_from (nat_eq v g.variable) (has_group v (add_to number groups)) parts.0 (has_add v number groups parts.1 other)
    ]

distinct_add : (number : ℕ) (groups : List Group) → IsDistinct groups → IsDistinct (add_to number groups)
distinct_add number [] h = (refl, tt)
distinct_add number (g ∷ groups) h = elim (eqb_tells number g.variable) [
  | inl same ↦ subst (λ b. IsDistinct (cond b (record { variable = g.variable; times = g.times + 1 } ∷ groups) (g ∷ add_to number groups))) (sym same.0)
      (h.0, h.1)
  | inr diff ↦ subst (λ b. IsDistinct (cond b (record { variable = g.variable; times = g.times + 1 } ∷ groups) (g ∷ add_to number groups))) (sym diff.0)
      (has_add g.variable number groups h.0 (ne_eqb g.variable number (λ e. diff.1 (sym e))), distinct_add number groups h.1)
]

-- the groups are of other variables than one that none of them has
pub all_other : (v : ℕ) (groups : List Group) → has_group v groups ≡ false → All (λ (g : Group). nat_eq v g.variable ≡ false) groups
all_other v [] h = λ k d below. absurd (omega (arith, below))
all_other v (g ∷ groups) h =
    let parts = or_parts (nat_eq v g.variable) (has_group v groups) h in
    All-cons (λ (g : Group). nat_eq v g.variable ≡ false) g groups parts.0 (all_other v groups parts.1)

all_add : (P Q : Group → Type 0) (number : ℕ) (groups : List Group) → IsDistinct groups → All P groups
    → ((g : Group) → P g → nat_eq number g.variable ≡ false → Q g) →
    ((g : Group) → P g → number ≡ g.variable → Q (record { variable = g.variable; times = g.times + 1 })) → Q (record { variable = number; times = 1 })
    → All Q (add_to number groups)
all_add P Q number [] d h keep more new = All-cons Q (record { variable = number; times = 1 }) [] new (λ k d below. absurd (omega (arith, below)))
all_add P Q number (g ∷ groups) d h keep more new =
    let head = All-head P g groups h in
    let tail = All-tail P g groups h in
    elim (eqb_tells number g.variable) [
      | inl same ↦
          let others = all_other number groups (ap (λ v. has_group v groups) same.1 ∙ d.0) in
          subst (λ b. All Q (cond b (record { variable = g.variable; times = g.times + 1 } ∷ groups) (g ∷ add_to number groups))) (sym same.0)
          (All-cons Q (record { variable = g.variable; times = g.times + 1 }) groups (more g head same.1)
          (λ k e below. keep (get_or groups k e) (tail k e below) (others k e below)))
      | inr diff ↦
          subst (λ b. All Q (cond b (record { variable = g.variable; times = g.times + 1 } ∷ groups) (g ∷ add_to number groups))) (sym diff.0)
          (All-cons Q g (add_to number groups) (keep g head diff.0) (all_add P Q number groups d.1 tail keep more new))
    ]

first_add : (number : ℕ) (groups : List Group) → 0 < length groups → (0 < length (add_to number groups))
    × (first_variable (add_to number groups) ≡ first_variable groups)
first_add number [] h = absurd (omega (arith, h))
first_add number (g ∷ groups) h = by (nat_eq number g.variable)
  where
    by : (b : Bool) → let new : List Group = cond b (record { variable = g.variable; times = g.times + 1 } ∷ groups) (g ∷ add_to number groups) in
        (0 < length new) × (first_variable new ≡ g.variable)
    by true = (omega arith, refl)
    by false = (omega arith, refl)

push_any : (v : ℕ) (es : List Entry) (e : Entry) → list_any (is_variable v) (es ++ e ∷ []) ≡ (list_any (is_variable v) es || (is_variable v e || false))
push_any v es e = list_any-append (is_variable v) es (e ∷ [])

module _ (first output : Entry) (es : List Entry) (groups : List Group) (h : IsGrouped first output es groups) where
  -- one more open input
  pub grouped_add : (i : ℕ) → is_variable i first ≡ false → IsGrouped first output (es ++ entries.Var i ∷ []) (add_to i groups)
  grouped_add i open_i = record {
    counts = λ choice t.
        let w = wanted_add choice t i groups in
        let p = sum_by_push (open_state first choice t) es (entries.Var i) in
        let o : open_state first choice t (entries.Var i) ≡ of_state t (choice i) 1 = ap (λ b. cond b 0 (of_state t (choice i) 1)) open_i in
        let c = h.counts choice t in
        omega (arith, w, p, o, c);
    distinct = distinct_add i groups h.distinct;
    unsettled = all_add (λ g. is_variable g.variable first ≡ false) (λ g. is_variable g.variable first ≡ false) i groups h.distinct h.unsettled (λ g p o. p)
        (λ g p o. p) open_i;
    stands = all_add (λ g. IsTrue (list_any (is_variable g.variable) es) ⊎ (output ≡ entries.Var g.variable))
        (λ g. IsTrue (list_any (is_variable g.variable) (es ++ entries.Var i ∷ [])) ⊎ (output ≡ entries.Var g.variable)) i groups h.distinct h.stands
        (λ g p o. elim p [
          | inl s ↦ inl
              (push_any g.variable es (entries.Var i) ∙ or_left (list_any (is_variable g.variable) es) (nat_eq g.variable i || false) s)
          | inr s ↦ inr s
        ])
        (λ g p o. inl (here g.variable (sym o)))
        (inl (here i refl));
    some = all_add (λ g. IsTrue (list_any (is_variable g.variable) es) → 0 < g.times)
        (λ g. IsTrue (list_any (is_variable g.variable) (es ++ entries.Var i ∷ [])) → 0 < g.times) i groups h.distinct h.some
        (λ g p o s. elim (or_cases (list_any (is_variable g.variable) es) (nat_eq g.variable i || false) (sym (push_any g.variable es (entries.Var i)) ∙ s)) [
          | inl old ↦ p old
          | inr new ↦ absurd (true_false (nat_eq g.variable i || false) new
              (or_from (nat_eq g.variable i) false (ne_eqb g.variable i (λ e. eqb-false i g.variable o (sym e))) refl))
        ])
        (λ g p o s. omega arith)
        (λ s. omega arith);
    output_first = λ j is open_j. let old = h.output_first j is open_j in let new = first_add i groups old.0 in (new.0, new.1 ∙ old.1);
  } where
    here : (v : ℕ) → v ≡ i → list_any (is_variable v) (es ++ entries.Var i ∷ []) ≡ true
    here v e = push_any v es (entries.Var i) ∙ or_right (list_any (is_variable v) es) (nat_eq v i || false) (or_left (nat_eq v i) false (eq-eqb v i e))

  -- one more input that the centre settles
  pub grouped_skip : (e : Entry) → ((choice : ℕ → ℕ) (t : ℕ) → open_state first choice t e ≡ 0)
      → ((v : ℕ) → is_variable v first ≡ false → is_variable v e ≡ false) → IsGrouped first output (es ++ e ∷ []) groups
  grouped_skip e none other = record {
    counts = λ choice t. let p = sum_by_push (open_state first choice t) es e in let z = none choice t in let c = h.counts choice t in omega (arith, p, z, c);
    distinct = h.distinct;
    unsettled = h.unsettled;
    stands = λ k d below. elim (h.stands k d below) [
      | inl s ↦ inl (push_any (get_or groups k d).variable es e ∙ or_left (list_any (is_variable (get_or groups k d).variable) es)
          (is_variable (get_or groups k d).variable e || false) s)
      | inr s ↦ inr s
    ];
    some = λ k d below s. elim (or_cases (list_any (is_variable (get_or groups k d).variable) es) (is_variable (get_or groups k d).variable e || false)
        (sym (push_any (get_or groups k d).variable es e) ∙ s)) [
          | inl old ↦ h.some k d below old
          | inr new ↦ absurd (true_false (is_variable (get_or groups k d).variable e || false) new
              (or_from (is_variable (get_or groups k d).variable e) false (other (get_or groups k d).variable (h.unsettled k d below)) refl))
        ];
    output_first = h.output_first;
  }

-- a fixed input is settled, and one that is the centre's variable
pub fixed_skip : (first : Entry) (s : ℕ) (v : ℕ) → is_variable v first ≡ false → is_variable v (entries.Fixed s) ≡ false
fixed_skip first s v h = refl

pub centre_skip : (first : Entry) (i : ℕ) → is_variable i first ≡ true → (v : ℕ) → is_variable v first ≡ false → is_variable v (entries.Var i) ≡ false
centre_skip first i h v open_v = elim (eqb_tells v i) [
  | inl same ↦ absurd (true_false (is_variable v first) (ap (λ j. is_variable j first) same.1 ∙ h) open_v)
  | inr other ↦ other.0
]

pub centre_open : (first : Entry) (i : ℕ) → is_variable i first ≡ true → (choice : ℕ → ℕ) (t : ℕ) → open_state first choice t (entries.Var i) ≡ 0
centre_open first i h choice t = ap (λ b. cond b 0 (of_state t (choice i) 1)) h

-- no input yet
pub grouped_none : (first output : Entry) → ((i : ℕ) → output ≡ entries.Var i → is_variable i first ≡ false → ⊥) → IsGrouped first output [] []
grouped_none first output h = record {
  counts = λ choice t. refl;
  distinct = tt;
  unsettled = λ k d below. absurd (omega (arith, below));
  stands = λ k d below. absurd (omega (arith, below));
  some = λ k d below. absurd (omega (arith, below));
  output_first = λ i is open_i. absurd (h i is open_i);
}

number_of : Entry → ℕ
number_of (entries.Fixed s) = 0
number_of (entries.Var i) = i

pub same_number : (i j : ℕ) → ◌≡◌ {A = Entry} (entries.Var i) (entries.Var j) → i ≡ j
unfolding number_of
same_number i j e = ap number_of e

-- no input yet, and an open output
pub grouped_output : (first output : Entry) (i : ℕ) → output ≡ entries.Var i → is_variable i first ≡ false
    → IsGrouped first output [] (record { variable = i; times = 0 } ∷ [])
grouped_output first output i is open_i = record {
  counts = λ choice t. let e = sum_by-cons (of_group choice t) (record { variable = i; times = 0 }) [] in let z = zero_of t (choice i) in omega (arith, e, z);
  distinct = (refl, tt);
  unsettled = All-cons (λ (g : Group). is_variable g.variable first ≡ false) (record { variable = i; times = 0 }) [] open_i
      (λ k d below. absurd (omega (arith, below)));
  stands = All-cons (λ (g : Group). IsTrue (list_any (is_variable g.variable) []) ⊎ (output ≡ entries.Var g.variable)) (record { variable = i; times = 0 }) []
      (inr is) (λ k d below. absurd (omega (arith, below)));
  some = All-cons (λ (g : Group). IsTrue (list_any (is_variable g.variable) []) → 0 < g.times) (record { variable = i; times = 0 }) []
      (λ s. absurd (let z : ⊥ = cc in z)) (λ k d below. absurd (omega (arith, below)));
  output_first = λ j is_j open_j. (omega arith, same_number i j (sym is ∙ is_j));
}

-- a variable among the inputs is there
there_below : (vars : List Var) (v : ℕ) (es : List Entry) → All (IsEntry 256 vars) es → list_any (is_variable v) es ≡ true → v < length vars
there_below vars v [] h k = absurd (let z : ⊥ = cc in z)
there_below vars v (entries.Fixed s ∷ es) h k = there_below vars v es (All-tail (IsEntry 256 vars) (entries.Fixed s) es h) k
there_below vars v (entries.Var i ∷ es) h k = elim (eqb_tells v i) [
  | inl same ↦ let b : i < length vars = (All-head (IsEntry 256 vars) (entries.Var i) es h).variable i refl in omega (arith, same.1, b)
  | inr other ↦ there_below vars v es (All-tail (IsEntry 256 vars) (entries.Var i) es h) (sym (ap (λ b. b || list_any (is_variable v) es) other.0) ∙ k)
]

-- the groups of a line's inputs can be searched
pub are_groups : (vars : List Var) (first output : Entry) (es : List Entry) (groups : List Group) → All (IsEntry 256 vars) es
    → ((i : ℕ) → output ≡ entries.Var i → IsTrue (list_any (is_variable i) (first ∷ es))) →
    IsGrouped first output es groups → AreGroups vars groups
are_groups vars first output es groups entries_are bound h = record {
  there = λ k d below. there_below vars (get_or groups k d).variable es entries_are (stands k d below);
  some = λ k d below. h.some k d below (stands k d below);
  distinct = h.distinct;
} where
  stands : (k : ℕ) (d : Group) → k < length groups → list_any (is_variable (get_or groups k d).variable) es ≡ true
  stands k d below = elim (h.stands k d below) [
    | inl s ↦ s
    | inr s ↦ elim (or_cases (is_variable (get_or groups k d).variable first) (list_any (is_variable (get_or groups k d).variable) es)
        (bound (get_or groups k d).variable s)) [
          | inl at_first ↦ absurd (true_false (is_variable (get_or groups k d).variable first) at_first (h.unsettled k d below))
          | inr later ↦ later
        ]
  ]

-- what stands in the array where there is no group
abbrev pub no_group : Group
no_group = record { variable = 0; times = 0 }

add_set : (number : ℕ) (groups : List Group) (k : ℕ) → k < length groups → ((j : ℕ) → j < k → (get_or groups j no_group).variable ≢ number)
    → (get_or groups k no_group).variable ≡ number →
    set groups k (record { variable = (get_or groups k no_group).variable; times = (get_or groups k no_group).times + 1 }) ≡ add_to number groups
add_set number [] k below others here = absurd (omega (arith, below))
add_set number (g ∷ groups) zero below others here =
    sym (ap (λ b. cond b (record { variable = g.variable; times = g.times + 1 } ∷ groups) (g ∷ add_to number groups)) (eq-eqb number g.variable (sym here)))
add_set number (g ∷ groups) (suc k) below others here =
    let r = add_set number groups k (omega (arith, below)) (λ j small. others (suc j) (omega (arith, small))) here in
    let other = ne_eqb number g.variable (λ e. others 0 (omega arith) (sym e)) in
    ap (λ zs. g ∷ zs) r ∙ sym (ap (λ b. cond b (record { variable = g.variable; times = g.times + 1 } ∷ groups) (g ∷ add_to number groups)) other)

add_push : (number : ℕ) (groups : List Group) → ((j : ℕ) → j < length groups → (get_or groups j no_group).variable ≢ number)
    → groups ++ record { variable = number; times = 1 } ∷ [] ≡ add_to number groups
add_push number [] others = refl
add_push number (g ∷ groups) others =
    let r = add_push number groups (λ j small. others (suc j) (omega (arith, small))) in
    let other = ne_eqb number g.variable (λ e. others 0 (omega arith) (sym e)) in
    ap (λ zs. g ∷ zs) r ∙ sym (ap (λ b. cond b (record { variable = g.variable; times = g.times + 1 } ∷ groups) (g ∷ add_to number groups)) other)

-- the groups are the first ones of an array
module _ (number : ℕ) (array : List Group) (count : ℕ) where
  pub added_at : (k : ℕ) → k < count → count ≤ length array → ((j : ℕ) → j < k → (get_or array j no_group).variable ≢ number)
      → (get_or array k no_group).variable ≡ number →
      take count (set array k (record { variable = (get_or array k no_group).variable; times = (get_or array k no_group).times + 1 }))
      ≡ add_to number (take count array)
  added_at k below space others here =
      let at : (j : ℕ) → j < count → get_or (take count array) j no_group ≡ get_or array j no_group = λ j small. get_or-take count array j no_group small in
      let size : length (take count array) ≡ count = length-take-le count array space in
      take-set-lt count array k (record { variable = (get_or array k no_group).variable; times = (get_or array k no_group).times + 1 }) below
      ∙ ap (λ (g : Group). set (take count array) k (record { variable = g.variable; times = g.times + 1 })) (sym (at k below))
      ∙ add_set number (take count array) k (omega (arith, size, below))
      (λ j small e. others j small (ap (λ (g : Group). g.variable) (sym (at j (omega (arith, small, below)))) ∙ e))
      (ap (λ (g : Group). g.variable) (at k below) ∙ here)

  pub added_end : count < length array → ((j : ℕ) → j < count → (get_or array j no_group).variable ≢ number) →
      take (count + 1) (set array count (record { variable = number; times = 1 })) ≡ add_to number (take count array)
  added_end space others =
      let size : length (take count array) ≡ count = length-take-le count array (omega (arith, space)) in
      take_more_set array count (record { variable = number; times = 1 }) space
      ∙ add_push number (take count array)
      (λ j small e. others j (omega (arith, small, size))
      (ap (λ (g : Group). g.variable) (sym (get_or-take count array j no_group (omega (arith, small, size)))) ∙ e))

-- no group has more inputs than there are
pub small_add : (number n : ℕ) (groups : List Group) → IsDistinct groups → All (λ (g : Group). g.times ≤ n) groups
    → All (λ (g : Group). g.times ≤ n + 1) (add_to number groups)
small_add number n groups d h = all_add (λ g. g.times ≤ n) (λ g. g.times ≤ n + 1) number groups d h (λ g p o. omega (arith, p)) (λ g p o. omega (arith, p))
    (omega arith)

pub small_more : (n : ℕ) (groups : List Group) → All (λ (g : Group). g.times ≤ n) groups → All (λ (g : Group). g.times ≤ n + 1) groups
small_more n groups h = λ k d below. let p = h k d below in omega (arith, p)

-- the groups of inputs are those of the same inputs in another order
pub grouped_moved : (first output : Entry) (es moved : List Entry) (groups : List Group) → IsPermutation es moved → IsGrouped first output moved groups
    → IsGrouped first output es groups
grouped_moved first output es moved groups same h = record {
  counts = λ choice t. h.counts choice t ∙ sum_by-IsPermutation (open_state first choice t) es moved same;
  distinct = h.distinct;
  unsettled = h.unsettled;
  stands = λ k d below. elim (h.stands k d below) [
    | inl s ↦ inl (list_any-IsPermutation (is_variable (get_or groups k d).variable) es moved same ∙ s)
    | inr s ↦ inr s
  ];
  some = λ k d below s. h.some k d below (sym (list_any-IsPermutation (is_variable (get_or groups k d).variable) es moved same) ∙ s);
  output_first = h.output_first;
}
