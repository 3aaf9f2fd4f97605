-- Groups take free places.
use Rattle.std.proofs.Common.{◌≡◌, ℕ, zero, suc, ◌+◌, ◌^◌, ◌<◌, ◌≤◌, List, [], ◌∷◌, length, drop, set, get_or, cond, nat_eq, false, refl, ◌⊎◌, ap, sym, ◌∙◌, subst, inl, inr, arith, slice_index, replicate, eqb-true, eq-eqb, ◌↔◌, add-one, Option, Some, None, slice_get, IfSome, IsTrue, get_or-set_same, get_or-set_other}
use Rattle.std.specs.Int.{bit_at}
use Rattle.std.proofs.Math.Seq.{drop-cons}
use Rattle.std.proofs.lemmas.Bool.Decides.{eqb_tells}
use Rattle.std.proofs.lemmas.List.{drop_all}
use Rattle.std.proofs.lemmas.List.Sums.{sum_by-cons}
use Rattle.std.proofs.lemmas.Bool.{or_parts}
use Rattle.life_table.specs.Meaning.{HasState}
use Rattle.life_table.specs.Found.{Consistent, IsFoundOf, Adds}
use Rattle.life_table.specs.declared.found.Found.{Found}
use Rattle.life_table.specs.declared.found.Found.TheVariants.{Nothing, Two}
use Rattle.life_table.proofs.Adding.{directives_same, adds_more}
use Rattle.life_table.specs.Taking.{of_state, free_count, wanted_inputs, has_group, IsDistinct, first_variable, AreGroups, Completes, CompletesWith, AreFailed, GroupTakes}
use Rattle.life_table.proofs.Choices.{changed, changed_same, changed_choice}
use Rattle.life_table.proofs.Free.{same_state, none_free, no_count, at_place}
use Rattle.life_table.proofs.Grouping.{of_group, no_group}
use Rattle.life_table.specs.declared.table.Var.{Var}
use Rattle.life_table.specs.declared.groups.Group.{Group}

pub drop_at : {X : Type 0} (xs : List X) (n : ℕ) (d : X) → n < length xs → drop n xs ≡ get_or xs n d ∷ drop (n + 1) xs
drop_at xs n d below = rw add-one (drop-cons xs n d below)

-- no group is of the variable that changes
pub wanted_changed : (choice : ℕ → ℕ) (v s t : ℕ) (groups : List Group) → has_group v groups ≡ false → wanted_inputs (changed choice v s) groups t
    ≡ wanted_inputs choice groups t
wanted_changed choice v s t [] h = refl
wanted_changed choice v s t (g ∷ groups) h =
    let parts = or_parts (nat_eq v g.variable) (has_group v groups) h in
    let a = sum_by-cons (of_group (changed choice v s) t) g groups in
    let b = sum_by-cons (of_group choice t) g groups in
    let r = wanted_changed choice v s t groups parts.1 in
    let e = ap (λ x. of_state t (cond x s (choice g.variable)) g.times) parts.0 in
    omega (arith, a, b, r, e)

-- the variable of one group isn't that of a later one
pub distinct_at : (groups : List Group) (k : ℕ) (d : Group) → k < length groups → IsDistinct groups
    → has_group (get_or groups k d).variable (drop (k + 1) groups) ≡ false
distinct_at [] k d below h = absurd (omega (arith, below))
distinct_at (g ∷ groups) zero d below h = h.0
distinct_at (g ∷ groups) (suc k) d below h =
    let r = distinct_at groups k d (omega (arith, below)) h.1 in
    subst (λ n. has_group (get_or groups k d).variable (drop n (g ∷ groups)) ≡ false) (later k)
    (subst (λ n. has_group (get_or groups k d).variable (drop n groups) ≡ false) (sym (one_more k)) r)
  where
    one_more : (k : ℕ) → suc k ≡ k + 1
    one_more k = omega arith

    later : (k : ℕ) → suc (suc k) ≡ suc k + 1
    later k = omega arith

-- no group is left
module _ (vars : List Var) (states : List ℕ) (free : ℕ) where
  pub completes_none : Consistent vars [] [] → free ≡ 0 → Completes vars [] states free
  completes_none c none = record
      { choice = c.choice; is_choice = c.is_choice; counts = λ t. sym (none_free t states) ∙ ap (λ n. free_count t n states) (sym none) }

  pub none_completes : free < 2 ^ length states → Completes vars [] states free → free ≡ 0
  none_completes below c = no_count free states below (λ t. sym (c.counts t))

-- one group more
module _ (vars : List Var) (g : Group) (groups : List Group) (states : List ℕ) (free : ℕ) where
  -- its variable is a state that stands at a free place, often enough
  pub first_place : 0 < g.times → (c : Completes vars (g ∷ groups) states free) → (k : ℕ) × (k < length states) × (bit_at free k ≡ 1)
      × (slice_index states k ≡ c.choice g.variable)
  first_place some c =
      let e = sum_by-cons (of_group c.choice (c.choice g.variable)) g groups in
      let s = same_state (c.choice g.variable) g.times in
      at_place (c.choice g.variable) free states (omega (arith, e, s, some, c.counts (c.choice g.variable)))

  pub enough : (c : Completes vars (g ∷ groups) states free) → free_count (c.choice g.variable) free states < g.times → ⊥
  enough c few =
      let e = sum_by-cons (of_group c.choice (c.choice g.variable)) g groups in
      let s = same_state (c.choice g.variable) g.times in
      absurd (omega (arith, e, s, few, c.counts (c.choice g.variable)))

  -- the others complete what its variable leaves free
  pub others_complete : (place rest : ℕ) → GroupTakes vars g states place free rest → (c : Completes vars (g ∷ groups) states free)
      → slice_index states place ≡ c.choice g.variable → Completes vars groups states rest
  others_complete place rest takes c is = record {
    choice = c.choice;
    is_choice = c.is_choice;
    counts = λ t.
        let e = sum_by-cons (of_group c.choice t) g groups in
        let s = ap (λ s. of_state t s g.times) is in
        omega (arith, e, s, c.counts t, takes.counts t);
  }

  pub completes_more : (place rest : ℕ) → has_group g.variable groups ≡ false → GroupTakes vars g states place free rest → Completes vars groups states rest
      → Completes vars (g ∷ groups) states free
  completes_more place rest other takes c = record {
    choice = changed c.choice g.variable (slice_index states place);
    is_choice = changed_choice vars c.choice g.variable (slice_index states place) c.is_choice takes.can_be;
    counts = λ t.
        let e = sum_by-cons (of_group (changed c.choice g.variable (slice_index states place)) t) g groups in
        let s = ap (λ s. of_state t s g.times) (changed_same c.choice g.variable (slice_index states place)) in
        let w = wanted_changed c.choice g.variable (slice_index states place) t groups other in
        omega (arith, e, s, w, c.counts t, takes.counts t);
  }

  pub more_is : (place rest : ℕ) (other : has_group g.variable groups ≡ false) (takes : GroupTakes vars g states place free rest)
      (c : Completes vars groups states rest) →
      (completes_more place rest other takes c).choice g.variable ≡ slice_index states place
  unfolding completes_more
  more_is place rest other takes c = changed_same c.choice g.variable (slice_index states place)

  can_be : (c : Completes vars (g ∷ groups) states free) → g.variable < length vars
      → IfSome (slice_get vars g.variable) (λ var. HasState var (c.choice g.variable))
  can_be c there = c.is_choice g.variable there

  -- a place that the group can't take has not its variable's state
  pub not_consumed : (place : ℕ) → g.variable < length vars
      → (bit_at free place ≡ 1 → IfSome (slice_get vars g.variable) (λ var. HasState var (slice_index states place))
      → free_count (slice_index states place) free states < g.times) →
      bit_at free place ≡ 1 → (c : Completes vars (g ∷ groups) states free) → slice_index states place ≡ c.choice g.variable → ⊥
  not_consumed place there none set c is = enough c
      (subst (λ s. free_count s free states < g.times) is
      (none set (subst (λ s. IfSome (slice_get vars g.variable) (λ var. HasState var s)) (sym is) (can_be c there))))

-- one mark more
pub failed_more : (vars : List Var) (groups : List Group) (states marks : List ℕ) (free k : ℕ) → free < length marks → AreFailed vars groups states marks
    → (Completes vars (drop k groups) states free → ⊥) →
    AreFailed vars groups states (set marks free (k + 1))
failed_more vars groups states marks free k below h none f j is c = elim (eqb_tells f free) [
  | inl same ↦
      let at : slice_index (set marks free (k + 1)) f ≡ k + 1 = ap (slice_index (set marks free (k + 1))) same.1 ∙ get_or-set_same marks free (k + 1) 0 below in
      let e : j ≡ k = omega (arith, at, is) in
      none (subst (λ n. Completes vars (drop k groups) states n) same.1 (subst (λ n. Completes vars (drop n groups) states f) e c))
  | inr other ↦ h f j (sym (get_or-set_other marks free f (k + 1) 0 other.1) ∙ is) c
]

pub zeros_at : (n t : ℕ) → slice_index (replicate n 0) t ≡ 0
zeros_at zero t = refl
zeros_at (suc n) zero = refl
zeros_at (suc n) (suc t) = zeros_at n t

-- nothing is marked
pub none_failed : (vars : List Var) (groups : List Group) (states : List ℕ) (n : ℕ) → AreFailed vars groups states (replicate n 0)
none_failed vars groups states n free k is c = absurd (omega (arith, zeros_at n free, is))

-- where every group has taken its places
pub at_end : (vars : List Var) (groups : List Group) (states : List ℕ) (free k : ℕ) → length groups ≤ k → free < 2 ^ length states → Consistent vars [] [] →
    IsTrue (nat_eq free 0) ↔ Completes vars (drop k groups) states free
at_end vars groups states free k past below choosable =
    subst (λ gs. IsTrue (nat_eq free 0) ↔ Completes vars gs states free) (sym (drop_all k groups past)) (
      λ t. completes_none vars states free choosable (eqb-true free 0 t),
      λ c. eq-eqb free 0 (none_completes vars states free below c),
    )

-- the first group's variable isn't the state of any of the first n places that are free
abbrev pub IsNone : List Var → List Group → List ℕ → ℕ → ℕ → Type 0
IsNone vars groups states free n = (c : Completes vars groups states free) (p : ℕ) → p < n → bit_at free p ≡ 1
    → slice_index states p ≡ c.choice (first_variable groups) → ⊥

-- one place more
pub none_more : (vars : List Var) (groups : List Group) (states : List ℕ) (free n : ℕ) → IsNone vars groups states free n →
    (bit_at free n ≡ 1 → (c : Completes vars groups states free) → slice_index states n ≡ c.choice (first_variable groups) → ⊥)
    → IsNone vars groups states free (n + 1)
none_more vars groups states free n h here c p below set is = elim (eqb_tells p n) [
  | inl same ↦ here (subst (λ k. bit_at free k ≡ 1) same.1 set) c (subst (λ k. slice_index states k ≡ c.choice (first_variable groups)) same.1 is)
  | inr other ↦ h c p (omega (arith, below, other.1)) set is
]

-- the groups from one of them on
module _ (vars : List Var) (groups : List Group) (states : List ℕ) (free k : ℕ) (d : Group) (below : k < length groups) (are : AreGroups vars groups) where
  pub consumed_completes : (place rest : ℕ) → GroupTakes vars (get_or groups k d) states place free rest → Completes vars (drop (k + 1) groups) states rest
      → Completes vars (drop k groups) states free
  consumed_completes place rest takes c =
      subst (λ gs. Completes vars gs states free) (sym (drop_at groups k d below))
      (completes_more vars (get_or groups k d) (drop (k + 1) groups) states free place rest (distinct_at groups k d below are.distinct) takes c)

  pub consumed_fails : (place rest : ℕ) → GroupTakes vars (get_or groups k d) states place free rest → (Completes vars (drop (k + 1) groups) states rest → ⊥) →
      (c : Completes vars (drop k groups) states free) → slice_index states place ≡ c.choice (first_variable (drop k groups)) → ⊥
  consumed_fails place rest takes none =
      subst (λ gs. (c : Completes vars gs states free) → slice_index states place ≡ c.choice (first_variable gs) → ⊥) (sym (drop_at groups k d below))
      (λ c is. none (others_complete vars (get_or groups k d) (drop (k + 1) groups) states free place rest takes c is))

  pub untaken_fails : (place : ℕ) →
      (bit_at free place ≡ 1 → IfSome (slice_get vars (get_or groups k d).variable) (λ var. HasState var (slice_index states place))
      → free_count (slice_index states place) free states < (get_or groups k d).times) →
      bit_at free place ≡ 1 → (c : Completes vars (drop k groups) states free) → slice_index states place ≡ c.choice (first_variable (drop k groups)) → ⊥
  untaken_fails place none set =
      subst (λ gs. (c : Completes vars gs states free) → slice_index states place ≡ c.choice (first_variable gs) → ⊥) (sym (drop_at groups k d below))
      (not_consumed vars (get_or groups k d) (drop (k + 1) groups) states free place (are.there k d below) none set)

  pub no_place : IsNone vars (drop k groups) states free (length states) → Completes vars (drop k groups) states free → ⊥
  no_place =
      subst (λ gs. IsNone vars gs states free (length states) → Completes vars gs states free → ⊥) (sym (drop_at groups k d below))
      (λ none c. let p = first_place vars (get_or groups k d) (drop (k + 1) groups) states free (are.some k d below) c in none c p.0 p.1 p.2 p.3)

  pub consumed_with : (place rest : ℕ) → GroupTakes vars (get_or groups k d) states place free rest → Completes vars (drop (k + 1) groups) states rest
      → CompletesWith vars (drop k groups) states free (slice_index states place)
  consumed_with place rest takes c =
      subst (λ gs. CompletesWith vars gs states free (slice_index states place)) (sym (drop_at groups k d below))
      (record {
        completes = completes_more vars (get_or groups k d) (drop (k + 1) groups) states free place rest (distinct_at groups k d below are.distinct) takes c;
        is = more_is vars (get_or groups k d) (drop (k + 1) groups) states free place rest (distinct_at groups k d below are.distinct) takes c;
      })

  pub at_some_place : (c : Completes vars (drop k groups) states free) → (p : ℕ) × (p < length states) × (bit_at free p ≡ 1)
      × (slice_index states p ≡ c.choice (first_variable (drop k groups)))
  at_some_place =
      subst (λ gs. (c : Completes vars gs states free) → (p : ℕ) × (p < length states) × (bit_at free p ≡ 1)
      × (slice_index states p ≡ c.choice (first_variable gs))) (sym (drop_at groups k d below))
      (first_place vars (get_or groups k d) (drop (k + 1) groups) states free (are.some k d below))

-- the first group's variable can be the state s, which one of the first n places has
pub record IsFoundBy (vars : List Var) (groups : List Group) (states : List ℕ) (free n s : ℕ) : Type 0 where
  pub completes : CompletesWith vars groups states free s
  pub place : ℕ
  pub below : place < n
  pub is_free : bit_at free place ≡ 1
  pub is : slice_index states place ≡ s

module _ (vars : List Var) (groups : List Group) (states : List ℕ) (free n : ℕ) where
  found_old : (s : ℕ) → IsFoundBy vars groups states free n s → IsFoundBy vars groups states free (n + 1) s
  found_old s f = record { completes = f.completes; place = f.place; below = omega (arith, f.below); is_free = f.is_free; is = f.is }

  pub tell_more : (old new : Found) → IsFoundOf (IsFoundBy vars groups states free n) old → bit_at free n ≡ 1
      → CompletesWith vars groups states free (slice_index states n) →
      Adds (λ t. t ≡ slice_index states n) old new → IsFoundOf (IsFoundBy vars groups states free (n + 1)) new
  tell_more old new h set here k =
      directives_same (λ s. IsFoundBy vars groups states free n s ⊎ (s ≡ slice_index states n)) (IsFoundBy vars groups states free (n + 1))
      (λ s x. elim x [
        | inl f ↦ found_old s f
        | inr e ↦ record { completes = subst (CompletesWith vars groups states free) (sym e) here; place = n; below = omega arith; is_free = set; is = sym e }
      ])
      (λ s f. elim (eqb_tells f.place n) [
        | inl same ↦ inr (sym f.is ∙ ap (slice_index states) same.1)
        | inr other ↦ inl (record { completes = f.completes; place = f.place; below = omega (arith, f.below, other.1); is_free = f.is_free; is = f.is })
      ])
      new (adds_more (IsFoundBy vars groups states free n) (λ s. s ≡ slice_index states n) Nothing old new h k)

  pub tell_skip : (found : Found) → IsFoundOf (IsFoundBy vars groups states free n) found
      → (bit_at free n ≡ 1 → (c : Completes vars groups states free) → slice_index states n ≡ c.choice (first_variable groups) → ⊥) →
      IsFoundOf (IsFoundBy vars groups states free (n + 1)) found
  tell_skip found h none =
      directives_same (IsFoundBy vars groups states free n) (IsFoundBy vars groups states free (n + 1))
      found_old
      (λ s f. elim (eqb_tells f.place n) [
        | inl same ↦ absurd (none (subst (λ k. bit_at free k ≡ 1) same.1 f.is_free) f.completes.completes
            (ap (slice_index states) (sym same.1) ∙ f.is ∙ sym f.completes.is))
        | inr other ↦ record { completes = f.completes; place = f.place; below = omega (arith, f.below, other.1); is_free = f.is_free; is = f.is }
      ])
      found h

  -- two states are two
  pub tell_two : (found : Found) → found ≡ Two → IsFoundOf (IsFoundBy vars groups states free n) found → IsFoundOf (CompletesWith vars groups states free) found
  tell_two found is h =
      let two : IsFoundOf (IsFoundBy vars groups states free n) Two = subst (IsFoundOf (IsFoundBy vars groups states free n)) is h in
      subst (IsFoundOf (CompletesWith vars groups states free)) (sym is) (two.0, two.1, two.2, two.3.completes, two.4.completes)

-- every place was tried
pub tell_all : (vars : List Var) (groups : List Group) (states : List ℕ) (free : ℕ) → 0 < length groups → AreGroups vars groups → (found : Found)
    → IsFoundOf (IsFoundBy vars groups states free (length states)) found →
    IsFoundOf (CompletesWith vars groups states free) found
tell_all vars groups states free some are found h =
    directives_same (IsFoundBy vars groups states free (length states)) (CompletesWith vars groups states free)
    (λ s f. f.completes)
    (λ s c. let p = at_some_place vars groups states free 0 no_group some are c.completes in
    record { completes = c; place = p.0; below = p.1; is_free = p.2; is = p.3 ∙ c.is })
    found h

-- what is left where a group takes the state of a free place that its variable may be
pub takes_of : (vars : List Var) (group : Group) (states : List ℕ) (place free : ℕ) → bit_at free place ≡ 1
    → IfSome (slice_get vars group.variable) (λ var. HasState var (slice_index states place)) →
    (result : Option ℕ) → IfSome result (λ rest. rest ≤ free)
    → IfSome result (λ rest. (t : ℕ) → free_count t free states ≡ of_state t (slice_index states place) group.times + free_count t rest states) →
    IfSome result (λ rest. GroupTakes vars group states place free rest)
takes_of vars group states place free set can None less counts = tt
takes_of vars group states place free set can (Some rest) less counts = record { is_free = set; less = less; can_be = can; counts = counts }
