-- Sets of states as four words: the union of those of some entries has the states that the entries have.
use Rattle.std.proofs.Common.{◌≡◌, ◌≢◌, ℕ, zero, suc, ◌/◌, ◌%◌, ◌^◌, ◌<◌, ◌≤◌, max, List, [], ◌∷◌, map, Bool, false, cond, ◌||◌, refl, ap, ◌∙◌, sym, subst, arith, inl, inr, eq-eqb, get_or, Option, Some, None, All, slice_get, slice_index, bit_or, flat_map, option_map, ◌==◌}
use Rattle.std.specs.Int.{bit_at}
use Rattle.std.specs.List.{fold, list_any}
use Rattle.std.specs.Option.{option_map_or, unwrap_or}
use Rattle.std.proofs.lemmas.Bool.Decides.{eqb_tells, leb_tells}
use Rattle.std.proofs.lemmas.List.Elements.{All-head, All-tail, All-cons}
use Rattle.std.proofs.lemmas.Option.{slice_get-get_or}
use Rattle.std.proofs.lemmas.Nat.Bits.{bit_at_or, bit_at-pow_same, bit_at-pow_other, bit_at-zero, bit_at-lt}
use Rattle.std.proofs.Math.Bool.{or_assoc, or-false}
use Rattle.std.proofs.lemmas.List.Folds.{list_any-append}
use Rattle.std.proofs.lemmas.List.{get_or_past}
use Rattle.std.proofs.lemmas.Bool.{cases_Bool}
use Rattle.life_table.proofs.Values.{union_at}
use Rattle.life_table.proofs.Searching.{zeros_at}
use Rattle.life_table.specs.Meaning.{has_state}
use Rattle.life_table.specs.Reading.{single, union, union_of, states_of_entry}
use Rattle.life_table.specs.Valid.{IsEntry, IsVariable}
use Rattle.life_table.specs.declared.table.Var.{Var}
use Rattle.life_table.specs.declared.table.Entry.{Entry as LayerEntry}
use Rattle.life_table.specs.declared.table.Entry.TheVariants as entries
use Rattle.claims.specs.Table.{Variable, claimed_states_of}
use Rattle.claims.specs.Tables.{entry_in, AreVariables}

-- ---- tests

pub differs : (a b : ℕ) → a ≢ b → (a == b) ≡ false
differs a b n = elim (eqb_tells a b) [ inl e ↦ absurd (n e.1) | inr o ↦ o.0 ]

-- ---- sets

abbrev pub has_set : List ℕ → ℕ → Bool
has_set set s = bit_at (slice_index set (s / 64)) (s % 64) == 1

-- no state above 255
abbrev pub IsSmall : List ℕ → Type 0
IsSmall set = (s : ℕ) → 256 ≤ s → has_set set s ≡ false

no_word : (set : List ℕ) (s : ℕ) → slice_index set (s / 64) ≡ 0 → has_set set s ≡ false
no_word set s e = ap (λ n. bit_at n (s % 64) == 1) e ∙ ap (λ n. n == 1) (bit_at-zero (s % 64))

one_of : (m n : ℕ) → m < 2 → n < 2 → (max m n == 1) ≡ (m == 1 || n == 1)
one_of zero zero h l = refl
one_of zero (suc zero) h l = refl
one_of (suc zero) zero h l = refl
one_of (suc zero) (suc zero) h l = refl
one_of (suc (suc m)) n h l = absurd (omega (arith, h))
one_of m (suc (suc n)) h l = absurd (omega (arith, l))

bit_of_or : (x y i : ℕ) → (bit_at (bit_or x y) i == 1) ≡ (bit_at x i == 1 || bit_at y i == 1)
bit_of_or x y i = ap (λ n. n == 1) (bit_at_or x y i) ∙ one_of (bit_at x i) (bit_at y i) (bit_at-lt x i) (bit_at-lt y i)

union_small : (a b : List ℕ) → IsSmall (union a b)
union_small a b s h = no_word (union a b) s (get_or_past (union a b) (s / 64) 0 (omega (arith, h)))

union_has : (a b : List ℕ) → IsSmall a → IsSmall b → (s : ℕ) → has_set (union a b) s ≡ (has_set a s || has_set b s)
union_has a b h k s = elim (leb_tells 256 s) [
  | inl e ↦ union_small a b s e.1 ∙ sym (ap (λ v. v || has_set b s) (h s e.1) ∙ k s e.1)
  | inr n ↦
      let below : s / 64 < 4 = (let l : s < 256 = n.1 in omega (arith, l)) in
      ap (λ m. bit_at m (s % 64) == 1) (union_at a b (s / 64) below) ∙ bit_of_or (slice_index a (s / 64)) (slice_index b (s / 64)) (s % 64)
]

fold_has : (sets : List (List ℕ)) (set : List ℕ) → IsSmall set → All IsSmall sets → (s : ℕ)
    → has_set (fold union set sets) s ≡ (has_set set s || list_any (λ t. has_set t s) sets)
fold_has [] set h all s = sym (or-false (has_set set s))
fold_has (t ∷ sets) set h all s =
    fold_has sets (union set t) (union_small set t) (All-tail IsSmall t sets all) s
    ∙ ap (λ v. v || list_any (λ u. has_set u s) sets) (union_has set t h (All-head IsSmall t sets all) s)
    ∙ or_assoc (has_set set s) (has_set t s) (list_any (λ u. has_set u s) sets)

empty_has : (s : ℕ) → has_set (0 ∷ 0 ∷ 0 ∷ 0 ∷ []) s ≡ false
empty_has s = no_word (0 ∷ 0 ∷ 0 ∷ 0 ∷ []) s (zeros_at 4 (s / 64))

pub union_of_has : (sets : List (List ℕ)) → All IsSmall sets → (s : ℕ) → has_set (union_of sets) s ≡ list_any (λ t. has_set t s) sets
union_of_has sets all s = fold_has sets (0 ∷ 0 ∷ 0 ∷ 0 ∷ []) (λ r h. empty_has r) all s ∙ ap (λ v. v || list_any (λ t. has_set t s) sets) (empty_has s)

-- ---- the set of one state

single_low : (r k : ℕ) → k < 4 → slice_index (single r) k ≡ cond (k == r / 64) (2 ^ (r % 64)) 0
single_low r zero h = refl
single_low r (suc zero) h = refl
single_low r (suc (suc zero)) h = refl
single_low r (suc (suc (suc zero))) h = refl
single_low r (suc (suc (suc (suc k)))) h = absurd (omega (arith, h))

single_has : (r s : ℕ) → r < 256 → has_set (single r) s ≡ (r == s)
single_has r s h = elim (eqb_tells (s / 64) (r / 64)) [
  | inl e ↦
      let same : s / 64 ≡ r / 64 = e.1 in
      let below : s / 64 < 4 = omega (arith, h, same) in
      let word : slice_index (single r) (s / 64) ≡ 2 ^ (r % 64) = single_low r (s / 64) below ∙ ap (λ v. cond v (2 ^ (r % 64)) 0) e.0 in
      ap (λ n. bit_at n (s % 64) == 1) word ∙ elim (eqb_tells (s % 64) (r % 64)) [
        | inl f ↦
            let rest : s % 64 ≡ r % 64 = f.1 in
            let is : r ≡ s = omega (arith, same, rest) in
            ap (λ i. bit_at (2 ^ (r % 64)) i == 1) rest ∙ ap (λ n. n == 1) (bit_at-pow_same (r % 64)) ∙ sym (eq-eqb r s is)
        | inr f ↦
            let other : r ≢ s = λ is. f.1 (ap (λ n. n % 64) (sym is)) in
            ap (λ n. n == 1) (bit_at-pow_other (r % 64) (s % 64) f.1) ∙ sym (differs r s other)
      ]
  | inr e ↦
      let other : r ≢ s = λ is. e.1 (ap (λ n. n / 64) (sym is)) in
      no_word (single r) s (elim (leb_tells 4 (s / 64)) [
        | inl above ↦ get_or_past (single r) (s / 64) 0 above.1
        | inr below ↦ single_low r (s / 64) below.1 ∙ ap (λ v. cond v (2 ^ (r % 64)) 0) e.0
      ]) ∙ sym (differs r s other)
]

-- ---- the sets of entries

abbrev pub set_of : List Var → LayerEntry → List ℕ
set_of vars (entries.Fixed s) = single s
set_of vars (entries.Var i) = unwrap_or (option_map (λ (v : Var). v.states) (slice_get vars i)) []

module _ (n : ℕ) (vars : List Var) (variables : List Variable) (same : AreVariables vars variables) (most : n ≤ 256) (all : All (IsVariable n) vars) where
  variable_has : (o : Option Var) (s : ℕ) → has_set (unwrap_or (option_map (λ (v : Var). v.states) o) []) s ≡ option_map_or (λ (v : Var). has_state v s) o false
  variable_has None s = no_word [] s refl
  variable_has (Some v) s = refl

  entry_has : (entry : LayerEntry) → IsEntry n vars entry → (s : ℕ)
      → has_set (set_of vars entry) s ≡ list_any (λ t. t == s) (claimed_states_of variables (entry_in entry))
  entry_has (entries.Fixed r) is s = (let l : r < n = is.fixed r refl in single_has r s (omega (arith, l, most))) ∙ sym (or-false (r == s))
  entry_has (entries.Var i) is s = variable_has (slice_get vars i) s ∙ sym (same.states i s)

  small_variable : (o : Option Var) → ((v : Var) → o ≡ Some v → IsVariable n v) → IsSmall (unwrap_or (option_map (λ (v : Var). v.states) o) [])
  small_variable None h s l = no_word [] s refl
  small_variable (Some v) h s l = elim (cases_Bool (has_state v s)) [
    | inl e ↦ absurd (let b : s < n = (h v refl).below s e in omega (arith, b, l, most))
    | inr e ↦ e
  ]

  is_variable_there : (vs : List Var) → All (IsVariable n) vs → (i : ℕ) (v : Var) → slice_get vs i ≡ Some v → IsVariable n v
  is_variable_there [] h i v e = cc
  is_variable_there (w ∷ vs) h zero v e = subst (IsVariable n) (let k : w ≡ v = cc in k) (All-head (IsVariable n) w vs h)
  is_variable_there (w ∷ vs) h (suc i) v e = is_variable_there vs (All-tail (IsVariable n) w vs h) i v e

  small_entry : (entry : LayerEntry) → IsEntry n vars entry → IsSmall (set_of vars entry)
  small_entry (entries.Fixed r) is = λ s l.
      let b : r < n = is.fixed r refl in
      single_has r s (omega (arith, b, most)) ∙ differs r s (λ e. absurd (omega (arith, b, most, l, e)))
  small_entry (entries.Var i) is = small_variable (slice_get vars i) (is_variable_there vars all i)

  small_entries : (es : List LayerEntry) → All (IsEntry n vars) es → All IsSmall (map (set_of vars) es)
  small_entries [] h = λ k d l. absurd (omega (arith, l))
  small_entries (e ∷ es) h =
      All-cons IsSmall (set_of vars e) (map (set_of vars) es) (small_entry e (All-head (IsEntry n vars) e es h))
      (small_entries es (All-tail (IsEntry n vars) e es h))

  any_has : (es : List LayerEntry) → All (IsEntry n vars) es → (s : ℕ)
      → list_any (λ t. has_set t s) (map (set_of vars) es) ≡ list_any (λ t. t == s) (flat_map (claimed_states_of variables) (map entry_in es))
  any_has [] h s = refl
  any_has (e ∷ es) h s =
      ap (λ v. v || list_any (λ t. has_set t s) (map (set_of vars) es)) (entry_has e (All-head (IsEntry n vars) e es h) s)
      ∙ ap (λ v. list_any (λ t. t == s) (claimed_states_of variables (entry_in e)) || v) (any_has es (All-tail (IsEntry n vars) e es h) s)
      ∙ sym (list_any-append (λ t. t == s) (claimed_states_of variables (entry_in e)) (flat_map (claimed_states_of variables) (map entry_in es)))

  -- the states of the entries of a list
  pub states_are : (es : List LayerEntry) → All (IsEntry n vars) es → (s : ℕ)
      → list_any (λ t. t == s) (flat_map (claimed_states_of variables) (map entry_in es)) ≡ has_set (union_of (map (set_of vars) es)) s
  states_are es h s = sym (union_of_has (map (set_of vars) es) (small_entries es h) s ∙ any_has es h s)

  pub set_is : (entry : LayerEntry) → IsEntry n vars entry → states_of_entry vars entry ≡ Some (set_of vars entry)
  set_is (entries.Fixed r) is = refl
  set_is (entries.Var i) is = there (slice_get vars i) (slice_get-get_or vars i d (is.variable i refl))
    where
      d : Var
      d = record { name = []; states = [] }

      there : (o : Option Var) → o ≡ Some (get_or vars i d) → option_map (λ (v : Var). v.states) o ≡ Some (unwrap_or (option_map (λ (v : Var). v.states) o) [])
      there None e = cc
      there (Some v) e = refl
