-- Under a choice each entry is some neighbour, and each neighbour some entry.
use Rattle.std.proofs.Common.{◌≡◌, Bool, ◌+◌, drop, ◌-◌, ◌≢◌, ℕ, suc, ◌%◌, ◌<◌, ◌≤◌, List, [], ◌∷◌, map, length, get_or, slice_index, cond, true, false, refl, ap, sym, ◌∙◌, subst, inl, inr, arith, eq-eqb, All, IfSome, Option, Some, None, slice_get}
use Rattle.std.specs.Option.{option_map_or}
use Rattle.std.specs.Int.{bit_at}
use Rattle.std.proofs.Math.Nat.{mod-eq_of_lt, mod-lt}
use Rattle.std.proofs.lemmas.Bool.Decides.{eqb_tells}
use Rattle.std.proofs.lemmas.List.{get_or-map, length-map}
use Rattle.std.proofs.lemmas.List.Sums.{get_or-le-sum_by}
use Rattle.std.proofs.lemmas.Option.{slice_get_cases}
use Rattle.life_table.specs.Meaning.{IsChoice, HasState, has_state, state_of, count_of}
use Rattle.life_table.specs.Valid.{IsEntry}
use Rattle.life_table.specs.Taking.{can_be_state}
use Rattle.life_table.specs.Seen.{places, IsSeen}
use Rattle.life_table.proofs.Counts.{is_one, is_one_same, count-cons}
use Rattle.life_table.proofs.Seeing.{set_not_zero}
use Rattle.life_table.proofs.Turning.{turned_by, turned_at}
use Rattle.life_table.specs.declared.seen.Seen.{Seen}
use Rattle.life_table.specs.declared.table.Var.{Var}
use Rattle.life_table.specs.declared.table.Entry.{Entry}
use Rattle.life_table.specs.declared.table.Entry.TheVariants as entries

-- a number that is counted stands at some place, and one that stands at a place is counted
stands_at : (t : ℕ) (w : List ℕ) → 0 < count_of t w → (k : ℕ) × (k < length w) × (slice_index w k ≡ t)
stands_at t [] h = absurd (omega (arith, h))
stands_at t (y ∷ ys) h = elim (eqb_tells t y) [
  | inl same ↦ (0, omega arith, sym same.1)
  | inr other ↦
      let first = count-cons t y ys in
      let none : is_one t y ≡ 0 = ap (λ b. cond b 1 0) other.0 in
      let r = stands_at t ys (omega (arith, h, first, none)) in
      (suc r.0, omega (arith, r.1), r.2)
]

is_counted : (t : ℕ) (w : List ℕ) (k : ℕ) → k < length w → slice_index w k ≡ t → 0 < count_of t w
is_counted t w k below is =
    let least = get_or-le-sum_by (is_one t) w k 0 below in
    let one = ap (is_one t) is ∙ is_one_same t in
    omega (arith, least, one)

if_some : (o : Option Var) (v : Var) (s : ℕ) → o ≡ Some v → IfSome o (λ var. HasState var s) → option_map_or (λ var. has_state var s) o false ≡ true
if_some None v s is h = absurd (let z : ⊥ = cc in z)
if_some (Some var) v s is h = h

module _ (vars : List Var) (choice : ℕ → ℕ) (is_choice : IsChoice vars choice) where
  -- an entry may be the state that the choice gives it
  pub may_be : (entry : Entry) → IsEntry 256 vars entry → can_be_state vars entry (state_of choice entry) ≡ true
  may_be (entries.Fixed s) is = eq-eqb s s refl
  may_be (entries.Var i) is =
      let below = is.variable i refl in
      elim (slice_get_cases vars i).1 [
        | inl there ↦ if_some (slice_get vars i) there.0 (choice i) there.2 (is_choice i below)
        | inr none ↦ absurd (omega (arith, below, none.0))
      ]

  module _ (rest : List Entry) (others : List ℕ) (seen : Seen) (are : All (IsEntry 256 vars) rest) (few : length others ≤ 8) (is_seen : IsSeen vars others seen)
      (counts : (t : ℕ) → count_of t (map (state_of choice) rest) ≡ count_of t others) where
    state_there : (i : ℕ) → i < length rest → slice_index (map (state_of choice) rest) i ≡ state_of choice (get_or rest i (entries.Fixed 0))
    state_there i below = get_or-map (state_of choice) rest i (entries.Fixed 0) 0 below

    -- the place is reported of an entry with its state
    directive : (i k : ℕ) → i < length rest → k < 16 → state_of choice (get_or rest i (entries.Fixed 0)) ≡ slice_index others (k % length others)
        → bit_at (places seen (get_or rest i (entries.Fixed 0))) k ≡ 1
    directive i k below space is =
        let e = get_or rest i (entries.Fixed 0) in
        is_seen e k space (subst (λ s. can_be_state vars e s ≡ true) is (may_be e (are i (entries.Fixed 0) below)))

    pub some_place : (i : ℕ) → i < length rest → places seen (get_or rest i (entries.Fixed 0)) ≢ 0
    some_place i below =
        let t = state_of choice (get_or rest i (entries.Fixed 0)) in
        let counted = is_counted t (map (state_of choice) rest) i (simp length-map below) (state_there i below) in
        let r = stands_at t others (subst (λ n. 0 < n) (counts t) counted) in
        set_not_zero (places seen (get_or rest i (entries.Fixed 0))) r.0
        (directive i r.0 below (omega (arith, r.1, few)) (sym r.2 ∙ ap (slice_index others) (sym (mod-eq_of_lt r.1))))

    pub some_entry : 0 < length others → (k : ℕ) → k < 16 → (i : ℕ) × (i < length rest) × (bit_at (places seen (get_or rest i (entries.Fixed 0))) k ≡ 1)
    some_entry some k space =
        let at = k % length others in
        let t = slice_index others at in
        let counted = is_counted t others at (mod-lt k some) refl in
        let r = stands_at t (map (state_of choice) rest) (subst (λ n. 0 < n) (sym (counts t)) counted) in
        let below : r.0 < length rest = subst (λ n. r.0 < n) (length-map rest (state_of choice)) r.1 in
        (r.0, below, directive r.0 k below space (sym (state_there r.0 below) ∙ r.2))

place_below : (reflect : Bool) (n i r : ℕ) → n ≤ 8 → i < n → r < n → cond reflect (n - i) i + r < 16
place_below true n i r few below inside = omega (arith, few, below, inside)
place_below false n i r few below inside = omega (arith, few, below, inside)

-- where the inputs have the states of a turn, each may be the neighbour that comes to it
pub turn_directive : (vars : List Var) (choice : ℕ → ℕ) (is_choice : IsChoice vars choice) (first : Entry) (rest : List Entry) (centre : ℕ) (others : List ℕ)
    (seen : Seen) (reflect : Bool) (r : ℕ) →
    All (IsEntry 256 vars) rest → length rest ≡ length others → length others ≤ 8 → r < length others → IsSeen vars others seen →
    map (state_of choice) (first ∷ rest) ≡ centre ∷ turned_by reflect others r →
    (i : ℕ) → i < length rest → bit_at (places seen (get_or rest i (entries.Fixed 0))) (cond reflect (length rest - i) i + r) ≡ 1
turn_directive vars choice is_choice first rest centre others seen reflect r are same few inside is_seen values i below =
    let e = get_or rest i (entries.Fixed 0) in
    let k = cond reflect (length rest - i) i + r in
    let state : state_of choice e ≡ slice_index others (k % length others) =
    sym (get_or-map (state_of choice) rest i (entries.Fixed 0) 0 below) ∙ ap (λ w. slice_index (drop 1 w) i) values
    ∙ turned_at others reflect r i (omega (arith, below, same)) ∙ ap (λ n. slice_index others ((cond reflect (n - i) i + r) % length others)) (sym same) in
    is_seen e k (place_below reflect (length rest) i r (omega (arith, same, few)) below (omega (arith, same, inside)))
    (subst (λ s. can_be_state vars e s ≡ true) state (may_be vars choice is_choice e (are i (entries.Fixed 0) below)))
