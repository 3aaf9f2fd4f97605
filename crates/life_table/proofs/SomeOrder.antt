-- Lines that may fit some order of the neighbours: as many inputs may be one of some states as there are neighbours of one.
use Rattle.std.proofs.Common.{◌≡◌, ℕ, suc, ◌+◌, ◌-◌, ◌*◌, ◌<◌, ◌≤◌, ◌∷◌, List, [], take, length, get_or, set, slice_index, cond, Bool, true, false, nat_eq, ap, sym, ◌∙◌, subst, ◌⊎◌, inl, inr, refl, arith, eq-eqb, ◌||◌, length-take, bit_or, drop, eqb-true, Contains, count_by, get_or-set_same, get_or-set_other, get_or-take}
use Rattle.std.specs.Int.{bit_at}
use Rattle.std.specs.List.{sum_by}
use Rattle.std.proofs.lemmas.Bool.Decides.{eqb_tells, leb_tells}
use Rattle.std.proofs.lemmas.List.{get_or_default, take_more_set}
use Rattle.std.proofs.lemmas.List.Folds.{list_any-append, list_any_more}
use Rattle.std.proofs.lemmas.List.Sums.{count_by_more_yes, count_by_more_no, sum_by-cons, sum_by-take-drop}
use Rattle.std.proofs.lemmas.Map.Views.{Contains-from_any}
use Rattle.std.proofs.lemmas.Bool.{or_cases, or_left, or_right}
use Rattle.life_table.specs.Index.{is_among, AreCounts, MayComeAfter, MayFit, MayFitInSomeOrder}
use Rattle.life_table.specs.Orders.{orders}
use Rattle.life_table.specs.Meaning.{count_of}
use Rattle.life_table.proofs.Counts.{sum-order, count-order, count-cons, is_one}
use Rattle.life_table.proofs.Seeing.{or_left as bits_left, or_right as bits_right}
use Rattle.life_table.proofs.Deciding.{rest_of}
use Rattle.life_table.specs.declared.block.Block.{Block}
use Rattle.life_table.specs.declared.some_order.Counts.{Counts}

-- which of the states it is
pub is_among_at : (states : List ℕ) (s : ℕ) → is_among states s ≡ true → (i : ℕ) × (i < length states) × (slice_index states i ≡ s)
is_among_at states s h =
    let there = Contains-from_any {eq = λ q t. nat_eq t q} (λ x y e. sym (eqb-true y x e)) s states h in
    (there.0, there.1, get_or_default states there.0 0 s there.1 ∙ there.2)

-- what is counted with one more number: it was counted before, or the number counts
counts_by : (P : ℕ → Bool) (v : List ℕ) (p c : ℕ) → p < length v → c ≤ count_by P (take (p + 1) v) → (b : Bool) → P (get_or v p 0) ≡ b
    → (c ≤ count_by P (take p v)) ⊎ ((0 < c) × (c - 1 ≤ count_by P (take p v)) × (P (get_or v p 0) ≡ true))
counts_by P v p c inside h true e = elim (leb_tells c (count_by P (take p v))) [
  | inl before ↦ inl before.1
  | inr more ↦
      let one = count_by_more_yes P v p 0 inside e in
      inr (omega (arith, more.1), omega (arith, h, one), e)
]
counts_by P v p c inside h false e = inl (subst (λ n. c ≤ n) (count_by_more_no P v p 0 inside e) h)

pub counts_more : (P : ℕ → Bool) (v : List ℕ) (p c : ℕ) → p < length v → c ≤ count_by P (take (p + 1) v)
    → (c ≤ count_by P (take p v)) ⊎ ((0 < c) × (c - 1 ≤ count_by P (take p v)) × (P (slice_index v p) ≡ true))
counts_more P v p c inside h = counts_by P v p c inside h (P (get_or v p 0)) refl

-- an order counts as what it is an order of
pub counts_same : (P : ℕ → Bool) (v w : List ℕ) → Contains (orders v) w → count_by P w ≡ count_by P v
counts_same P = sum-order (λ x. cond (P x) 1 0)

length_is_sum : (v : List ℕ) → sum_by (λ _. 1) v ≡ length v
length_is_sum [] = refl
length_is_sum (x ∷ xs) = let first = sum_by-cons (λ _. 1) x xs in let rest = length_is_sum xs in omega (arith, first, rest)

pub order_length : (v w : List ℕ) → Contains (orders v) w → length w ≡ length v
order_length v w h = sym (length_is_sum w) ∙ sum-order (λ _. 1) v w h ∙ length_is_sum v

-- a number that is counted is among the numbers
among_counted : (t : ℕ) (v : List ℕ) → 0 < count_of t v → is_among v t ≡ true
among_counted t [] h = absurd (omega (arith, h))
among_counted t (y ∷ ys) h = elim (eqb_tells t y) [
  | inl same ↦ or_left (nat_eq y t) (is_among ys t) (eq-eqb y t (sym same.1))
  | inr other ↦
      let first = count-cons t y ys in
      let none : is_one t y ≡ 0 = ap (λ b. cond b 1 0) other.0 in
      or_right (nat_eq y t) (is_among ys t) (among_counted t ys (omega (arith, h, first, none)))
]

-- what stands in an order of numbers is among them
pub among_order : (v w : List ℕ) (p : ℕ) → Contains (orders v) w → p < length w → is_among v (slice_index w p) ≡ true
among_order v w p order inside =
    let t = slice_index w p in
    let one = count_by_more_yes (nat_eq t) w p 0 inside (eq-eqb t (get_or w p 0) refl) in
    let split = sum_by-take-drop (is_one t) w (p + 1) in
    let same = count-order t v w order in
    among_counted t v (omega (arith, one, split, same))

-- one more number: its state is among those that there were, or is put after them
module _ (others states : List ℕ) (i count : ℕ) (inside : i < length others)
    (each : (s : ℕ) → is_among (take i others) s ≡ true → is_among (take count states) s ≡ true) where
  one_of : (s : ℕ) → is_among (take (i + 1) others) s ≡ true → (is_among (take i others) s ≡ true) ⊎ (nat_eq (slice_index others i) s ≡ true)
  one_of s h = or_cases (is_among (take i others) s) (nat_eq (slice_index others i) s) (sym (list_any_more (λ t. nat_eq t s) others i 0 inside) ∙ h)

  pub among_before : is_among (take i others) (slice_index others i) ≡ true → (s : ℕ) → is_among (take (i + 1) others) s ≡ true
      → is_among (take count states) s ≡ true
  among_before there s h = elim (one_of s h) [
    | inl before ↦ each s before
    | inr here ↦ each s (subst (λ t. is_among (take i others) t ≡ true) (eqb-true (slice_index others i) s here) there)
  ]

  pub among_pushed : count < length states → (s : ℕ) → is_among (take (i + 1) others) s ≡ true
      → is_among (take (count + 1) (set states count (slice_index others i))) s ≡ true
  among_pushed place_fits s h =
      let y = slice_index others i in
      ap (λ xs. is_among xs s) (take_more_set states count y place_fits) ∙ list_any-append (λ t. nat_eq t s) (take count states) (y ∷ [])
      ∙ elim (one_of s h) [
        | inl before ↦ or_left (is_among (take count states) s) (nat_eq y s || false) (each s before)
        | inr here ↦ or_right (is_among (take count states) s) (nat_eq y s || false) (or_left (nat_eq y s) false here)
      ]

-- one more state is counted
pub counted_more : (others states times : List ℕ) (count y n : ℕ) → count < length states → count < length times → n ≡ count_by (is_among (y ∷ [])) others
    → ((j : ℕ) → j < count → slice_index times j ≡ count_by (is_among (slice_index states j ∷ [])) others) → (j : ℕ) → j < count + 1
    → slice_index (set times count n) j ≡ count_by (is_among (slice_index (set states count y) j ∷ [])) others
counted_more others states times count y n place_fits space is before j below = elim (eqb_tells j count) [
  | inl same ↦
      let there : slice_index (set states count y) j ≡ y = ap (slice_index (set states count y)) same.1 ∙ get_or-set_same states count y 0 place_fits in
      ap (slice_index (set times count n)) same.1 ∙ get_or-set_same times count n 0 space ∙ is
      ∙ ap (λ s. count_by (is_among (s ∷ [])) others) (sym there)
  | inr other ↦
      let there : slice_index (set states count y) j ≡ slice_index states j = get_or-set_other states count j y 0 other.1 in
      get_or-set_other times count j n 0 other.1 ∙ before j (omega (arith, below, other.1))
      ∙ ap (λ s. count_by (is_among (s ∷ [])) others) (sym there)
]

-- after the centre
behind : (block : Block) (centre : ℕ) (v : List ℕ) (k : ℕ) → MayFit block (centre ∷ v) k → MayComeAfter block v k
behind block centre v k fit = λ p below small.
    let next : p + 1 ≡ suc p = omega arith in
    let here : slice_index (centre ∷ v) (p + 1) ≡ slice_index v p = ap (slice_index (centre ∷ v)) next in
    subst (λ s. bit_at (slice_index block.sets (256 * (p + 1) + s)) k ≡ 1) here
    (fit.states (p + 1) (omega (arith, below)) (subst (λ s. s < 256) (sym here) small))

-- and the centre
centre_may : (block : Block) (centre : ℕ) (v : List ℕ) (k : ℕ) → MayFit block (centre ∷ v) k → centre < 256 → bit_at (slice_index block.sets centre) k ≡ 1
centre_may block centre v k fit small =
    let first : 0 + centre ≡ centre = omega arith in
    subst (λ n. bit_at (slice_index block.sets n) k ≡ 1) first (fit.states 0 (omega arith) small)

-- what is reported by an order of the neighbours in which a line may fit
pub order_tells : (block : Block) (cells : List ℕ) (k : ℕ) (fit : MayFitInSomeOrder block cells k) → slice_index cells 0 < 256
    → Contains (orders (take (length cells - 1) (drop 1 cells))) fit.order × MayComeAfter block fit.order k
    × (bit_at (slice_index block.sets (slice_index cells 0)) k ≡ 1)
order_tells block cells k fit small = (
  subst (λ w. Contains (orders w) fit.order) (sym (rest_of cells)) fit.is_order,
  behind block (slice_index cells 0) fit.order k fit.fits,
  centre_may block (slice_index cells 0) fit.order k fit.fits small,
)

-- the state of some neighbour has its place among the counts
pub counted_index : (others : List ℕ) (counts : Counts) → AreCounts others counts → (s : ℕ) → is_among others s ≡ true
    → (i : ℕ) × (i < counts.count) × (slice_index counts.states i ≡ s) × (slice_index counts.times i ≡ count_by (is_among (s ∷ [])) others)
counted_index others counts are s h =
    let at = is_among_at (take counts.count counts.states) s (are.each s h) in
    let size = length-take counts.count counts.states in
    let inside : at.0 < counts.count = omega (arith, at.1, size) in
    let is : slice_index counts.states at.0 ≡ s = sym (get_or-take counts.count counts.states at.0 0 inside) ∙ at.2 in
    (at.0, inside, is, are.times at.0 inside ∙ ap (λ t. count_by (is_among (t ∷ [])) others) is)

-- what stands at two places is counted twice
counted_twice : (P : ℕ → Bool) (v : List ℕ) (q p : ℕ) → q < p → p < length v → P (slice_index v q) ≡ true → P (slice_index v p) ≡ true → 1 < count_by P v
counted_twice P v q p before inside first second =
    let f : ℕ → ℕ = λ x. cond (P x) 1 0 in
    let size = length-take p v in
    let there : P (slice_index (take p v) q) ≡ true = ap P (get_or-take p v q 0 before) ∙ first in
    let one = count_by_more_yes P (take p v) q 0 (omega (arith, size, before, inside)) there in
    let rest = sum_by-take-drop f (take p v) (q + 1) in
    let two = count_by_more_yes P v p 0 inside second in
    let whole = sum_by-take-drop f v (p + 1) in
    omega (arith, one, rest, two, whole)

-- two inputs are different entries, or may be a state that two neighbours have
pub pair_fits : (block : Block) (centre : ℕ) (others v : List ℕ) (k p q set : ℕ) → Contains (orders others) v → MayFit block (centre ∷ v) k → p < length v
    → q < p → ((s : ℕ) → is_among others s ≡ true → 1 < count_by (is_among (s ∷ [])) others
    → (s < 256 → bit_at (slice_index block.sets (256 * (p + 1) + s)) k ≡ 1) → bit_at set k ≡ 1)
    → bit_at (bit_or (slice_index block.apart (9 * (p + 1) + (q + 1))) set) k ≡ 1
pair_fits block centre others v k p q set order fit inside before in_set =
    let s = slice_index v p in
    let apart = slice_index block.apart (9 * (p + 1) + (q + 1)) in
    let next : (i : ℕ) → slice_index (centre ∷ v) (i + 1) ≡ slice_index v i = λ i.
    let e : i + 1 ≡ suc i = omega arith in ap (slice_index (centre ∷ v)) e in
    elim (eqb_tells s (slice_index v q)) [
      | inl same ↦
          let P = is_among (s ∷ []) in
          let is : (t : ℕ) → s ≡ t → P t ≡ true = λ t e. or_left (nat_eq s t) false (eq-eqb s t e) in
          let twice = counted_twice P v q p before inside (is (slice_index v q) same.1) (is s refl) in
          let moved = counts_same P others v order in
          bits_right apart set k (in_set s (among_order others v p order inside) (omega (arith, twice, moved)) (behind block centre v k fit p inside))
      | inr other ↦ bits_left apart set k
          (fit.apart (p + 1) (q + 1) (omega (arith, inside)) (omega (arith, before)) (λ e. other.1 (sym (next p) ∙ e ∙ next q)))
    ]
