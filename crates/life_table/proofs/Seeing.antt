-- Which neighbours an entry may be, place by place.
use Rattle.std.proofs.Common.{◌≡◌, ◌≢◌, ℕ, ◌+◌, ◌-◌, ◌*◌, ◌%◌, ◌/◌, ◌^◌, ◌<◌, List, length, get_or, set, slice_index, replicate, cond, nat_lt, Bool, true, false, refl, ap, sym, ◌∙◌, subst, inl, inr, arith, bit_or, bit_and, eqb-true, IsTrue, Option, Some, None, slice_get, get_or-set_same, get_or-set_other, pow-add}
use Rattle.std.specs.Int.{bit_at, w16}
use Rattle.std.proofs.lemmas.Bool.Decides.{eqb_tells, nat_tests}
use Rattle.std.proofs.lemmas.List.{get_or_default, get_or-replicate}
use Rattle.std.proofs.lemmas.Nat.Bits.{bit_at_and, bit_at_or, bit_at_set_same, bit_at_set_other, bit_at_ones, same_from_bits_below, bit_at-lt, bit_at-zero}
use Rattle.std.specs.Option.{option_map_or}
use Rattle.std.proofs.Math.Nat.{div-div-eq-div-mul}
use Rattle.std.proofs.lemmas.Option.{slice_get_within, get_or_from_slice_get}
use Rattle.std.proofs.lemmas.Bool.{cases_Bool}
use Rattle.life_table.specs.Meaning.{has_state}
use Rattle.life_table.specs.Taking.{can_be_state}
use Rattle.life_table.specs.Seen.{places, IsSeen}
use Rattle.life_table.specs.declared.seen.Seen.{Seen}
use Rattle.life_table.specs.declared.table.Entry.{Entry}
use Rattle.life_table.specs.declared.table.Entry.TheVariants as entries
use Rattle.life_table.specs.declared.table.Var.{Var}

-- one more place is written
pub put_more : (f : ℕ → ℕ) (xs : List ℕ) (i y : ℕ) → i < length xs → y ≡ f i → ((j : ℕ) → j < i → slice_index xs j ≡ f j) → (j : ℕ) → j < i + 1
    → slice_index (set xs i y) j ≡ f j
put_more f xs i y inside is before j below = elim (eqb_tells j i) [
  | inl same ↦ ap (slice_index (set xs i y)) same.1 ∙ get_or-set_same xs i y 0 inside ∙ is ∙ ap f (sym same.1)
  | inr other ↦ get_or-set_other xs i j y 0 other.1 ∙ before j (omega (arith, below, other.1))
]

-- one more place is reported of its state
pub tell_state : (around places : List ℕ) (k : ℕ) → k < 16 → slice_index around k < length places
    → ((j : ℕ) → j < k → bit_at (slice_index places (slice_index around j)) j ≡ 1) →
    (j : ℕ) → j < k + 1 → bit_at (slice_index (set places (slice_index around k) (bit_or (slice_index places (slice_index around k)) (1 * 2 ^ k % 2 ^ 16)))
    (slice_index around j)) j ≡ 1
tell_state around places k space inside before j below =
    let s = slice_index around k in
    let t = slice_index around j in
    let y = bit_or (slice_index places s) (1 * 2 ^ k % 2 ^ 16) in
    elim (eqb_tells j k) [
      | inl here ↦
          ap (λ i. bit_at (slice_index (set places s y) (slice_index around i)) i) here.1
          ∙ ap (λ n. bit_at n k) (get_or-set_same places s y 0 inside)
          ∙ bit_at_set_same w16 (slice_index places s) k space
      | inr other ↦
          let old = before j (omega (arith, below, other.1)) in
          elim (eqb_tells t s) [
            | inl same ↦
                ap (λ n. bit_at (slice_index (set places s y) n) j) same.1
                ∙ ap (λ n. bit_at n j) (get_or-set_same places s y 0 inside)
                ∙ bit_at_set_other w16 (slice_index places s) k space j other.1
                ∙ ap (λ n. bit_at (slice_index places n) j) (sym same.1)
                ∙ old
            | inr apart ↦ ap (λ n. bit_at n j) (get_or-set_other places s t y 0 apart.1) ∙ old
          ]
    ]

-- one more place is reported, or is none to be reported
pub tell_place : (places k : ℕ) → k < 16 → (P : ℕ → Type 0) → ((j : ℕ) → j < k → P j → bit_at places j ≡ 1) →
    (j : ℕ) → j < k + 1 → P j → bit_at (bit_or places (1 * 2 ^ k % 2 ^ 16)) j ≡ 1
tell_place places k space P before j below p = elim (eqb_tells j k) [
  | inl here ↦ ap (bit_at (bit_or places (1 * 2 ^ k % 2 ^ 16))) here.1 ∙ bit_at_set_same w16 places k space
  | inr other ↦ bit_at_set_other w16 places k space j other.1 ∙ before j (omega (arith, below, other.1)) p
]

pub pass_place : (places k : ℕ) (P : ℕ → Type 0) → ¬ (P k) → ((j : ℕ) → j < k → P j → bit_at places j ≡ 1) → (j : ℕ) → j < k + 1 → P j → bit_at places j ≡ 1
pass_place places k P none before j below p = elim (eqb_tells j k) [
  | inl here ↦ absurd (none (subst P here.1 p))
  | inr other ↦ before j (omega (arith, below, other.1)) p
]

-- a bit of one or of the other is one of both
pub or_left : (a b k : ℕ) → bit_at a k ≡ 1 → bit_at (bit_or a b) k ≡ 1
or_left a b k h = let e = bit_at_or a b k in let one = bit_at-lt b k in omega (arith, e, one, h)

pub or_right : (a b k : ℕ) → bit_at b k ≡ 1 → bit_at (bit_or a b) k ≡ 1
or_right a b k h = let e = bit_at_or a b k in let one = bit_at-lt a k in omega (arith, e, one, h)

pub set_not_zero : (n k : ℕ) → bit_at n k ≡ 1 → n ≢ 0
set_not_zero n k h = λ z. let e = sym h ∙ ap (λ m. bit_at m k) z ∙ bit_at-zero k in absurd (omega (arith, e))

-- a bit of both stays where one is shifted down
and_shifted : (fits p first r : ℕ) → bit_at fits r ≡ 1 → bit_at p (first + r) ≡ 1 → bit_at (bit_and fits (p / 2 ^ first)) r ≡ 1
and_shifted fits p first r one other =
    let e = bit_at_and fits (p / 2 ^ first) r in
    let moved : bit_at (p / 2 ^ first) r ≡ bit_at p (first + r) = ap (λ n. n % 2) (div-div-eq-div-mul p (2 ^ first) (2 ^ r))
    ∙ ap (λ n. p / n % 2) (sym (pow-add 2 first r)) in
    omega (arith, e, moved, one, other)

-- a turn stays where an entry may be the neighbour that comes to it
pub turn_stays : (seen : Seen) (entry : Entry) (fits reported first from r : ℕ) → reported ≡ places seen entry → first ≡ from → bit_at fits r ≡ 1 →
    bit_at (places seen entry) (from + r) ≡ 1 → bit_at (bit_and fits (reported / 2 ^ first)) r ≡ 1
turn_stays seen entry fits reported first from r is same one other =
    and_shifted fits reported first r one (ap (λ p. bit_at p (first + r)) is ∙ ap (λ f. bit_at (places seen entry) (f + r)) same ∙ other)

-- sixteen bits are all that there are
pub all_sixteen : (n : ℕ) → n < 2 ^ 16 → ((k : ℕ) → k < 16 → bit_at n k ≡ 1) → n ≡ 2 ^ 16 - 1
all_sixteen n fits h = same_from_bits_below 16 n (2 ^ 16 - 1) fits (omega arith) (λ k below. h k below ∙ sym (bit_at_ones 16 k below))

-- the variable at a place is the one that was read there
pub same_there : (vars : List Var) (i j : ℕ) (var read : Var) → j ≡ i → i < length vars → var ≡ get_or vars j var → read ≡ get_or vars i read → var ≡ read
same_there vars i j var read same below is at = is ∙ ap (λ n. get_or vars n var) same ∙ get_or_default vars i var read below ∙ sym at

some_holds : {X : Type 0} (p : X → Bool) (o : Option X) → option_map_or p o false ≡ true → (x : X) × (o ≡ Some x) × (p x ≡ true)
some_holds p None h = absurd (let z : ⊥ = cc in z)
some_holds p (Some x) h = (x, refl, h)

-- a variable that may be a state stands among the variables
some_there : (vars : List Var) (i s : ℕ) → can_be_state vars (entries.Var i) s ≡ true → (var : Var) × (i < length vars) × (var ≡ get_or vars i var)
    × IsTrue (has_state var s)
some_there vars i s h =
    let r = some_holds (λ (var : Var). has_state var s) (slice_get vars i) h in
    (r.0, slice_get_within vars i r.0 r.1, sym (get_or_from_slice_get vars i r.0 r.0 r.1), r.2)

-- what is reported of the states and of the variables is reported of the entries
pub seen_is : (vars : List Var) (others around fixed listed : List ℕ) → ((k : ℕ) → k < 16 → slice_index around k ≡ slice_index others (k % length others)) →
    ((k : ℕ) → k < 16 → bit_at (slice_index fixed (slice_index around k)) k ≡ 1) →
    ((i k : ℕ) → i < length vars → i < 64 → k < 16 → (var : Var) → var ≡ get_or vars i var → IsTrue (has_state var (slice_index around k))
    → bit_at (slice_index listed i) k ≡ 1) →
    IsSeen vars others (record { fixed = fixed; listed = listed })
seen_is vars others around fixed listed same states variables (entries.Fixed s) k space h =
    ap (λ n. bit_at (slice_index fixed n) k) (eqb-true s (slice_index others (k % length others)) h ∙ sym (same k space)) ∙ states k space
seen_is vars others around fixed listed same states variables (entries.Var i) k space h = elim (cases_Bool (nat_lt i 64)) [
  | inl is_listed ↦
      let below : i < 64 = grind (arith, nat_tests, is_listed) in
      let r = some_there vars i (slice_index others (k % length others)) h in
      ap (λ b. bit_at (cond b (slice_index listed i) (2 ^ 16 - 1)) k) is_listed
      ∙ variables i k r.1 below space r.0 r.2 (subst (λ s. IsTrue (has_state r.0 s)) (sym (same k space)) r.3)
  | inr unlisted ↦ ap (λ b. bit_at (cond b (slice_index listed i) (2 ^ 16 - 1)) k) unlisted ∙ bit_at_ones 16 k space
]

-- where nothing is reported, each entry may be each neighbour
pub untold_is : (vars : List Var) (others : List ℕ) → ((i : ℕ) → slice_index others i < 256)
    → IsSeen vars others (record { fixed = replicate 256 (2 ^ 16 - 1); listed = replicate 64 (2 ^ 16 - 1) })
untold_is vars others small (entries.Fixed s) k space h = elim (eqb_tells s (slice_index others (k % length others))) [
  | inl is ↦
      let below = small (k % length others) in
      ap (λ n. bit_at n k) (get_or-replicate 256 s (2 ^ 16 - 1) 0 (omega (arith, is.1, below))) ∙ bit_at_ones 16 k space
  | inr other ↦ absurd (let e : true ≡ false = sym h ∙ other.0 in let z : ⊥ = cc in z)
]
untold_is vars others small (entries.Var i) k space h = elim (cases_Bool (nat_lt i 64)) [
  | inl is_listed ↦
      let below : i < 64 = grind (arith, nat_tests, is_listed) in
      ap (λ b. bit_at (cond b (slice_index (replicate 64 (2 ^ 16 - 1)) i) (2 ^ 16 - 1)) k) is_listed
      ∙ ap (λ n. bit_at n k) (get_or-replicate 64 i (2 ^ 16 - 1) 0 below) ∙ bit_at_ones 16 k space
  | inr unlisted ↦ ap (λ b. bit_at (cond b (slice_index (replicate 64 (2 ^ 16 - 1)) i) (2 ^ 16 - 1)) k) unlisted ∙ bit_at_ones 16 k space
]
