-- The index of a table's lines: what is put into its sets, and that a line in none of the sets of an image gives nothing there.
use Rattle.std.proofs.Common.{◌≡◌, ◌≢◌, ℕ, ◌+◌, ◌-◌, ◌*◌, ◌/◌, ◌%◌, ◌^◌, ◌<◌, ◌≤◌, ◌∷◌, ◌++◌, min, List, [], map, take, drop, length, get_or, set, slice_index, cond, Bool, true, false, ap, sym, ◌∙◌, subst, ◌⊎◌, inl, inr, arith, bit_or, bit_and, length-take, length-drop, All, Contains, get_or-set_same, get_or-set_other, get_or-take, take_all, pow-add}
use Rattle.std.specs.Int.{bit_at, w64}
use Rattle.std.specs.List.{range_with_len}
use Rattle.std.proofs.lemmas.Bool.Decides.{eqb_tells}
use Rattle.std.proofs.lemmas.List.{length-map, get_or_push, get_or_append_left, length_push}
use Rattle.std.proofs.lemmas.List.Elements.{Contains-append_cases}
use Rattle.std.proofs.lemmas.List.FromFn.{length-map-range_with_len, get_or-map-range_with_len}
use Rattle.std.proofs.lemmas.Nat.Bits.{shr_and_one, bit_at_and, bit_at_or, bit_at_set_same, bit_at_set_other, bit_at-lt, bit_at-zero}
use Rattle.std.proofs.lemmas.Bool.{cases_lt}
use Rattle.std.proofs.Math.Nat.{div-div-eq-div-mul}
use Rattle.life_table.specs.Index.{Stay, BlockHasLine, HasLines, AreBlocks, MayFit, IsImage, MayGive}
use Rattle.life_table.specs.Meaning.{IsChoice, state_of, Gives, GivesNothing}
use Rattle.life_table.specs.Orders.{turn, turns, reflected_turn, reflected_turns, family, images}
use Rattle.life_table.specs.Valid.{IsEntry}
use Rattle.life_table.proofs.Fitting.{input_is}
use Rattle.life_table.proofs.Pairing.{may_be}
use Rattle.life_table.proofs.Seeing.{or_left, or_right}
use Rattle.life_table.specs.declared.block.Block.{Block}
use Rattle.life_table.specs.declared.table.Entry.{Entry}
use Rattle.life_table.specs.declared.table.Entry.TheVariants as entries
use Rattle.life_table.specs.declared.table.Symmetry.{Symmetry}
use Rattle.life_table.specs.declared.table.Transition.{Transition}
use Rattle.life_table.specs.declared.table.Var.{Var}
use Rattle.life_table.specs.declared.turn.Turns.{Turns}

-- ---- bits of words

pub bits_put : (words : List ℕ) (i lines k : ℕ) → i < length words → bit_at lines k ≡ 1
    → bit_at (slice_index (set words i (bit_or (slice_index words i) lines)) i) k ≡ 1
bits_put words i lines k inside h =
    ap (λ n. bit_at n k) (get_or-set_same words i (bit_or (slice_index words i) lines) 0 inside) ∙ or_right (slice_index words i) lines k h

pub bits_stay : (words : List ℕ) (i lines : ℕ) → i < length words → Stay words (set words i (bit_or (slice_index words i) lines))
bits_stay words i lines inside j b h =
    let y = bit_or (slice_index words i) lines in
    elim (eqb_tells j i) [
      | inl here ↦
          ap (λ n. bit_at (slice_index (set words i y) n) b) here.1 ∙ ap (λ n. bit_at n b) (get_or-set_same words i y 0 inside)
          ∙ or_left (slice_index words i) lines b (ap (λ n. bit_at (slice_index words n) b) (sym here.1) ∙ h)
      | inr other ↦ ap (λ n. bit_at n b) (get_or-set_other words i j y 0 other.1) ∙ h
    ]

-- one more word has the bit, or need not have it
pub one_more_set : (old new : List ℕ) (base i k : ℕ) (P : ℕ → Type 0) → bit_at (slice_index new (base + i)) k ≡ 1 → Stay old new
    → ((t : ℕ) → t < i → P t → bit_at (slice_index old (base + t)) k ≡ 1) → (t : ℕ) → t < i + 1 → P t → bit_at (slice_index new (base + t)) k ≡ 1
one_more_set old new base i k P here stay before t below p = elim (eqb_tells t i) [
  | inl same ↦ ap (λ n. bit_at (slice_index new (base + n)) k) same.1 ∙ here
  | inr other ↦ stay (base + t) k (before t (omega (arith, below, other.1)) p)
]

pub one_more_passed : (words : List ℕ) (base i k : ℕ) (P : ℕ → Type 0) → ¬ (P i) → ((t : ℕ) → t < i → P t → bit_at (slice_index words (base + t)) k ≡ 1)
    → (t : ℕ) → t < i + 1 → P t → bit_at (slice_index words (base + t)) k ≡ 1
one_more_passed words base i k P none before t below p = elim (eqb_tells t i) [
  | inl same ↦ absurd (none (subst P same.1 p))
  | inr other ↦ before t (omega (arith, below, other.1)) p
]

-- the one bit of a word
pub one_bit : (k : ℕ) → k < 64 → bit_at (1 * 2 ^ k % 2 ^ 64) k ≡ 1
one_bit k space =
    let e = bit_at_or 0 (1 * 2 ^ k % 2 ^ 64) k in
    let z = bit_at-zero k in
    let s = bit_at_set_same w64 0 k space in
    omega (arith, e, z, s)

-- a bit of either
pub or_cases : (a b k : ℕ) → bit_at (bit_or a b) k ≡ 1 → (bit_at a k ≡ 1) ⊎ (bit_at b k ≡ 1)
or_cases a b k h = elim (eqb_tells (bit_at a k) 1) [
  | inl here ↦ inl here.1
  | inr none ↦ let e = bit_at_or a b k in let x = bit_at-lt a k in let y = bit_at-lt b k in inr (omega (arith, e, h, none.1, x, y))
]

-- a bit of both
pub and_both : (a b k : ℕ) → bit_at a k ≡ 1 → bit_at b k ≡ 1 → bit_at (bit_and a b) k ≡ 1
and_both a b k h g = let e = bit_at_and a b k in omega (arith, e, h, g)

-- no bit stands where nothing is left
pub none_above : (n k j : ℕ) → n / 2 ^ k ≡ 0 → k ≤ j → bit_at n j ≡ 1 → ⊥
none_above n k j none above h =
    let d = j - k in
    let split : k + d ≡ j = omega (arith, above) in
    let moved : bit_at (n / 2 ^ k) d ≡ bit_at n (k + d) = ap (λ m. m % 2) (div-div-eq-div-mul n (2 ^ k) (2 ^ d)) ∙ ap (λ m. n / m % 2) (sym (pow-add 2 k d)) in
    let e : 1 ≡ 0 = sym h ∙ ap (bit_at n) (sym split) ∙ sym moved ∙ ap (λ m. bit_at m d) none ∙ bit_at-zero d in
    omega (arith, e)

-- one more line is found, or need not be
pub one_more_found : (found i : ℕ) (P : ℕ → Type 0) → i < 64 → P i → ((k : ℕ) → bit_at found k ≡ 1 → P k) → (k : ℕ)
    → bit_at (bit_or found (1 * 2 ^ i % 2 ^ 64)) k ≡ 1 → P k
one_more_found found i P space here before k h = elim (eqb_tells k i) [
  | inl same ↦ subst P (sym same.1) here
  | inr other ↦ before k (sym (bit_at_set_other w64 found i space k other.1) ∙ h)
]

pub one_more_kept : (found i : ℕ) (P : ℕ → Type 0) → i < 64 → ((k : ℕ) → k < i → P k → bit_at found k ≡ 1) → (k : ℕ) → k < i + 1 → P k
    → bit_at (bit_or found (1 * 2 ^ i % 2 ^ 64)) k ≡ 1
one_more_kept found i P space before k below p = elim (eqb_tells k i) [
  | inl same ↦ ap (bit_at (bit_or found (1 * 2 ^ i % 2 ^ 64))) same.1 ∙ bit_at_set_same w64 found i space
  | inr other ↦ bit_at_set_other w64 found i space k other.1 ∙ before k (omega (arith, below, other.1)) p
]

-- a bit that is not 0
pub bit_there : (n k : ℕ) → bit_and (n / 2 ^ k) 1 ≢ 0 → bit_at n k ≡ 1
bit_there n k h =
    let one = bit_at-lt n k in
    elim (eqb_tells (bit_at n k) 0) [
      | inl zero ↦ absurd (h (shr_and_one n k ∙ zero.1))
      | inr other ↦ omega (arith, one, other.1)
    ]

-- ---- lines in sets

-- a line may fit the states that a choice gives its inputs
pub fits : (vars : List Var) (inputs : List Entry) (k : ℕ) (block : Block) → BlockHasLine vars inputs k block → All (IsEntry 256 vars) inputs
    → (choice : ℕ → ℕ) → IsChoice vars choice → (image : List ℕ) → map (state_of choice) inputs ≡ image → MayFit block image k
fits vars inputs k block has are choice is image values =
    let size : length image ≡ length inputs = ap length (sym values) ∙ length-map inputs (state_of choice) in
    let state = λ (p : ℕ) (below : p < length inputs). input_is choice inputs image p (entries.Fixed 0) values below in
    record {
      states = λ p below small.
          let inside : p < length inputs = omega (arith, below, size) in
          let e = state p inside in
          subst (λ s. bit_at (slice_index block.sets (256 * p + s)) k ≡ 1) e
          (has.states p inside (state_of choice (get_or inputs p (entries.Fixed 0))) (omega (arith, e, small))
          (may_be vars choice is (get_or inputs p (entries.Fixed 0)) (are p (entries.Fixed 0) inside)));
      apart = λ p q below before differ.
          let inside : p < length inputs = omega (arith, below, size) in
          has.apart p inside q before (λ same. differ (sym (state p inside) ∙ ap (state_of choice) same ∙ state q (omega (arith, inside, before))));
    }

-- a line of a block that gives something is in the set that has those that may fit an image
pub may_give_of : (symmetry : Symmetry) (vars : List Var) (line : Transition) (centre : ℕ) (others : List ℕ) (block : Block) (k set : ℕ)
    → BlockHasLine vars line.inputs k block → All (IsEntry 256 vars) line.inputs
    → ((v : List ℕ) → Contains (images symmetry others) v → MayFit block (centre ∷ v) k → bit_at set k ≡ 1)
    → (s : ℕ) → Gives symmetry vars line centre others s → bit_at set k ≡ 1
may_give_of symmetry vars line centre others block k set has are in_set s g =
    in_set g.image g.is_image (fits vars line.inputs k block has are g.gives.choice g.gives.is_choice (centre ∷ g.image) g.gives.inputs)

-- one more block
pub block_more : (vars : List Var) (lines : List Transition) (blocks : List Block) (block : Block) → AreBlocks vars lines blocks
    → HasLines vars lines (64 * length blocks) block → AreBlocks vars lines (blocks ++ block ∷ [])
block_more vars lines blocks block are has b d below = elim (eqb_tells b (length blocks)) [
  | inl same ↦
      subst (HasLines vars lines (64 * b)) (sym (get_or_push blocks block d b (sym same.1)))
      (subst (λ n. HasLines vars lines (64 * n) block) (sym same.1) has)
  | inr other ↦
      let more = length_push blocks block in
      let inside : b < length blocks = omega (arith, below, other.1, more) in
      subst (HasLines vars lines (64 * b)) (sym (get_or_append_left blocks (block ∷ []) d b inside)) (are b d inside)
]

-- ---- images

-- which turn a list is
of_turns : (f : ℕ → List ℕ) (n : ℕ) (v : List ℕ) → Contains (map f (range_with_len 0 n)) v → (k : ℕ) × (k < n) × (f k ≡ v)
of_turns f n v h =
    let below : h.0 < n = let size = length-map-range_with_len f 0 n in omega (arith, h.1, size) in
    (h.0, below, sym (get_or-map-range_with_len f 0 n h.0 h.0 v below (omega arith)) ∙ h.2)

-- each turn, and each reflected one, has its number
module _ (ways : Turns) (cells : List ℕ) (stored : List (List ℕ)) (count : ℕ) (turns_are : ways.count ≡ (length cells - 1) / ways.step)
    (are : (j : ℕ) → j < count → IsImage ways cells j (get_or stored j [])) where
  abbrev Stored : List ℕ → Type 0
  Stored v = (j : ℕ) × (j < count) × (take (length cells) (get_or stored j []) ≡ slice_index cells 0 ∷ v)

  number_is : ways.count ≡ length (drop 1 cells) / ways.step
  number_is = turns_are ∙ ap (λ n. n / ways.step) (sym (length-drop 1 cells))

  turn_stored : ways.count ≤ count → (v : List ℕ) → Contains (turns (drop 1 cells) ways.step) v → Stored v
  turn_stored space v h =
      let t = of_turns (λ k. turn (drop 1 cells) (k * ways.step)) (length (drop 1 cells) / ways.step) v h in
      let below : t.0 < ways.count = omega (arith, t.1, number_is) in
      let inside : t.0 < count = omega (arith, below, space) in
      (t.0, inside, (are t.0 inside).turned below ∙ ap (λ w. slice_index cells 0 ∷ w) t.2)

  reflected_stored : 2 * ways.count ≤ count → (v : List ℕ) → Contains (reflected_turns (drop 1 cells) ways.step) v → Stored v
  reflected_stored space v h =
      let t = of_turns (λ k. reflected_turn (drop 1 cells) (k * ways.step)) (length (drop 1 cells) / ways.step) v h in
      let below : t.0 < ways.count = omega (arith, t.1, number_is) in
      let inside : t.0 + ways.count < count = omega (arith, below, space) in
      let back : t.0 + ways.count - ways.count ≡ t.0 = omega arith in (
        t.0 + ways.count,
        inside,
        (are (t.0 + ways.count) inside).reflected (omega arith)
            ∙ ap (λ k. slice_index cells 0 ∷ reflected_turn (drop 1 cells) (k * ways.step)) back ∙ ap (λ w. slice_index cells 0 ∷ w) t.2,
      )

  pub family_stored : (reflect : Bool) → count ≡ cond reflect (2 * ways.count) ways.count → (v : List ℕ)
      → Contains (family reflect ways.step (drop 1 cells)) v → Stored v
  family_stored true e v h = elim (Contains-append_cases (turns (drop 1 cells) ways.step) (reflected_turns (drop 1 cells) ways.step) v h) [
    | inl there ↦ turn_stored (omega (arith, e)) v there
    | inr there ↦ reflected_stored (omega (arith, e)) v there
  ]
  family_stored false e v h = turn_stored (omega (arith, e)) v h

-- ---- lines that are passed over

module _ (symmetry : Symmetry) (vars : List Var) (centre : ℕ) (others : List ℕ) (lines : List Transition) (from may : ℕ)
    (in_set : MayGive symmetry vars centre others lines from may) where
  -- where no line is left in the set, the others of the 64 give nothing
  pub silent_rest : (k end : ℕ) → k ≤ 64 → may / 2 ^ k ≡ 0 → end ≤ from + 64 → All (GivesNothing symmetry vars centre others) (take (from + k) lines)
      → All (GivesNothing symmetry vars centre others) (take end lines)
  silent_rest k end space none near silent i d below =
      let size = length-take end lines in
      let before : i < end = omega (arith, below, size) in
      let inside : i < length lines = omega (arith, below, size) in
      elim (cases_lt i (from + k)) [
        | inl less ↦
            let there : i < length (take (from + k) lines) = let e = length-take (from + k) lines in omega (arith, e, less, inside) in
            subst (GivesNothing symmetry vars centre others) (get_or-take (from + k) lines i d less ∙ sym (get_or-take end lines i d before)) (silent i d there)
        | inr more ↦
            let at : from + (i - from) ≡ i = omega (arith, more) in
            subst (GivesNothing symmetry vars centre others) (sym (get_or-take end lines i d before))
            (λ s g. none_above may k (i - from) none (omega (arith, more))
            (in_set (i - from) d (omega (arith, before, near, more)) (omega (arith, inside, at)) s
            (subst (λ n. Gives symmetry vars (get_or lines n d) centre others s) (sym at) g)))
      ]

-- so give the lines of a list that end together
pub ends_together : (lines : List Transition) (from k : ℕ) → from ≤ length lines → k ≡ min 64 (length lines - from)
    → take (from + k) lines ≡ take (from + 64) lines
ends_together lines from k inside is = elim (cases_lt (length lines) (from + 64)) [
  | inl less ↦ take_all (from + k) lines (omega (arith, less, inside, is)) ∙ sym (take_all (from + 64) lines (omega (arith, less)))
  | inr more ↦ ap (λ n. take n lines) (omega (arith, more, is))
]

-- what is seen through slices
pub through : (P : List Var → List ℕ → List Transition → Type 0) (vars seen_vars : List Var) (cells seen_cells : List ℕ)
    (lines seen_lines : List Transition) → seen_vars ≡ vars → seen_cells ≡ cells → seen_lines ≡ lines → P seen_vars seen_cells seen_lines → P vars cells lines
through P vars seen_vars cells seen_cells lines seen_lines same_vars same_cells same_lines h =
    subst (λ v. P v cells lines) same_vars (subst (λ c. P seen_vars c lines) same_cells (subst (P seen_vars seen_cells) same_lines h))

-- one more block, where there was memory for it
pub block_pushed : (vars : List Var) (lines : List Transition) (blocks new : List Block) (block : Block) (done : Bool)
    → new ≡ cond done (blocks ++ block ∷ []) blocks
    → AreBlocks vars lines blocks → HasLines vars lines (64 * length blocks) block → AreBlocks vars lines new
block_pushed vars lines blocks new block true is are has = subst (AreBlocks vars lines) (sym is) (block_more vars lines blocks block are has)
block_pushed vars lines blocks new block false is are has = subst (AreBlocks vars lines) (sym is) are
