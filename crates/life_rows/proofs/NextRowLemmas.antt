-- Facts about the row of the next generation.
use Rattle.std.proofs.Common.{◌≡◌, ℕ, zero, suc, ◌+◌, ◌-◌, ◌*◌, ◌/◌, ◌%◌, ◌^◌, ◌≤◌, ◌<◌, max, min, Bool, false, ◌==◌, ◌&&◌, ◌||◌, if◌then◌else◌, inl, inr, List, [], ◌∷◌, refl, sym, ◌∙◌, ap, subst, arith}
use Rattle.std.specs.Int.{bit_at}
use Rattle.std.specs.Int.Bits.{bit_or}
use Rattle.std.proofs.lemmas.Bool.{cases_lt}
use Rattle.std.proofs.lemmas.Nat.Bits.{bit_at-zero, bit_at_above, bit_at_or, same_from_bits}
use Rattle.life_base.specs.Rules.{has_digit}
use Rattle.life_base.specs.Sets.{DigitSets, OuterTotalistic}
use Rattle.life_base.specs.declared.cell.TheConstants.{MAX_LEVEL}
use Rattle.life_base.specs.declared.rule.Near.{Near}
use Rattle.life_base.specs.declared.rule.Near.TheVariants.{Moore, VonNeumann}
use Rattle.life_next.specs.Counts.{NineWords, counted_in}
use Rattle.life_pieces.specs.declared.grid.Three.{Three}
use Rattle.life_lanes.proofs.WordLemmas.{bit-mod, bit-shr, shl-high, shl-low}
use Rattle.life_rows.specs.declared.row_cells.RowPlace.{RowPlace}
use Rattle.life_rows.specs.RowCells.{AddsWord, AreAt, AreBlankAt, AreColumns, AreInner, IsRowAt, IsBlankAt, IsBlankFrom, HasNoCells, IsNextTo, IsVisited, next_cell, next_in_row, place_ahead}
use Rattle.life_rows.proofs.RowWordLemmas.{ahead-later, ahead-over, ahead-within, at-later, blank-after, blank-to, inner-clear, inner-west, place-none}
use Rattle.life_strip.specs.Blocks.{cell_in_word}
use Rattle.life_strip.specs.RowWords.{cell_in_words, cells_at_place}
use Rattle.life_strip.specs.declared.row_builder.RowWord.{RowWord}
use Rattle.life_next.specs.Generation.{next_by_count, live_in}

-- ---- words without cells

or-none : (a b : ℕ) → bit_or a b ≡ 0 → (a ≡ 0) × (b ≡ 0)
or-none a b none =
    let bits : (i : ℕ) → max (bit_at a i) (bit_at b i) ≡ 0 = λ i. sym (bit_at_or a b i) ∙ ap (λ z. bit_at z i) none ∙ bit_at-zero i in (
      same_from_bits a 0 (λ i. let both = bits i in let zero = bit_at-zero i in omega (arith, both, zero)),
      same_from_bits b 0 (λ i. let both = bits i in let zero = bit_at-zero i in omega (arith, both, zero)),
    )

-- the words of three rows at a place and the one before it, taken together
abbrev pub all_cells : Three RowPlace → ℕ
all_cells at = bit_or (bit_or (bit_or at.before.west at.here.west) at.after.west) (bit_or (bit_or at.before.here at.here.here) at.after.here)

pub cells-none : (at : Three RowPlace) → all_cells at ≡ 0 → HasNoCells at
cells-none at none =
    let both = or-none _ _ none in
    let west = or-none _ _ both.0 in
    let here = or-none _ _ both.1 in
    let west_two = or-none _ _ west.0 in
    let here_two = or-none _ _ here.0 in
    ((west_two.0, here_two.0), (west_two.1, here_two.1), (west.1, here.1))

pub none-cells : (at : Three RowPlace) → HasNoCells at → all_cells at ≡ 0
none-cells at none =
    λ i. bit_or (bit_or (bit_or (none.0.0 i) (none.1.0 i)) (none.2.0 i)) (bit_or (bit_or (none.0.1 i) (none.1.1 i)) (none.2.1 i))

-- ---- the columns one further west and one further east

module _ (words : List RowWord) (place : ℕ) (at next : RowPlace) (here : IsRowAt words place at) (there : IsRowAt words (place + 1) next)
    (small : at.here < 2 ^ 64) (few : next.here < 2 ^ 64) where
  abbrev west_word : ℕ
  west_word = bit_or (at.here / 2 ^ 1) (at.west * 2 ^ 63 % 2 ^ 64)

  abbrev east_word : ℕ
  east_word = bit_or (at.here * 2 ^ 1 % 2 ^ 64) (next.here / 2 ^ 63)

  -- the highest bit of the western word is the lowest one of the place before
  west-first : bit_at west_word 63 ≡ bit_at at.west 0
  west-first =
      let none : bit_at (at.here / 2 ^ 1) 63 ≡ 0 = bit-shr at.here 1 63 ∙ bit_at_above at.here 64 64 small (omega arith) in
      let some : bit_at (at.west * 2 ^ 63 % 2 ^ 64) 63 ≡ bit_at at.west 0 = bit-mod (at.west * 2 ^ 63) 64 63 (omega arith)
      ∙ shl-high at.west 63 63 (omega arith) in
      bit_at_or (at.here / 2 ^ 1) (at.west * 2 ^ 63 % 2 ^ 64) 63 ∙ omega (arith, none, some)

  west-rest : (i : ℕ) → i < 63 → bit_at west_word i ≡ bit_at at.here (i + 1)
  west-rest i lt =
      let some : bit_at (at.here / 2 ^ 1) i ≡ bit_at at.here (i + 1) = bit-shr at.here 1 i in
      let none : bit_at (at.west * 2 ^ 63 % 2 ^ 64) i ≡ 0 = bit-mod (at.west * 2 ^ 63) 64 i (omega (arith, lt)) ∙ shl-low at.west 63 i lt in
      bit_at_or (at.here / 2 ^ 1) (at.west * 2 ^ 63 % 2 ^ 64) i ∙ omega (arith, none, some)

  -- the lowest bit of the eastern word is the highest one of the place after
  east-last : bit_at east_word 0 ≡ bit_at next.here 63
  east-last =
      let none : bit_at (at.here * 2 ^ 1 % 2 ^ 64) 0 ≡ 0 = bit-mod (at.here * 2 ^ 1) 64 0 (omega arith) ∙ shl-low at.here 1 0 (omega arith) in
      let some : bit_at (next.here / 2 ^ 63) 0 ≡ bit_at next.here 63 = bit-shr next.here 63 0 in
      bit_at_or (at.here * 2 ^ 1 % 2 ^ 64) (next.here / 2 ^ 63) 0 ∙ omega (arith, none, some)

  east-rest : (i : ℕ) → i < 63 → bit_at east_word (i + 1) ≡ bit_at at.here i
  east-rest i lt =
      let back : i + 1 - 1 ≡ i = omega arith in
      let some : bit_at (at.here * 2 ^ 1 % 2 ^ 64) (i + 1) ≡ bit_at at.here i = bit-mod (at.here * 2 ^ 1) 64 (i + 1) (omega (arith, lt))
      ∙ shl-high at.here 1 (i + 1) (omega arith) ∙ ap (bit_at at.here) back in
      let none : bit_at (next.here / 2 ^ 63) (i + 1) ≡ 0 = bit-shr next.here 63 (i + 1) ∙ bit_at_above next.here 64 (i + 1 + 63) few (omega arith) in
      bit_at_or (at.here * 2 ^ 1 % 2 ^ 64) (next.here / 2 ^ 63) (i + 1) ∙ omega (arith, none, some)

  -- a cell of the place, by its bit
  cell-here : (c : ℕ) → c / 64 ≡ place → bit_at at.here (63 - c % 64) ≡ cell_in_words words c
  cell-here c e =
      ap (λ z. bit_at z (63 - c % 64)) here.here ∙ ap (λ z. cell_in_word (cells_at_place words z) (c % 64)) (sym e)

  pub columns-are : AreColumns words place (record { before = west_word; here = at.here; after = east_word })
  columns-are = record {
    edge = λ e. west-first ∙ ap (λ z. bit_at z 0) (here.edge e) ∙ bit_at-zero 0;
    west = λ c e. elim (cases_lt (c / 64) place) [
      | inl before ↦
          (let bit : 63 - suc c % 64 ≡ 63 = omega (arith, before, e) in
          let last : 0 ≡ 63 - c % 64 = omega (arith, before, e) in
          ap (bit_at west_word) bit ∙ west-first ∙ ap (bit_at at.west) last
          ∙ ap (λ z. bit_at z (63 - c % 64)) (here.west (c / 64) (omega (arith, before, e))))
      | inr same ↦
          (let at_place : c / 64 ≡ place = omega (arith, same, e) in
          let bit : 63 - suc c % 64 + 1 ≡ 63 - c % 64 = omega (arith, at_place, e) in
          west-rest (63 - suc c % 64) (omega (arith, at_place, e)) ∙ ap (bit_at at.here) bit ∙ cell-here c at_place)
    ];
    here = cell-here;
    east = λ c e. elim (cases_lt (c % 64) 63) [
      | inl inside ↦
          (let bit : 63 - c % 64 ≡ 63 - suc c % 64 + 1 = omega (arith, inside) in
          ap (bit_at east_word) bit ∙ east-rest (63 - suc c % 64) (omega (arith, inside)) ∙ cell-here (suc c) (omega (arith, inside, e)))
      | inr last ↦
          (let bit : 63 - c % 64 ≡ 0 = omega (arith, last) in
          let first : 63 ≡ 63 - suc c % 64 = omega (arith, last) in
          let after : place + 1 ≡ suc c / 64 = omega (arith, last, e) in
          ap (bit_at east_word) bit ∙ east-last ∙ ap (bit_at next.here) first
          ∙ ap (λ z. bit_at z (63 - suc c % 64)) (there.here ∙ ap (cells_at_place words) after))
    ];
  }

-- ---- the next states of a place

-- the next state of a cell by the bits of nine words
next-by_bits : (rule : OuterTotalistic) (north here south : ℕ → ℕ) (w : NineWords) (i west : ℕ)
    → bit_at w.before.before i ≡ north west → bit_at w.before.here i ≡ north (suc west) → bit_at w.before.after i ≡ north (west + 2)
    → bit_at w.here.before i ≡ here west → bit_at w.here.here i ≡ here (suc west) → bit_at w.here.after i ≡ here (west + 2)
    → bit_at w.after.before i ≡ south west → bit_at w.after.here i ≡ south (suc west) → bit_at w.after.after i ≡ south (west + 2)
    → next_by_count rule.sets (bit_at w.here.here i) (live_in (counted_in rule.near w i)) ≡ next_in_row rule north here south west
next-by_bits rule north here south w i west nw n ne we c e sw s se = by rule.near
  where
    by : (near : Near)
        → next_by_count rule.sets (bit_at w.here.here i) (live_in (counted_in near w i))
        ≡ next_in_row (record { sets = rule.sets; near = near }) north here south west
    by Moore = (λ j. next_by_count rule.sets (c j) (live_in (n j ∷ ne j ∷ e j ∷ se j ∷ s j ∷ sw j ∷ we j ∷ nw j ∷ [])))
    by VonNeumann = (λ j. next_by_count rule.sets (c j) (live_in (n j ∷ e j ∷ s j ∷ we j ∷ [])))

-- no cell is born where none is around
quiet-next : (sets : DigitSets) → has_digit sets.births 0 ≡ false → next_by_count sets 0 0 ≡ 0
quiet-next sets quiet = ap (λ (b : Bool). if b then 1 else 0) both
  where
    both : ((0 == 0 && has_digit sets.births 0) || (0 == 1 && has_digit sets.survivals 0)) ≡ false
    both = ap (λ (b : Bool). (0 == 0 && b) || (0 == 1 && has_digit sets.survivals 0)) quiet

none-around : (rule : OuterTotalistic) (north here south : ℕ → ℕ) (west : ℕ) → has_digit rule.sets.births 0 ≡ false
    → north west ≡ 0 → north (suc west) ≡ 0 → north (west + 2) ≡ 0 → here west ≡ 0 → here (suc west) ≡ 0 → here (west + 2) ≡ 0
    → south west ≡ 0 → south (suc west) ≡ 0 → south (west + 2) ≡ 0 → next_in_row rule north here south west ≡ 0
none-around rule north here south west quiet nw n ne we c e sw s se = by rule.near ∙ quiet-next rule.sets quiet
  where
    by : (near : Near) → next_in_row (record { sets = rule.sets; near = near }) north here south west ≡ next_by_count rule.sets 0 0
    by Moore = (λ j. next_by_count rule.sets (c j) (live_in (n j ∷ ne j ∷ e j ∷ se j ∷ s j ∷ sw j ∷ we j ∷ nw j ∷ [])))
    by VonNeumann = (λ j. next_by_count rule.sets (c j) (live_in (n j ∷ e j ∷ s j ∷ we j ∷ [])))

none-counted : (rule : OuterTotalistic) (w : NineWords) (i : ℕ) → has_digit rule.sets.births 0 ≡ false
    → bit_at w.before.before i ≡ 0 → bit_at w.before.here i ≡ 0 → bit_at w.before.after i ≡ 0
    → bit_at w.here.before i ≡ 0 → bit_at w.here.here i ≡ 0 → bit_at w.here.after i ≡ 0
    → bit_at w.after.before i ≡ 0 → bit_at w.after.here i ≡ 0 → bit_at w.after.after i ≡ 0
    → next_by_count rule.sets (bit_at w.here.here i) (live_in (counted_in rule.near w i)) ≡ 0
none-counted rule w i quiet nw n ne we c e sw s se = by rule.near ∙ quiet-next rule.sets quiet
  where
    by : (near : Near) → next_by_count rule.sets (bit_at w.here.here i) (live_in (counted_in near w i)) ≡ next_by_count rule.sets 0 0
    by Moore = (λ j. next_by_count rule.sets (c j) (live_in (n j ∷ ne j ∷ e j ∷ se j ∷ s j ∷ sw j ∷ we j ∷ nw j ∷ [])))
    by VonNeumann = (λ j. next_by_count rule.sets (c j) (live_in (n j ∷ e j ∷ s j ∷ we j ∷ [])))

-- no cell in the first 64 columns of an inner row
first-none : (words : List RowWord) → AreInner words → (c : ℕ) → c / 64 ≡ 0 → cell_in_words words c ≡ 0
first-none words inner c e =
    ap (λ z. cell_in_word (cells_at_place words z) (c % 64)) e ∙ ap (λ z. cell_in_word z (c % 64)) (inner-west words inner) ∙ bit_at-zero (63 - c % 64)

-- the word has the next states of the cells of the place
pub next-states : (rule : OuterTotalistic) (w : NineWords) (word place : ℕ) (north here south : List RowWord) → has_digit rule.sets.births 0 ≡ false
    → ((i : ℕ) → i < 64 → bit_at word i ≡ next_by_count rule.sets (bit_at w.here.here i) (live_in (counted_in rule.near w i)))
    → AreInner north → AreInner here → AreInner south
    → AreColumns north place w.before → AreColumns here place w.here → AreColumns south place w.after
    → (c : ℕ) → c / 64 ≡ place → bit_at word (63 - c % 64) ≡ next_cell rule (cell_in_words north) (cell_in_words here) (cell_in_words south) c
next-states rule w word place north here south quiet next in_north in_here in_south n h s zero e =
    let first : 0 ≡ place = omega (arith, e) in
    next 63 (omega arith)
    ∙ none-counted rule w 63 quiet (n.edge (sym first)) (n.here 0 e ∙ first-none north in_north 0 (omega arith))
    (n.east 0 e ∙ first-none north in_north 1 (omega arith)) (h.edge (sym first)) (h.here 0 e ∙ first-none here in_here 0 (omega arith))
    (h.east 0 e ∙ first-none here in_here 1 (omega arith)) (s.edge (sym first)) (s.here 0 e ∙ first-none south in_south 0 (omega arith))
    (s.east 0 e ∙ first-none south in_south 1 (omega arith))
next-states rule w word place north here south quiet next in_north in_here in_south n h s (suc west) e =
    let later : suc (suc west) ≡ west + 2 = omega arith in
    let i = 63 - suc west % 64 in
    next i (omega arith)
    ∙ next-by_bits rule (cell_in_words north) (cell_in_words here) (cell_in_words south) w i west
    (n.west west e) (n.here (suc west) e) (n.east (suc west) e ∙ ap (cell_in_words north) later)
    (h.west west e) (h.here (suc west) e) (h.east (suc west) e ∙ ap (cell_in_words here) later)
    (s.west west e) (s.here (suc west) e) (s.east (suc west) e ∙ ap (cell_in_words south) later)

-- ---- the next row as far as a place

-- no cell of a row beside a column of a place about which it has none
module _ (words : List RowWord) (place : ℕ) (blank : IsBlankAt words place) where
  cell-of_none : (c n : ℕ) → c / 64 ≡ n → cells_at_place words n ≡ 0 → cell_in_words words c ≡ 0
  cell-of_none c n e none =
      ap (λ z. cell_in_word (cells_at_place words z) (c % 64)) e ∙ ap (λ z. cell_in_word z (c % 64)) none ∙ bit_at-zero (63 - c % 64)

  blank-west : (c : ℕ) → suc c / 64 ≡ place → cell_in_words words c ≡ 0
  blank-west c e = elim (cases_lt (c / 64) place) [
    | inl before ↦ cell-of_none c (c / 64) refl (blank.west (c / 64) (omega (arith, before, e)))
    | inr same ↦ cell-of_none c place (omega (arith, same, e)) blank.here
  ]

  blank-here : (c : ℕ) → c / 64 ≡ place → cell_in_words words c ≡ 0
  blank-here c e = cell-of_none c place e blank.here

  blank-east : (c : ℕ) → suc c / 64 ≡ place → cell_in_words words (c + 2) ≡ 0
  blank-east c e = elim (cases_lt place ((c + 2) / 64)) [
    | inl after ↦ cell-of_none (c + 2) (suc place) (omega (arith, after, e)) blank.east
    | inr same ↦ cell-of_none (c + 2) place (omega (arith, same, e)) blank.here
  ]

module _ (rule : OuterTotalistic) (quiet : has_digit rule.sets.births 0 ≡ false) (north here south : List RowWord) where
  -- none is born there
  next-of_blank : (place : ℕ) → AreBlankAt north here south place → (c : ℕ) → c / 64 ≡ place
      → next_cell rule (cell_in_words north) (cell_in_words here) (cell_in_words south) c ≡ 0
  next-of_blank place blank zero e = refl
  next-of_blank place blank (suc west) e =
      none-around rule (cell_in_words north) (cell_in_words here) (cell_in_words south) west quiet
      (blank-west north place blank.0 west e) (blank-here north place blank.0 (suc west) e) (blank-east north place blank.0 west e)
      (blank-west here place blank.1 west e) (blank-here here place blank.1 (suc west) e) (blank-east here place blank.1 west e)
      (blank-west south place blank.2 west e) (blank-here south place blank.2 (suc west) e) (blank-east south place blank.2 west e)

  -- no word yet
  pub next-begun : IsNextTo north here south rule [] 0
  next-begun = record {
    words = record { within = λ k d lt. absurd (omega (arith, lt)); rise = λ i j d less lt. absurd (omega (arith, lt)) };
    before = λ k d lt. absurd (omega (arith, lt));
    cells = λ c lt. absurd (omega (arith, lt));
  }

  -- no cell of the row from the place on
  next-none : (next : List RowWord) (from : ℕ) → IsNextTo north here south rule next from → (c : ℕ) → from ≤ c / 64 → cell_in_words next c ≡ 0
  next-none next from done c le =
      ap (λ z. cell_in_word z (c % 64))
      (place-none next (c / 64) (λ k d lt e. let less = done.before k d lt in omega (arith, less, le, e)))
      ∙ bit_at-zero (63 - c % 64)

  -- a place more, after places where no cell is born
  pub next-more : (old new : List RowWord) (from place word : ℕ) → IsNextTo north here south rule old from → from ≤ place
      → ((n : ℕ) → from ≤ n → n < place → AreBlankAt north here south n) → AddsWord old new place word
      → ((c : ℕ) → c / 64 ≡ place → bit_at word (63 - c % 64) ≡ next_cell rule (cell_in_words north) (cell_in_words here) (cell_in_words south) c)
      → IsNextTo north here south rule new (place + 1)
  next-more old new from place word done order gap adds states = record {
    words = adds.words;
    before = adds.before;
    cells = λ c lt. elim (cases_lt (c / 64) place) [
      | inl west ↦ ap (λ z. cell_in_word z (c % 64)) (adds.others (c / 64) west) ∙ elim (cases_lt (c / 64) from) [
        | inl earlier ↦ done.cells c earlier
        | inr later ↦ next-none old from done c later ∙ sym (next-of_blank (c / 64) (gap (c / 64) later west) c refl)
      ]
      | inr east ↦
          (let there : c / 64 ≡ place = omega (arith, lt, east) in
          ap (λ z. cell_in_word (cells_at_place new z) (c % 64)) there ∙ ap (λ z. cell_in_word z (c % 64)) adds.there ∙ states c there)
    ];
  }

  -- the whole row
  pub next-done : (next : List RowWord) (from : ℕ) → IsNextTo north here south rule next from → IsBlankFrom north here south from
      → (c : ℕ) → cell_in_words next c ≡ next_cell rule (cell_in_words north) (cell_in_words here) (cell_in_words south) c
  next-done next from done blank c = elim (cases_lt (c / 64) from) [
    | inl earlier ↦ done.cells c earlier
    | inr later ↦ next-none next from done c later ∙ sym (next-of_blank (c / 64) (blank (c / 64) later) c refl)
  ]

-- ---- the next place to visit

module _ (north here south : List RowWord) (in_north : AreInner north) (in_here : AreInner here) (in_south : AreInner south) (at : Three RowPlace) (place : ℕ)
    (are : AreAt north here south place at) where
  -- it is this one, if one of the rows has a cell there or at the place before
  pub visit-here : place ≤ 2 ^ (MAX_LEVEL - 6) → ¬ HasNoCells at → IsVisited north here south at place place
  visit-here within some = record {
    order = omega arith;
    within = elim (cases_lt place (2 ^ (MAX_LEVEL - 6))) [
      | inl lt ↦ lt
      | inr over ↦
          (let edge : place ≡ 2 ^ (MAX_LEVEL - 6) = omega (arith, within, over) in
          let there = subst (λ p. AreAt north here south p at) edge are in
          absurd (some (
            inner-clear north at.before in_north there.0,
            inner-clear here at.here in_here there.1,
            inner-clear south at.after in_south there.2,
          )))
    ];
    gap = λ n from before. absurd (omega (arith, from, before));
    at_place = are;
  }

  module _ (none : HasNoCells at) (next : ℕ)
      (is : next ≡ min (min (place_ahead north at.before.passed) (place_ahead here at.here.passed)) (place_ahead south at.after.passed)) where
    -- no word is left
    pub visit-none : next ≡ 2 ^ 64 - 1 → IsBlankFrom north here south place
    visit-none never n from = (
      blank-after north in_north.are place at.before are.0 none.0 (ahead-over north in_north.are at.before.passed (omega (arith, is, never))) n from,
      blank-after here in_here.are place at.here are.1 none.1 (ahead-over here in_here.are at.here.passed (omega (arith, is, never))) n from,
      blank-after south in_south.are place at.after are.2 none.2 (ahead-over south in_south.are at.after.passed (omega (arith, is, never))) n from,
    )

    -- or it is the one before the first word that is left
    pub visit-next : place ≤ 2 ^ (MAX_LEVEL - 6) → next < 2 ^ 64 - 1 → IsVisited north here south at place (next - 1)
    visit-next within some =
        let small : place < 2 ^ 64 - 1 = omega (arith, within) in
        let a = ahead-later north in_north.are place at.before are.0 small in
        let b = ahead-later here in_here.are place at.here are.1 small in
        let c = ahead-later south in_south.are place at.after are.2 small in
        let near_a = ahead-within north in_north.are at.before.passed in
        let near_b = ahead-within here in_here.are at.here.passed in
        let near_c = ahead-within south in_south.are at.after.passed in record {
          order = omega (arith, is, a, b, c);
          within = elim (cases_lt (place_ahead north at.before.passed) (2 ^ 64 - 1)) [
            | inl lt ↦ (let inside = near_a lt in omega (arith, is, inside))
            | inr far_a ↦ elim (cases_lt (place_ahead here at.here.passed) (2 ^ 64 - 1)) [
              | inl lt ↦ (let inside = near_b lt in omega (arith, is, inside))
              | inr far_b ↦ (let inside = near_c (omega (arith, is, some, far_a, far_b)) in omega (arith, is, inside))
            ]
          ];
          gap = λ n from before. (
            blank-to north in_north.are place at.before are.0 none.0 n from (omega (arith, is, before)),
            blank-to here in_here.are place at.here are.1 none.1 n from (omega (arith, is, before)),
            blank-to south in_south.are place at.after are.2 none.2 n from (omega (arith, is, before)),
          );
          at_place = (
            at-later north in_north.are place at.before are.0 none.0 (next - 1) (omega (arith, is, a, b, c)) (omega (arith, is, a, b, c)),
            at-later here in_here.are place at.here are.1 none.1 (next - 1) (omega (arith, is, a, b, c)) (omega (arith, is, a, b, c)),
            at-later south in_south.are place at.after are.2 none.2 (next - 1) (omega (arith, is, a, b, c)) (omega (arith, is, a, b, c)),
          );
        }
