-- Facts about cells that are put into rows of words.
use Rattle.std.proofs.Common.{◌≡◌, ℕ, suc, ◌+◌, ◌-◌, ◌/◌, ◌%◌, ◌^◌, ◌≤◌, ◌<◌, max, ◌⊎◌, inl, inr, List, [], ◌∷◌, ◌++◌, length, get_or, set, take, refl, sym, ◌∙◌, ap, subst, arith, pow_pos}
use Rattle.std.specs.Int.{bit_at}
use Rattle.std.proofs.lemmas.Bool.{cases_lt}
use Rattle.std.proofs.lemmas.List.{drop_all, get_or-take, get_or_default, length-take, set_split, take_all, take_more}
use Rattle.std.proofs.lemmas.List.Elements.{All-push, All-take}
use Rattle.std.proofs.lemmas.Nat.{mod-pow-add}
use Rattle.std.proofs.lemmas.Nat.Bits.{bit_at-lt, bit_at-zero, bit_at_mask_above, bit_at_mask_below, bit_at_mask_inside, same_from_bits_below}
use Rattle.life_base.specs.declared.cell.TheConstants.{MAX_LEVEL}
use Rattle.life_lanes.proofs.WordLemmas.{bit-mod}
use Rattle.life_rows.specs.RowCells.{AreWestOf, AreFrom, AreWordsBefore, IsWordBefore, PutsCells}
use Rattle.life_rows.proofs.RowWordLemmas.{place-none, more-elsewhere, more-there, more-words}
use Rattle.life_strip.specs.Blocks.{cell_in_word}
use Rattle.life_strip.specs.RowWords.{AreRowWords, cells_at_place}
use Rattle.life_strip.specs.declared.row_builder.RowWord.{RowWord}

-- ---- no cell from a column on

-- nothing is put
pub puts-none : (words : List RowWord) (column : ℕ) → AreRowWords words → AreWordsBefore column words → PutsCells words words column column
puts-none words column are before = record {
  words = are;
  before = before;
  inside = λ c le lt. absurd (omega (arith, le, lt));
  others = λ c out. refl;
  places = λ n le from. from;
}

-- nor is any from a later column on
word-before_later : (w : RowWord) (column later : ℕ) → column ≤ later → IsWordBefore column w → IsWordBefore later w
word-before_later w column later order (inl west) = inl (omega (arith, west, order))
word-before_later w column later order (inr there) = elim (cases_lt w.place (later / 64)) [
  | inl west ↦ inl west
  | inr le ↦
      (let place = there.0 in
      let same : w.place ≡ later / 64 = omega (arith, place, order, le) in
      let j = later % 64 - column % 64 in
      let places : 64 - column % 64 ≡ j + (64 - later % 64) = omega (arith, place, same, order) in
      let parts = mod-pow-add w.cells j (64 - later % 64) in
      let whole : w.cells % 2 ^ (j + (64 - later % 64)) ≡ 0 = ap (λ z. w.cells % 2 ^ z) (sym places) ∙ there.1 in
      inr (same, omega (arith, parts, whole)))
]

pub words-before_later : (words : List RowWord) (column later : ℕ) → column ≤ later → AreWordsBefore column words → AreWordsBefore later words
words-before_later words column later order before k d lt = word-before_later (get_or words k d) column later order (before k d lt)

-- one piece, and then the next
pub puts-both : (old between new : List RowWord) (start middle end : ℕ) → start ≤ middle → middle ≤ end → PutsCells old between start middle
    → PutsCells between new middle end → PutsCells old new start end
puts-both old between new start middle end first second one two = record {
  words = two.words;
  before = two.before;
  inside = λ c le lt. elim (cases_lt c middle) [
    | inl west ↦ two.others c (λ h. let east = h.0 in omega (arith, west, east)) ∙ one.inside c le west
    | inr east ↦ two.inside c east lt
  ];
  others = λ c out. two.others c (λ h. out (omega (arith, h.0, first), h.1)) ∙ one.others c (λ h. out (h.0, omega (arith, h.1, second)));
  places = λ n le from. two.places n (omega (arith, le, first)) (one.places n le from);
}

-- ---- more cells in a word

-- the bits of so many columns from one of them on
abbrev pub bits_from : ℕ → ℕ → ℕ
bits_from from count = 2 ^ (64 - from) - 2 ^ (64 - (from + count))

-- a word that has the bits of another one, which has none from a column on, and those of columns from there on
module _ (word old from count : ℕ) (within : from + count ≤ 64) (none : old % 2 ^ (64 - from) ≡ 0)
    (bits : (i : ℕ) → bit_at word i ≡ max (bit_at old i) (bit_at (bits_from from count) i)) where
  old-low : (i : ℕ) → i < 64 - from → bit_at old i ≡ 0
  old-low i lt = sym (bit-mod old (64 - from) i lt) ∙ ap (λ z. bit_at z i) none ∙ bit_at-zero i

  pub word-inside : (c : ℕ) → from ≤ c → c < from + count → cell_in_word word c ≡ 1
  word-inside c le lt =
      let at = bits (63 - c) in
      let one = bit_at_mask_inside (64 - (from + count)) (64 - from) (63 - c) (omega (arith, lt, within)) (omega (arith, le, lt, within)) in
      let small = bit_at-lt old (63 - c) in
      omega (arith, at, one, small)

  pub word-outside : (c : ℕ) → c < 64 → ¬ ((from ≤ c) × (c < from + count)) → cell_in_word word c ≡ cell_in_word old c
  word-outside c small out =
      let at = bits (63 - c) in
      let zero : bit_at (bits_from from count) (63 - c) ≡ 0 = elim (cases_lt c from) [
        | inl west ↦ bit_at_mask_above (64 - (from + count)) (64 - from) (63 - c) (omega (arith, west, within))
        | inr le ↦ elim (cases_lt c (from + count)) [
          | inl lt ↦ absurd (out (le, lt))
          | inr east ↦ bit_at_mask_below (64 - (from + count)) (64 - from) (63 - c) (omega (arith, east, small))
        ]
      ] in
      omega (arith, at, zero)

  pub word-left : word % 2 ^ (64 - (from + count)) ≡ 0
  word-left =
      let k = 64 - (from + count) in
      let some = pow_pos k in
      same_from_bits_below k (word % 2 ^ k) 0 (omega (arith, some)) some (λ i lt.
      (let at = bits i in
      let low = old-low i (omega (arith, lt)) in
      let zero = bit_at_mask_below k (64 - from) i lt in
      let both : bit_at word i ≡ 0 = omega (arith, at, low, zero) in
      bit-mod word k i lt ∙ both ∙ sym (bit_at-zero i)))

-- ---- cells are put into one word

-- every word of a row that has no cell from a column on is west of the place of the column, unless the last one has that
pub words-west : (words : List RowWord) (column : ℕ) → AreRowWords words → AreWordsBefore column words
    → ((d : RowWord) → 0 < length words → ¬ ((get_or words (length words - 1) d).place ≡ column / 64)) → AreWestOf (column / 64) words
words-west words column are before other k d lt =
    let n = length words - 1 in
    let last : (get_or words n d).place < column / 64 = over (get_or words n d) (before n d (omega (arith, lt))) (other d (omega (arith, lt))) in
    elim (cases_lt k n) [
      | inl earlier ↦ (let order = are.rise k n d earlier (omega (arith, lt)) in omega (arith, order, last))
      | inr late ↦ (let same : k ≡ n = omega (arith, late, lt) in subst (λ z. (get_or words z d).place < column / 64) (sym same) last)
    ]
  where
    over : (w : RowWord) → IsWordBefore column w → ¬ (w.place ≡ column / 64) → w.place < column / 64
    over w (inl less) elsewhere = less
    over w (inr there) elsewhere = absurd (elsewhere there.0)

module _ (words : List RowWord) (start end : ℕ) (are : AreRowWords words) (before : AreWordsBefore start words) (some : start < end)
    (one : start % 64 + (end - start) ≤ 64) (within : end ≤ 2 ^ MAX_LEVEL) where
  abbrev pub bits_between : ℕ
  bits_between = bits_from (start % 64) (end - start)

  -- the last word gets the cells, which has had others
  module _ (b : RowWord) (old : ℕ) (there : b.place ≡ start / 64) (none : old % 2 ^ (64 - start % 64) ≡ 0)
      (bits : (i : ℕ) → bit_at b.cells i ≡ max (bit_at old i) (bit_at bits_between i)) where
    last-before : IsWordBefore end b
    last-before = elim (cases_lt b.place (end / 64)) [
      | inl west ↦ inl west
      | inr le ↦
          (let same : b.place ≡ end / 64 = omega (arith, there, some, le) in
          let last : end % 64 ≡ start % 64 + (end - start) = omega (arith, there, same, some) in
          inr (same, ap (λ z. b.cells % 2 ^ (64 - z)) last ∙ word-left b.cells old (start % 64) (end - start) one none bits))
    ]

    pub puts-last : (before-it prefix : List RowWord) → cells_at_place before-it b.place ≡ old
        → ((n : ℕ) → ¬ (b.place ≡ n) → cells_at_place before-it n ≡ cells_at_place prefix n) → AreRowWords prefix → AreWestOf b.place prefix
        → ((n : ℕ) → AreFrom n before-it → AreFrom n prefix) → PutsCells before-it (prefix ++ b ∷ []) start end
    puts-last before-it prefix was same words-of west kept = record {
      words = more-words prefix b words-of west (omega (arith, there, some, within));
      before = All-push (IsWordBefore end) prefix b (λ k d lt. inl (let less = west k d lt in omega (arith, less, there, some))) last-before;
      inside = λ c le lt.
          (let at : b.place ≡ c / 64 = omega (arith, there, le, lt, one) in
          ap (λ z. cell_in_word (cells_at_place (prefix ++ b ∷ []) z) (c % 64)) (sym at)
          ∙ ap (λ z. cell_in_word z (c % 64)) (more-there prefix b west)
          ∙ word-inside b.cells old (start % 64) (end - start) one none bits (c % 64) (omega (arith, le, lt, one)) (omega (arith, le, lt, one)));
      others = λ c out. elim (cases_place (c / 64)) [
        | inl at ↦
            ap (λ z. cell_in_word (cells_at_place (prefix ++ b ∷ []) z) (c % 64)) (sym at)
            ∙ ap (λ z. cell_in_word z (c % 64)) (more-there prefix b west)
            ∙ word-outside b.cells old (start % 64) (end - start) one none bits (c % 64) (omega arith)
            (λ h. let low = h.0 in let high = h.1 in out (omega (arith, there, at, low), omega (arith, there, at, low, high, some)))
            ∙ ap (λ z. cell_in_word z (c % 64)) (sym was)
            ∙ ap (λ z. cell_in_word (cells_at_place before-it z) (c % 64)) at
        | inr other ↦ ap (λ z. cell_in_word z (c % 64)) (more-elsewhere prefix b (c / 64) other ∙ sym (same (c / 64) other))
      ];
      places = λ n le from. All-push (λ z. n ≤ z.place) prefix b (kept n from) (omega (arith, le, there));
    }
      where
        cases_place : (n : ℕ) → (b.place ≡ n) ⊎ ((b.place ≡ n) → ⊥)
        cases_place n = elim (cases_lt b.place n) [
          | inl less ↦ inr (λ e. omega (arith, less, e))
          | inr le ↦ elim (cases_lt n b.place) [
            | inl more ↦ inr (λ e. omega (arith, more, e))
            | inr ge ↦ inl (omega (arith, le, ge))
          ]
        ]

  -- it is a new word
  pub puts-new : (b : RowWord) → b.place ≡ start / 64 → b.cells ≡ bits_between
      → ((d : RowWord) → 0 < length words → ¬ ((get_or words (length words - 1) d).place ≡ start / 64)) → PutsCells words (words ++ b ∷ []) start end
  puts-new b there cells other =
      let west : AreWestOf b.place words = subst (λ z. AreWestOf z words) (sym there) (words-west words start are before other) in
      puts-last b 0 there (omega arith)
      (λ i. let same = ap (λ z. bit_at z i) cells in let zero = bit_at-zero i in omega (arith, same, zero))
      words words (place-none words b.place (λ k d lt e. let less = west k d lt in omega (arith, less, e))) (λ n ne. refl) are west
      (λ n from. from)

  -- or the last one
  module _ (n : ℕ) (a : RowWord) (len : n + 1 ≡ length words) (at : a ≡ get_or words n a) (there : a.place ≡ start / 64) where
    index : n < length words
    index = omega (arith, len)

    -- it has no cell from the start on
    last-none : a.cells % 2 ^ (64 - start % 64) ≡ 0
    last-none = by (subst (IsWordBefore start) (sym at) (before n a index))
      where
        by : IsWordBefore start a → a.cells % 2 ^ (64 - start % 64) ≡ 0
        by (inl less) = absurd (omega (arith, less, there))
        by (inr same) = same.1

    -- the others are west of it
    prefix-west : AreWestOf a.place (take n words)
    prefix-west k d lt =
        let short : k < n = omega (arith, length-take n words, lt) in
        let order = are.rise k n d short index in
        let first = ap (λ w. w.place) (get_or-take n words k d short) in
        let last = ap (λ w. w.place) (at ∙ get_or_default words n a d index) in
        omega (arith, order, first, last)

    prefix-words : AreRowWords (take n words)
    prefix-words = record {
      within = All-take (λ w. w.place < 2 ^ (MAX_LEVEL - 6)) n words are.within;
      rise = λ i j d less lt.
          (let len-of = length-take n words in
          let short : j < n = omega (arith, len-of, lt) in
          let order = are.rise i j d less (omega (arith, len-of, lt)) in
          let first = ap (λ w. w.place) (get_or-take n words i d (omega (arith, less, short))) in
          let last = ap (λ w. w.place) (get_or-take n words j d short) in
          omega (arith, order, first, last));
    }

    pub puts-more : (b : RowWord) → b.place ≡ a.place → ((i : ℕ) → bit_at b.cells i ≡ max (bit_at a.cells i) (bit_at bits_between i))
        → PutsCells words (set words n b) start end
    puts-more b same bits =
        let prefix = take n words in
        let old : words ≡ prefix ++ a ∷ [] = sym (take_all (n + 1) words (omega (arith, len))) ∙ take_more words n a index
        ∙ ap (λ z. prefix ++ z ∷ []) (sym at) in
        let new : set words n b ≡ prefix ++ b ∷ [] = set_split words n b index
        ∙ ap (λ z. prefix ++ b ∷ z) (drop_all (suc n) words (omega (arith, len))) in
        let west : AreWestOf b.place prefix = subst (λ z. AreWestOf z prefix) (sym same) prefix-west in
        subst (λ z. PutsCells words z start end) (sym new)
        (puts-last b a.cells (same ∙ there) last-none bits words prefix
        (ap (λ z. cells_at_place z b.place) old ∙ ap (cells_at_place (prefix ++ a ∷ [])) same ∙ more-there prefix a prefix-west)
        (λ m ne. ap (λ z. cells_at_place z m) old ∙ more-elsewhere prefix a m (λ e. ne (same ∙ e)))
        prefix-words west (λ m from. All-take (λ z. m ≤ z.place) n words from))
