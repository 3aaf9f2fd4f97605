-- Facts about rows of words, and the blocks of these.
use Rattle.std.proofs.Common.{◌≡◌, ℕ, suc, ◌+◌, ◌/◌, ◌%◌, ◌<◌, ◌==◌, inl, inr, true, false, if◌then◌else◌, List, [], ◌∷◌, length, map, All, AllPairs, refl, sym, ◌∙◌, ap, arith}
use Rattle.std.proofs.lemmas.Bool.{cases_eq, cases_lt}
use Rattle.std.proofs.lemmas.List.{get_or-map, length-map}
use Rattle.std.proofs.lemmas.List.Elements.{All-map, All-tail}
use Rattle.life_strip.specs.declared.blocks.Block.{Block}
use Rattle.life_strip.specs.declared.row_builder.RowWord.{RowWord}
use Rattle.life_strip.specs.Blocks.{AreRowBlocks, IsRowBlock, cell_in_blocks, cell_in_word, cells_at_block}
use Rattle.life_strip.specs.RowWords.{AreRowWords, cell_in_words, cells_at_place}
use Rattle.life_strip.proofs.BlockLemmas.{block-after, block-before, block-in}

-- the block of a word
abbrev pub block_of_word : RowWord → Block
block_of_word w = record { start = w.place; end = w.place + 1; cells = w.cells }

-- the words after the first are further east
rest-later : (w : RowWord) (rest : List RowWord) → AllPairs (λ a b. a.place < b.place) (w ∷ rest) → All (λ z. w.place < z.place) rest
rest-later w rest rise k d lt = rise 0 (suc k) d (omega arith) (omega (arith, lt))

rest-rises : (w : RowWord) (rest : List RowWord) → AllPairs (λ a b. a.place < b.place) (w ∷ rest) → AllPairs (λ a b. a.place < b.place) rest
rest-rises w rest rise i j d before within = rise (suc i) (suc j) d (omega (arith, before)) (omega (arith, within))

-- before the first word there is no cell
words-before : (words : List RowWord) (place : ℕ) → All (λ w. place < w.place) words → cells_at_place words place ≡ 0
words-before [] place later = refl
words-before (w ∷ rest) place later =
    let first : place < w.place = later 0 w (omega arith) in
    let below : cells_at_place rest place ≡ 0 = words-before rest place (All-tail (λ z. place < z.place) w rest later) in
    grind (arith, first, below)

-- the blocks of words have the cells of the words
same-cells : (words : List RowWord) → AllPairs (λ a b. a.place < b.place) words → (place : ℕ)
    → cells_at_block (map block_of_word words) place ≡ cells_at_place words place
same-cells [] rise place = refl
same-cells (w ∷ rest) rise place =
    let b = block_of_word w in
    let blocks = map block_of_word rest in
    elim (cases_lt place w.place) [
      | inl early ↦
          (let other : (w.place == place) ≡ false = grind (arith, early) in
          block-before b blocks place early (omega (arith, early))
          ∙ sym (words-before rest place (λ k d lt. let later = rest-later w rest rise k d lt in omega (arith, early, later)))
          ∙ sym (ap (λ t. if t then w.cells else cells_at_place rest place) other))
      | inr from ↦ elim (cases_eq place w.place) [
        | inl same ↦
            (let there : (w.place == place) ≡ true = grind (arith, same) in
            block-in b blocks place from (omega (arith, same)) ∙ sym (ap (λ t. if t then w.cells else cells_at_place rest place) there))
        | inr differ ↦
            (let other : (w.place == place) ≡ false = grind (arith, differ) in
            block-after b blocks place (omega (arith, from, differ)) ∙ same-cells rest (rest-rises w rest rise) place
            ∙ sym (ap (λ t. if t then w.cells else cells_at_place rest place) other))
      ]
    ]

pub cells-of-words : (words : List RowWord) → AreRowWords words → (c : ℕ) → cell_in_blocks (map block_of_word words) c ≡ cell_in_words words c
cells-of-words words are c = ap (λ z. cell_in_word z (c % 64)) (same-cells words are.rise (c / 64))

-- and are those of a row
pub blocks-of-words : (words : List RowWord) → AreRowWords words → AreRowBlocks (map block_of_word words)
blocks-of-words words are = record {
  each = All-map IsRowBlock block_of_word words (λ k d lt. let place = are.within k d lt in record {
    some = omega arith;
    within = omega (arith, place);
    long = λ more. absurd (omega (arith, more));
  });
  rise = λ i j d before within.
      let short : j < length words = omega (arith, within, length-map words block_of_word) in
      let e : RowWord = record { place = 0; cells = 0 } in
      let order = are.rise i j e before short in
      let first = ap (λ (b : Block). b.end) (get_or-map block_of_word words i e d (omega (arith, before, short))) in
      let second = ap (λ (b : Block). b.start) (get_or-map block_of_word words j e d short) in
      omega (arith, order, first, second);
}
