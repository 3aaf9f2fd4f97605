-- Facts about rows of blocks.
use Rattle.std.proofs.Common.{◌≡◌, ℕ, suc, ◌+◌, ◌-◌, ◌*◌, ◌/◌, ◌%◌, ◌^◌, ◌≤◌, ◌<◌, inl, inr, nat_lt, nat_le, if◌then◌else◌, List, [], ◌∷◌, ◌++◌, length, get_or, set, take, drop, All, AllPairs, refl, sym, ◌∙◌, ap, subst, arith, pow-add, pow_pos}
use Rattle.std.specs.Int.{bit_at}
use Rattle.std.proofs.lemmas.Bool.{cases_lt}
use Rattle.std.proofs.lemmas.List.{drop_all, drop_more, get_or-take, get_or_default, get_or_past, length-take, set_split, take-append-drop, take_all, take_more}
use Rattle.std.proofs.lemmas.List.Elements.{All-more, All-push, All-tail, All-take}
use Rattle.std.proofs.lemmas.List.Quantifiers.{all_pairs_push}
use Rattle.std.proofs.lemmas.Nat.{mod-pow-add, mod_low, mul-le, shl-shr, shr_below, shr_split}
use Rattle.std.proofs.lemmas.Nat.Bits.{bit_at-zero, bit_at_cat_high, bit_at_cat_low, bit_at_mask_below, bit_at_mask_inside, bit_at_ones, ones_shl}
use Rattle.std.proofs.Math.Pow.{pow_mono}
use Rattle.life_base.specs.declared.cell.TheConstants.{MAX_LEVEL}
use Rattle.life_base.specs.Tree.{Tree, point}
use Rattle.life_quad.specs.declared.id.Id.{Id}
use Rattle.life_strip.specs.declared.blocks.Block.{Block}
use Rattle.life_strip.specs.declared.spans.Span.{Span}
use Rattle.life_strip.specs.Blocks.{AddsCells, AreRowBlocks, AreBlocksBefore, IsRowBlock, IsBlockBefore, cell_in_blocks, cell_in_word, cells_at_block}
use Rattle.life_strip.specs.Strip.{AreWithin, FilledTo, square_at, square_or_blank}
use Rattle.life_strip.proofs.SpanLemmas.{filled-skip, none_beyond}

-- ---- the cells of a list of blocks

-- a block has the cells of its columns
pub block-in : (b : Block) (rest : List Block) (n : ℕ) → b.start ≤ n → n < b.end → cells_at_block (b ∷ rest) n ≡ b.cells
block-in b rest n from before = grind arith

-- there are none before it
pub block-before : (b : Block) (rest : List Block) (n : ℕ) → n < b.start → n < b.end → cells_at_block (b ∷ rest) n ≡ 0
block-before b rest n from before = grind arith

-- and after it are those of the others
pub block-after : (b : Block) (rest : List Block) (n : ℕ) → b.end ≤ n → cells_at_block (b ∷ rest) n ≡ cells_at_block rest n
block-after b rest n after = grind arith

-- blocks that have ended have ended later too
ends-later : (prefix : List Block) (n later : ℕ) → All (λ b. b.end ≤ n) prefix → n ≤ later → All (λ b. b.end ≤ later) prefix
ends-later prefix n later over order k d lt = let end = over k d lt in omega (arith, end, order)

-- blocks that have ended are passed
pub blocks-passed : (prefix rest : List Block) (n : ℕ) → All (λ b. b.end ≤ n) prefix → cells_at_block (prefix ++ rest) n ≡ cells_at_block rest n
blocks-passed [] rest n over = refl
blocks-passed (b ∷ prefix) rest n over =
    block-after b (prefix ++ rest) n (over 0 b (omega arith)) ∙ blocks-passed prefix rest n (All-tail (λ z. z.end ≤ n) b prefix over)

-- after the last block is no cell
pub blocks-over : (blocks : List Block) (n : ℕ) → All (λ b. b.end ≤ n) blocks → cells_at_block blocks n ≡ 0
blocks-over [] n over = refl
blocks-over (b ∷ rest) n over = block-after b rest n (over 0 b (omega arith)) ∙ blocks-over rest n (All-tail (λ z. z.end ≤ n) b rest over)

-- the blocks from an index on have the cells after those before it
pub blocks-from : (blocks : List Block) (index n : ℕ) → All (λ b. b.end ≤ n) (take index blocks)
    → cells_at_block blocks n ≡ cells_at_block (drop index blocks) n
blocks-from blocks index n over =
    ap (λ z. cells_at_block z n) (sym (take-append-drop index blocks)) ∙ blocks-passed (take index blocks) (drop index blocks) n over

-- a block that begins later changes nothing
blocks-earlier : (prefix : List Block) (b : Block) (n : ℕ) → n < b.start → n < b.end → cells_at_block (prefix ++ b ∷ []) n ≡ cells_at_block prefix n
blocks-earlier [] b n from before = block-before b [] n from before
blocks-earlier (a ∷ prefix) b n from before =
    ap (λ z. if nat_lt n a.end then (if nat_le a.start n then a.cells else 0) else z) (blocks-earlier prefix b n from before)

-- a block east of others
module _ (prefix : List Block) (b : Block) (others : All (λ a. a.end ≤ b.start) prefix) (some : b.start < b.end) where
  last-in : (n : ℕ) → b.start ≤ n → n < b.end → cells_at_block (prefix ++ b ∷ []) n ≡ b.cells
  last-in n from before =
      blocks-passed prefix (b ∷ []) n (ends-later prefix b.start n others from) ∙ block-in b [] n from before

  last-before : (n : ℕ) → n < b.start → cells_at_block (prefix ++ b ∷ []) n ≡ cells_at_block prefix n
  last-before n before = blocks-earlier prefix b n before (omega (arith, before, some))

  last-after : (n : ℕ) → b.end ≤ n → cells_at_block (prefix ++ b ∷ []) n ≡ 0
  last-after n after =
      blocks-passed prefix (b ∷ []) n (ends-later prefix b.start n others (omega (arith, some, after))) ∙ block-after b [] n after

-- ---- blocks by their indexes

-- the first of a list keep what any two have
pairs-take : {X : Type 0} (R : X → X → Type 0) (xs : List X) (n : ℕ) → AllPairs R xs → AllPairs R (take n xs)
pairs-take R xs n pairs i j d before within =
    let len = length-take n xs in
    let short : j < n = omega (arith, len, within) in
    let whole : j < length xs = omega (arith, len, within) in
    subst (λ z. R z (get_or (take n xs) j d)) (sym (get_or-take n xs i d (omega (arith, before, short))))
    (subst (R (get_or xs i d)) (sym (get_or-take n xs j d short)) (pairs i j d before whole))

module _ (blocks : List Block) (are : AreRowBlocks blocks) where
  -- the blocks before an index end before the block there begins
  pub blocks-apart : (index : ℕ) (d : Block) → index < length blocks → All (λ b. b.end ≤ (get_or blocks index d).start) (take index blocks)
  blocks-apart index d within k e lt =
      let short : k < index = omega (arith, length-take index blocks, lt) in
      let order = are.rise k index d short within in
      let some : k < length blocks = omega (arith, short, within) in
      let same = ap (λ b. b.end) (get_or-take index blocks k e short ∙ get_or_default blocks k e d some) in
      omega (arith, order, same)

  -- and before it ends
  pub blocks-done : (index : ℕ) (d : Block) → index < length blocks → (n : ℕ) → (get_or blocks index d).end ≤ n
      → All (λ b. b.end ≤ n) (take (index + 1) blocks)
  blocks-done index d within n over =
      let some = (are.each index d within).some in
      All-more (λ b. b.end ≤ n) blocks index d within
      (ends-later (take index blocks) (get_or blocks index d).start n (blocks-apart index d within) (omega (arith, some, over))) over

  -- the cells of the block at an index
  pub cells_at_index : (index : ℕ) (d : Block) → index < length blocks → (n : ℕ) → (get_or blocks index d).start ≤ n → n < (get_or blocks index d).end
      → cells_at_block blocks n ≡ (get_or blocks index d).cells
  cells_at_index index d within n from before =
      blocks-from blocks index n (ends-later (take index blocks) (get_or blocks index d).start n (blocks-apart index d within) from)
      ∙ ap (λ z. cells_at_block z n) (drop_more blocks index d within) ∙ block-in (get_or blocks index d) (drop (index + 1) blocks) n from before

-- a block where none is left
abbrev pub no_block : Block
no_block = record { start = 2 ^ (MAX_LEVEL - 6); end = 2 ^ (MAX_LEVEL - 6); cells = 0 }

-- from the ends of the blocks before an index to the start of the one there is no cell
pub blocks-gap : (blocks : List Block) → AreRowBlocks blocks → (index n : ℕ) → All (λ b. b.end ≤ n) (take index blocks)
    → n < (get_or blocks index no_block).start → cells_at_block blocks n ≡ 0
blocks-gap blocks are index n over before = blocks-from blocks index n over ∙ elim (cases_lt index (length blocks)) [
  | inl within ↦
      (let some = (are.each index no_block within).some in
      ap (λ z. cells_at_block z n) (drop_more blocks index no_block within)
      ∙ block-before (get_or blocks index no_block) (drop (index + 1) blocks) n before (omega (arith, before, some)))
  | inr after ↦ ap (λ z. cells_at_block z n) (drop_all index blocks after)
]

-- ---- no cell from a column on

-- nor is any from a later column on
pub before_later : (b : Block) (column later : ℕ) → column ≤ later → IsBlockBefore column b → IsBlockBefore later b
before_later b column later order (inl over) = inl (omega (arith, over, order))
before_later b column later order (inr (some, start, end, none)) = elim (cases_lt later (64 * b.end)) [
  | inl within ↦
      (let same : later / 64 ≡ column / 64 = omega (arith, end, order, within) in
      let j = later % 64 - column % 64 in
      let places : 64 - column % 64 ≡ j + (64 - later % 64) = omega (arith, same, order) in
      let parts = mod-pow-add b.cells j (64 - later % 64) in
      let whole : b.cells % 2 ^ (j + (64 - later % 64)) ≡ 0 = ap (λ z. b.cells % 2 ^ z) (sym places) ∙ none in
      inr (omega (arith, same, order, some), omega (arith, start, same), omega (arith, end, same), omega (arith, parts, whole)))
  | inr after ↦ inl after
]

pub all-later : (blocks : List Block) (column later : ℕ) → column ≤ later → AreBlocksBefore column blocks → AreBlocksBefore later blocks
all-later blocks column later order before k d lt = before_later (get_or blocks k d) column later order (before k d lt)

-- the blocks of a row that has no cell from a column on end before the block of the column, unless the last one is that
pub blocks-end : (blocks : List Block) (column : ℕ) → AreRowBlocks blocks → AreBlocksBefore column blocks
    → ((d : Block) → 0 < length blocks → ¬ ((get_or blocks (length blocks - 1) d).start ≡ column / 64)) → All (λ b. b.end ≤ column / 64) blocks
blocks-end blocks column are before other k d lt =
    let n = length blocks - 1 in
    let last = get_or blocks n d in
    let within : n < length blocks = omega (arith, lt) in
    let end : last.end ≤ column / 64 = over last (before n d within) (other d (omega (arith, lt))) in
    elim (cases_lt k n) [
      | inl earlier ↦
          (let order = are.rise k n d earlier within in
          let some = (are.each n d within).some in
          omega (arith, order, some, end))
      | inr late ↦ (let same : k ≡ n = omega (arith, late, lt) in subst (λ z. (get_or blocks z d).end ≤ column / 64) (sym same) end)
    ]
  where
    over : (b : Block) → IsBlockBefore column b → ¬ (b.start ≡ column / 64) → b.end ≤ column / 64
    over b (inl h) not_there = omega (arith, h)
    over b (inr h) not_there = absurd (not_there h.1)

-- all end before a column that is the first of a block
pub blocks-end_at : (blocks : List Block) (n : ℕ) → AreBlocksBefore (64 * n) blocks → All (λ b. b.end ≤ n) blocks
blocks-end_at blocks n before k d lt = over (get_or blocks k d) (before k d lt)
  where
    over : (b : Block) → IsBlockBefore (64 * n) b → b.end ≤ n
    over b (inl h) = omega (arith, h)
    over b (inr h) = absurd (let some = h.0 in omega (arith, some))

-- nor is any cell of a block
cell-none : (b : Block) (column c : ℕ) → IsBlockBefore column b → b.start ≤ c / 64 → c / 64 < b.end → column ≤ c → cell_in_word b.cells (c % 64) ≡ 0
cell-none b column c (inl over) from within order = absurd (omega (arith, over, within, order))
cell-none b column c (inr (some, start, end, none)) from within order =
    let k = 63 - c % 64 in
    let p = 64 - column % 64 in
    let low : k < p = omega (arith, start, end, from, within, order) in
    let parts : b.cells / 2 ^ p * 2 ^ p + 0 ≡ b.cells = ap (λ z. b.cells / 2 ^ p * 2 ^ p + z) (sym none) ∙ shr_split b.cells p in
    ap (λ z. bit_at z k) (sym parts) ∙ bit_at_cat_low (b.cells / 2 ^ p) p 0 k low ∙ bit_at-zero k

-- a cell of a block comes before such a column
pub cell-before : (b : Block) (column c : ℕ) → IsBlockBefore column b → b.start ≤ c / 64 → c / 64 < b.end → cell_in_word b.cells (c % 64) ≡ 1 → c < column
cell-before b column c before from within some = elim (cases_lt c column) [
  | inl lt ↦ lt
  | inr late ↦ absurd (let none = cell-none b column c before from within late in omega (arith, none, some))
]

-- nor is any cell there
pub no-cell-from : (blocks : List Block) (column c : ℕ) → AreBlocksBefore column blocks → column ≤ c → cell_in_blocks blocks c ≡ 0
no-cell-from [] column c before order = bit_at-zero (63 - c % 64)
no-cell-from (b ∷ rest) column c before order = elim (cases_lt (c / 64) b.end) [
  | inr over ↦ ap (λ z. cell_in_word z (c % 64)) (block-after b rest (c / 64) over)
      ∙ no-cell-from rest column c (All-tail (IsBlockBefore column) b rest before) order
  | inl within ↦ elim (cases_lt (c / 64) b.start) [
    | inl early ↦ ap (λ z. cell_in_word z (c % 64)) (block-before b rest (c / 64) early within) ∙ bit_at-zero (63 - c % 64)
    | inr from ↦ ap (λ z. cell_in_word z (c % 64)) (block-in b rest (c / 64) from within)
        ∙ cell-none b column c (before 0 b (omega arith)) from within order
  ]
]

-- ---- more cells in a word

-- the bits of so many columns from one of them on
pub bits-shifted : (from count : ℕ) → from + count ≤ 64 → (2 ^ 64 - 1) * 2 ^ (64 - count) % 2 ^ 64 / 2 ^ from ≡ 2 ^ (64 - from) - 2 ^ (64 - (from + count))
bits-shifted from count within =
    let p = 64 - from in
    let q = 64 - (from + count) in
    let wide : 2 ^ 64 ≡ 2 ^ p * 2 ^ from = (let places : 64 ≡ p + from = omega (arith, within) in ap (λ k. 2 ^ k) places ∙ pow-add 2 p from) in
    let low : 2 ^ (64 - count) ≡ 2 ^ q * 2 ^ from = (let places : 64 - count ≡ q + from = omega (arith, within) in ap (λ k. 2 ^ k) places ∙ pow-add 2 q from) in
    let less = pow_mono {i = q} {j = p} (omega arith) in
    let d = 2 ^ p - 2 ^ q in
    let sum : 2 ^ p ≡ d + 2 ^ q = omega (arith, less) in
    let product : 2 ^ p * 2 ^ from ≡ (d + 2 ^ q) * 2 ^ from = ap (λ z. z * 2 ^ from) sum in
    let difference : 2 ^ 64 - 2 ^ (64 - count) ≡ d * 2 ^ from = omega (arith, wide, low, product) in
    ap (λ z. z / 2 ^ from) (ones_shl 64 (64 - count) (omega arith) ∙ difference) ∙ shl-shr d from

-- such bits put into a word that has none from there on
module _ (w from count : ℕ) (within : from + count ≤ 64) (none : w % 2 ^ (64 - from) ≡ 0) where
  abbrev high : ℕ
  high = w / 2 ^ (64 - from)

  abbrev bits : ℕ
  bits = 2 ^ (64 - from) - 2 ^ (64 - (from + count))

  split : high * 2 ^ (64 - from) + 0 ≡ w
  split = ap (λ z. high * 2 ^ (64 - from) + z) (sym none) ∙ shr_split w (64 - from)

  sum : high * 2 ^ (64 - from) + bits ≡ w + bits
  sum = omega (arith, split)

  few : bits < 2 ^ (64 - from)
  few = let some = pow_pos (64 - (from + count)) in let more = pow_pos (64 - from) in omega (arith, some, more)

  -- they are there
  word-inside : (c : ℕ) → from ≤ c → c < from + count → cell_in_word (w + bits) c ≡ 1
  word-inside c le lt =
      ap (λ z. cell_in_word z c) (sym sum) ∙ bit_at_cat_low high (64 - from) bits (63 - c) (omega (arith, le, lt, within))
      ∙ bit_at_mask_inside (64 - (from + count)) (64 - from) (63 - c) (omega (arith, lt, within)) (omega (arith, le, lt, within))

  -- and nothing else changes
  word-outside : (c : ℕ) → c < 64 → ¬ ((from ≤ c) × (c < from + count)) → cell_in_word (w + bits) c ≡ cell_in_word w c
  word-outside c small out = elim (cases_lt c from) [
    | inl west ↦
        (let up : 64 - from ≤ 63 - c = omega (arith, west, within) in
        ap (λ z. cell_in_word z c) (sym sum) ∙ bit_at_cat_high high (64 - from) bits (63 - c) few up
        ∙ sym (ap (λ z. cell_in_word z c) (sym split) ∙ bit_at_cat_high high (64 - from) 0 (63 - c) (pow_pos (64 - from)) up))
    | inr le ↦ elim (cases_lt c (from + count)) [
      | inl lt ↦ absurd (out (le, lt))
      | inr east ↦
          (let low : 63 - c < 64 - from = omega (arith, le, small) in
          ap (λ z. cell_in_word z c) (sym sum) ∙ bit_at_cat_low high (64 - from) bits (63 - c) low
          ∙ bit_at_mask_below (64 - (from + count)) (64 - from) (63 - c) (omega (arith, east, small))
          ∙ sym (ap (λ z. cell_in_word z c) (sym split) ∙ bit_at_cat_low high (64 - from) 0 (63 - c) low ∙ bit_at-zero (63 - c)))
    ]
  ]

  -- none is after them
  word-left : (w + bits) % 2 ^ (64 - (from + count)) ≡ 0
  word-left =
      let q = 64 - (from + count) in
      let places : 64 - from ≡ count + q = omega (arith, within) in
      let wide : 2 ^ (64 - from) ≡ 2 ^ count * 2 ^ q = ap (λ k. 2 ^ k) places ∙ pow-add 2 count q in
      let some = pow_pos count in
      let d = 2 ^ count - 1 in
      let one : 2 ^ count ≡ d + 1 = omega (arith, some) in
      let product : 2 ^ count * 2 ^ q ≡ (d + 1) * 2 ^ q = ap (λ z. z * 2 ^ q) one in
      let rest : bits ≡ d * 2 ^ q = omega (arith, wide, product) in
      let first : high * 2 ^ (64 - from) ≡ high * 2 ^ count * 2 ^ q = ap (λ z. high * z) wide ∙ omega arith in
      let whole : w + bits ≡ (high * 2 ^ count + d) * 2 ^ q + 0 = sym sum ∙ omega (arith, rest, first) in
      ap (λ z. z % 2 ^ q) whole ∙ mod_low (high * 2 ^ count + d) q 0 (pow_pos q)

  -- the sum is a word
  word-fits : w < 2 ^ 64 → w + bits < 2 ^ 64
  word-fits small =
      let p = 64 - from in
      let places : 64 ≡ from + p = omega (arith, within) in
      let wide : 2 ^ 64 ≡ 2 ^ from * 2 ^ p = ap (λ k. 2 ^ k) places ∙ pow-add 2 from p in
      let less : high < 2 ^ from = shr_below w from p (subst (λ k. w < 2 ^ k) places small) in
      let more : suc high * 2 ^ p ≤ 2 ^ from * 2 ^ p = mul-le (suc high) (2 ^ p) (2 ^ from) (2 ^ p) less (omega arith) in
      let next : suc high * 2 ^ p ≡ high * 2 ^ p + 2 ^ p = omega arith in
      omega (arith, wide, more, next, split, few)

-- ---- cells are added

-- nothing is added
pub adds-none : (blocks : List Block) (column : ℕ) → AreRowBlocks blocks → AreBlocksBefore column blocks → AddsCells blocks blocks column column
adds-none blocks column are before = record {
  blocks = are;
  before = before;
  inside = λ c le lt. absurd (omega (arith, le, lt));
  others = λ c out. refl;
}

-- The cells of the last block, which has the columns. All other blocks are those that were there.
record IsLast (old prefix : List Block) (b : Block) (word : ℕ) : Type 0 where
  before : (n : ℕ) → n < b.start → cells_at_block old n ≡ cells_at_block prefix n
  there : (n : ℕ) → b.start ≤ n → n < b.end → cells_at_block old n ≡ word
  after : (n : ℕ) → b.end ≤ n → cells_at_block old n ≡ 0

module _ (old prefix : List Block) (b : Block) (word start end : ℕ) (last : IsLast old prefix b word) (block : IsRowBlock b)
    (each : All IsRowBlock prefix) (rise : AllPairs (λ x y. x.end ≤ y.start) prefix) (others : All (λ a. a.end ≤ b.start) prefix)
    (left : IsBlockBefore end b) (from : 64 * b.start ≤ start) (order : start ≤ end) (within : end ≤ 64 * b.end)
    (inside : (c : ℕ) → start ≤ c → c < end → cell_in_word b.cells (c % 64) ≡ 1)
    (same : (c : ℕ) → c / 64 < b.end → ¬ ((start ≤ c) × (c < end)) → b.start ≤ c / 64 → cell_in_word b.cells (c % 64) ≡ cell_in_word word (c % 64)) where
  adds-last : AddsCells old (prefix ++ b ∷ []) start end
  adds-last = record {
    blocks = record { each = All-push IsRowBlock prefix b each block; rise = all_pairs_push (λ x y. x.end ≤ y.start) prefix b rise others };
    before = All-push (IsBlockBefore end) prefix b (λ k d lt. inl (let end = others k d lt in omega (arith, end, from, order))) left;
    inside = λ c le lt.
        ap (λ z. cell_in_word z (c % 64)) (last-in prefix b others block.some (c / 64) (omega (arith, from, le)) (omega (arith, within, lt))) ∙ inside c le lt;
    others = λ c out. elim (cases_lt (c / 64) b.start) [
      | inl west ↦ ap (λ z. cell_in_word z (c % 64)) (last-before prefix b others block.some (c / 64) west ∙ sym (last.before (c / 64) west))
      | inr le ↦ elim (cases_lt (c / 64) b.end) [
        | inl lt ↦ ap (λ z. cell_in_word z (c % 64)) (last-in prefix b others block.some (c / 64) le lt) ∙ same c lt out le
            ∙ ap (λ z. cell_in_word z (c % 64)) (sym (last.there (c / 64) le lt))
        | inr east ↦ ap (λ z. cell_in_word z (c % 64)) (last-after prefix b others block.some (c / 64) east ∙ sym (last.after (c / 64) east))
      ]
    ];
  }

-- a new block of cells
pub adds-whole : (blocks : List Block) (b : Block) → AreRowBlocks blocks → AreBlocksBefore (64 * b.start) blocks → b.start < b.end
    → b.end ≤ 2 ^ (MAX_LEVEL - 6) → b.cells ≡ 2 ^ 64 - 1 → AddsCells blocks (blocks ++ b ∷ []) (64 * b.start) (64 * b.end)
adds-whole blocks b are before some within cells =
    let others = blocks-end_at blocks b.start before in
    adds-last blocks blocks b 0 (64 * b.start) (64 * b.end) (record {
      before = λ n lt. refl;
      there = λ n le lt. blocks-over blocks n (ends-later blocks b.start n others le);
      after = λ n le. blocks-over blocks n (ends-later blocks b.start n others (omega (arith, le, some)));
    }) (record { some = some; within = within; long = λ long. cells }) are.each are.rise others (inl (omega arith)) (omega arith) (omega (arith, some))
    (omega arith)
    (λ c le lt. ap (λ z. cell_in_word z (c % 64)) cells ∙ bit_at_ones 64 (63 - c % 64) (omega arith))
    (λ c lt out le. absurd (out (omega (arith, le), omega (arith, lt))))

-- the bits of the columns from a start to an end in one block
abbrev pub bits_between : ℕ → ℕ → ℕ
bits_between start end = 2 ^ (64 - start % 64) - 2 ^ (64 - (start % 64 + (end - start)))

-- a row with no cell from a column on, where columns of one block from there on get cells
module _ (blocks : List Block) (start end : ℕ) (are : AreRowBlocks blocks) (before : AreBlocksBefore start blocks) (some : start < end)
    (one : start % 64 + (end - start) ≤ 64) (within : end ≤ 2 ^ MAX_LEVEL) where
  -- the block gets those bits, where the word there has none from the start on
  module _ (b : Block) (from : b.start ≡ start / 64) (to : b.end ≡ suc (start / 64)) (word : ℕ) (none : word % 2 ^ (64 - start % 64) ≡ 0)
      (cells : b.cells ≡ word + bits_between start end) where
    one-before : IsBlockBefore end b
    one-before = elim (cases_lt end (64 * b.end)) [
      | inl inner ↦
          (let last : end % 64 ≡ start % 64 + (end - start) = omega (arith, some, one, inner, to) in
          inr (
            omega (arith, last, some),
            omega (arith, from, some, inner, to),
            omega (arith, some, inner, to),
            ap (λ z. z % 2 ^ (64 - end % 64)) cells
                ∙ ap (λ z. (word + bits_between start end) % 2 ^ (64 - z)) last
                ∙ word-left word (start % 64) (end - start) one none,
          ))
      | inr over ↦ inl over
    ]

    one-adds : (old prefix : List Block) → IsLast old prefix b word → All IsRowBlock prefix → AllPairs (λ x y. x.end ≤ y.start) prefix
        → All (λ a. a.end ≤ b.start) prefix → AddsCells old (prefix ++ b ∷ []) start end
    one-adds old prefix last each rise others =
        adds-last old prefix b word start end last
        (record { some = omega (arith, from, to); within = omega (arith, some, within, to); long = λ long. absurd (omega (arith, long, from, to)) })
        each rise others one-before (omega (arith, from)) (omega (arith, some)) (omega (arith, to, one, some))
        (λ c le lt. ap (λ z. cell_in_word z (c % 64)) cells
        ∙ word-inside word (start % 64) (end - start) one none (c % 64) (omega (arith, le, lt, one)) (omega (arith, le, lt, one)))
        (λ c lt out le. ap (λ z. cell_in_word z (c % 64)) cells
        ∙ word-outside word (start % 64) (end - start) one none (c % 64) (omega arith)
        (λ in_it. let low = in_it.0 in let high = in_it.1 in
        out (omega (arith, from, to, lt, le, low), omega (arith, from, to, lt, le, high, some))))

  -- it is a new block
  pub adds-new : (b : Block) → b.start ≡ start / 64 → b.end ≡ suc (start / 64) → b.cells ≡ bits_between start end
      → ((d : Block) → 0 < length blocks → ¬ ((get_or blocks (length blocks - 1) d).start ≡ start / 64)) → AddsCells blocks (blocks ++ b ∷ []) start end
  adds-new b from to cells other =
      let ends = blocks-end blocks start are before other in
      let others = ends-later blocks (start / 64) b.start ends (omega (arith, from)) in
      one-adds b from to 0 (omega arith) (cells ∙ omega arith) blocks blocks (record {
        before = λ n lt. refl;
        there = λ n le lt. blocks-over blocks n (ends-later blocks b.start n others le);
        after = λ n le. blocks-over blocks n (ends-later blocks b.start n others (omega (arith, le, from, to)));
      }) are.each are.rise others

  -- or the last one
  module _ (n : ℕ) (a : Block) (len : n + 1 ≡ length blocks) (at : a ≡ get_or blocks n a) (begins : a.start ≡ start / 64) where
    index : n < length blocks
    index = omega (arith, len)

    is : IsRowBlock a
    is = subst IsRowBlock (sym at) (are.each n a index)

    -- it has one block's columns, and no cell from the start on
    last-one : (a.end ≡ suc (start / 64)) × (a.cells % 2 ^ (64 - start % 64) ≡ 0)
    last-one = by (subst (IsBlockBefore start) (sym at) (before n a index))
      where
        by : IsBlockBefore start a → (a.end ≡ suc (start / 64)) × (a.cells % 2 ^ (64 - start % 64) ≡ 0)
        by (inl over) = absurd (let more = is.some in omega (arith, more, begins, over))
        by (inr (there, first, end, none)) = (end, none)

    pub adds-more : (b : Block) → b.start ≡ a.start → b.end ≡ a.end → b.cells ≡ a.cells + bits_between start end
        → AddsCells blocks (set blocks n b) start end
    adds-more b from to cells =
        let prefix = take n blocks in
        let old : blocks ≡ prefix ++ a ∷ [] = sym (take_all (n + 1) blocks (omega (arith, len))) ∙ take_more blocks n a index
        ∙ ap (λ z. prefix ++ z ∷ []) (sym at) in
        let new : set blocks n b ≡ prefix ++ b ∷ [] = set_split blocks n b index
        ∙ ap (λ z. prefix ++ b ∷ z) (drop_all (suc n) blocks (omega (arith, len))) in
        let apart : All (λ z. z.end ≤ a.start) prefix = subst (λ y. All (λ z. z.end ≤ y.start) prefix) (sym at) (blocks-apart blocks are n a index) in
        let others = ends-later prefix a.start b.start apart (omega (arith, from)) in
        subst (λ z. AddsCells blocks z start end) (sym new) (subst (λ z. AddsCells z (prefix ++ b ∷ []) start end) (sym old)
        (one-adds b (from ∙ begins) (to ∙ last-one.0) a.cells last-one.1 cells (prefix ++ a ∷ []) prefix (record {
          before = λ m lt. last-before prefix a apart is.some m (omega (arith, lt, from));
          there = λ m le lt. last-in prefix a apart is.some m (omega (arith, le, from)) (omega (arith, lt, to));
          after = λ m le. last-after prefix a apart is.some m (omega (arith, le, to));
        }) (All-take IsRowBlock n blocks are.each) (pairs-take (λ x y. x.end ≤ y.start) blocks n are.rise) others))

    -- and the sum is a word
    pub adds-fits : a.cells < 2 ^ 64 → a.cells + bits_between start end < 2 ^ 64
    adds-fits small = word-fits a.cells (start % 64) (end - start) one last-one.1 small

-- ---- blocks as spans

-- the spans of the blocks before an index
abbrev pub AreSpansTo : List Block → (Id → Type 0) → (Id → Tree) → List Span → ℕ → Type 0
AreSpansTo blocks knows content spans index =
    FilledTo knows content 0 (λ c. point (cell_in_blocks blocks c)) spans (64 * (get_or blocks index no_block).start)

module _ (blocks : List Block) (are : AreRowBlocks blocks) where
  -- a block ends before the next one begins, if there is one, and within the plane
  pub blocks-next : (index : ℕ) (d : Block) → index < length blocks → (get_or blocks index d).end ≤ (get_or blocks (index + 1) no_block).start
  blocks-next index d within = elim (cases_lt (index + 1) (length blocks)) [
    | inl more ↦
        (let same = ap (λ b. b.end) (get_or_default blocks index d no_block within) in
        let order = are.rise index (index + 1) no_block (omega arith) more in
        omega (arith, same, order))
    | inr last ↦
        (let over = ap (λ b. b.start) (get_or_past blocks (index + 1) no_block last) in
        let inside = (are.each index d within).within in
        omega (arith, over, inside))
  ]

  module _ (knows : Id → Type 0) (content : Id → Tree) where
    -- no span before it
    pub spans-skip : (spans : List Span) (column index : ℕ) → FilledTo knows content 0 (λ c. point (cell_in_blocks blocks c)) spans column
        → column ≤ 64 * (get_or blocks index no_block).start → ((c : ℕ) → column ≤ c → All (λ b. b.end ≤ c / 64) (take index blocks))
        → AreSpansTo blocks knows content spans index
    spans-skip spans column index filled order over =
        filled-skip knows content 0 (λ c. point (cell_in_blocks blocks c)) spans column (64 * (get_or blocks index no_block).start) filled order
        (λ c from before. ap (λ z. point (cell_in_word z (c % 64))) (blocks-gap blocks are index (c / 64) (over c from) (omega (arith, before)))
        ∙ ap point (bit_at-zero (63 - c % 64)))

    -- the cells of one block after the other
    pub spans-more : (spans : List Span) (index : ℕ) (d : Block) → index < length blocks
        → FilledTo knows content 0 (λ c. point (cell_in_blocks blocks c)) spans (64 * (get_or blocks index d).end)
        → AreSpansTo blocks knows content spans (index + 1)
    spans-more spans index d within filled =
        let next = blocks-next index d within in
        spans-skip spans (64 * (get_or blocks index d).end) (index + 1) filled (omega (arith, next))
        (λ c from. blocks-done blocks are index d within (c / 64) (omega (arith, from)))

    -- the row is over
    module _ (spans : List Span) (index : ℕ) (over : length blocks ≤ index) (filled : AreSpansTo blocks knows content spans index) where
      spans-end : FilledTo knows content 0 (λ c. point (cell_in_blocks blocks c)) spans (2 ^ MAX_LEVEL)
      spans-end = subst (FilledTo knows content 0 (λ c. point (cell_in_blocks blocks c)) spans)
          (ap (λ b. 64 * b.start) (get_or_past blocks index no_block over)) filled

      pub spans-cells : (c : ℕ) → square_at content 0 spans c ≡ point (cell_in_blocks blocks c)
      spans-cells c = elim (cases_lt c (2 ^ MAX_LEVEL)) [
        | inl within ↦ spans-end.done c within
        | inr beyond ↦ ap (square_or_blank content 0) (none_beyond spans (2 ^ MAX_LEVEL) c spans-end.before beyond)
            ∙ sym (ap (λ z. point (cell_in_word z (c % 64)))
            (blocks-over blocks (c / 64) (λ k d lt. let end = (are.each k d lt).within in omega (arith, end, beyond)))
            ∙ ap point (bit_at-zero (63 - c % 64)))
      ]
