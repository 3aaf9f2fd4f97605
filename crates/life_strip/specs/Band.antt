-- Four rows of cells of the states 0 and 1, one below the other, 64 columns at a time.
use Rattle.std.specs.Prelude.{◌≡◌, ℕ, suc, ◌+◌, ◌-◌, ◌*◌, ◌/◌, ◌%◌, ◌^◌, ◌<◌, ◌≤◌, nat_le, if◌then◌else◌, List, ◌∷◌, length, get_or, drop}
use Rattle.life_strip.specs.declared.blocks.Block.{Block}
use Rattle.life_strip.specs.declared.spans.TheConstants.{NEVER}
use Rattle.life_strip.specs.declared.words.BlockPlace.{BlockPlace}
use Rattle.life_strip.specs.declared.words.TwoWords.{TwoWords}
use Rattle.life_base.specs.Tree.{Tree, point, quad}
use Rattle.life_strip.specs.Blocks.{cell_in_word, cells_at_block, IsRowBlock}

-- the square of level 1 of two columns of two words
abbrev pub two_of : TwoWords → ℕ → Tree
two_of rows column =
    quad (point (cell_in_word rows.north column)) (point (cell_in_word rows.north (column + 1)))
    (point (cell_in_word rows.south column)) (point (cell_in_word rows.south (column + 1)))

-- the square of level 2 of four columns of four words, by its place from the west
abbrev pub square_of_words : TwoWords → TwoWords → ℕ → Tree
square_of_words upper lower square =
    quad (two_of upper (4 * square)) (two_of upper (4 * square + 2)) (two_of lower (4 * square)) (two_of lower (4 * square + 2))

-- the cells of one of four squares of level 2, whose cells come one after the other
abbrev pub cells_among_four : ℕ → ℕ → ℕ
cells_among_four squares square = squares / 2 ^ (48 - 16 * square) % 2 ^ 16

-- From a block of 64 columns on, the cells of a row are those of its blocks from an index on, and none of these begins before it.
pub record IsPastBlocks (blocks : List Block) (index number : ℕ) : Type 0 where
  pub cells : (n : ℕ) → number ≤ n → cells_at_block blocks n ≡ cells_at_block (drop index blocks) n
  pub from : (b : Block) → index < length blocks → number ≤ (get_or blocks index b).start

-- the block that is at a place or comes next, without its columns before the place
abbrev pub block_in : BlockPlace → Block
block_in place = record { start = place.start; end = place.end; cells = place.cells }

-- Seen from a block of 64 columns, where a row stands: from there on its cells are those of the block that is there or comes next, and of the
-- blocks after that. Where no block is left, the place begins and ends beyond every block.
pub record IsAtBlock (blocks : List Block) (number : ℕ) (place : BlockPlace) : Type 0 where
  pub cells : (n : ℕ) → number ≤ n → cells_at_block blocks n ≡ cells_at_block (block_in place ∷ drop (suc place.index) blocks) n
  pub from : number ≤ place.start
  pub order : place.start ≤ place.end
  pub some : place.start < NEVER → IsRowBlock (block_in place)
  pub left : place.start < NEVER → place.index < length blocks
  pub last : (b : Block) → place.index < length blocks → place.end ≡ (get_or blocks place.index b).end
  pub over : NEVER ≤ place.start → NEVER ≤ place.end

-- the word of a row at a block before the end of its place
abbrev pub word_in : BlockPlace → ℕ → ℕ
word_in place number = if nat_le place.start number then place.cells else 0

-- the block up to which it goes on
abbrev pub block_goes_to : BlockPlace → ℕ → ℕ
block_goes_to place number = if nat_le place.start number then place.end else place.start

-- the least of four numbers
pub record IsLeastOfFour (n a b c d : ℕ) : Type 0 where
  pub first : n ≤ a
  pub second : n ≤ b
  pub third : n ≤ c
  pub fourth : n ≤ d
  pub greatest : (m : ℕ) → m ≤ a → m ≤ b → m ≤ c → m ≤ d → m ≤ n
