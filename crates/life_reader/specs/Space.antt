-- How many squares are stored while a file is read: at most 14 for each byte of it, and 264. The project's own.
use Rattle.std.specs.Prelude.{◌≡◌, ◌≢◌, ◌⊎◌, ℕ, ◌+◌, ◌*◌, ◌<◌, ◌≤◌, false, List, ◌++◌, length, Contains, AllPairs}
use Rattle.life_base.specs.Lines.{whole_lines}
use Rattle.life_base.specs.Text.{lines_of}
use Rattle.life_base.specs.Tree.{Tree, is_blank_tree}
use Rattle.life_base.specs.declared.cell.TheConstants.{MAX_LEVEL}
use Rattle.life_quad.specs.Keeping.{AddsOnly}
use Rattle.life_quad.specs.Store.{Nodes, stored_squares}
use Rattle.life_reader.specs.Needs.{SomeOfLines, SomeOfFile, LacksFor}

-- How many squares a file of so many bytes needs at most: 14 for each byte and for the line feed that may be missing at the end, four for each of
-- the levels 1 to 62, and a trimmed root for each of the two least levels.
abbrev pub sufficient_for : ℕ → ℕ
sufficient_for n = 14 * n + 264

-- the square is one of those that are stored while the file is read
abbrev pub IsSquareOfFile : List ℕ → Tree → Type 0
IsSquareOfFile bytes t = SomeOfFile MAX_LEVEL (λ u. u ≡ t) (lines_of bytes)

-- The list has every square of the file that isn't blank: the same set that a call adds at most, so all squares of node lines, or under RLE all squares
-- of level 1 or more of the square about (0, 0) into which the cells are put, those through which the root is grown, and the trimmed root.
abbrev pub HoldsFile : List ℕ → List Tree → Type 0
HoldsFile bytes squares = (t : Tree) → is_blank_tree t ≡ false → IsSquareOfFile bytes t → Contains squares t

-- a file needs few squares: all that it needs and that aren't blank are in a list of so many
abbrev pub FewSquares : Type 0
FewSquares = (bytes : List ℕ) → (squares : List Tree) × (length squares ≤ sufficient_for (length bytes)) × HoldsFile bytes squares

-- the store holds no squares but those of the list and of the file
abbrev pub HoldsOnly : List Tree → List ℕ → Nodes → Type 0
HoldsOnly base bytes store = (t : Tree) → Contains (stored_squares store) t → Contains base t ⊎ IsSquareOfFile bytes t

-- the same of the lines of a prefix that have ended
abbrev pub HoldsPrefix : List Tree → List ℕ → Nodes → Type 0
HoldsPrefix base bytes store =
    (t : Tree) → Contains (stored_squares store) t → Contains base t ⊎ SomeOfLines MAX_LEVEL (λ u. u ≡ t) (whole_lines bytes)

-- a call stores no square but such as these lines need
abbrev pub AddsLines : List (List ℕ) → Nodes → Nodes → Type 0
AddsLines lines old new = AddsOnly stored_squares (λ P. SomeOfLines MAX_LEVEL P lines) old new

-- a call stores no square but such as the file needs
abbrev pub AddsFile : List ℕ → Nodes → Nodes → Type 0
AddsFile bytes old new = AddsOnly stored_squares (λ P. SomeOfFile MAX_LEVEL P (lines_of bytes)) old new

-- While a file comes in pieces, the store holds only squares of the list and of the lines that have ended, if it did so before the piece and gets no
-- squares but such as they need. They are squares of the file, should it end there.
abbrev pub PrefixesHold : Type 0
PrefixesHold =
    (bytes more : List ℕ) (base : List Tree) (old new : Nodes) → HoldsPrefix base bytes old
    → (AddsLines (whole_lines (bytes ++ more)) old new → HoldsPrefix base (bytes ++ more) new) × HoldsOnly base bytes old

-- A store that lacks a square of a file, and holds only squares of a list and squares of the file, each once and none blank, holds fewer than the
-- list has and the squares for the file.
abbrev pub LimitSuffices : Type 0
LimitSuffices =
    (bytes : List ℕ) (base : List Tree) (store : Nodes) → AllPairs ◌≢◌ (stored_squares store)
    → ((t : Tree) → Contains (stored_squares store) t → is_blank_tree t ≡ false)
    → HoldsOnly base bytes store → LacksFor MAX_LEVEL bytes store → length (stored_squares store) < length base + sufficient_for (length bytes)
