-- The squares that are stored while a file is read: those of its node lines, or of the plane that its runs fill, those through which its root is
-- grown, and that to which it is trimmed. After `Full` the store lacks one of them. The project's own.
use Rattle.std.specs.Prelude.{◌≡◌, ℕ, zero, suc, ◌+◌, ◌-◌, ◌<◌, ◌≤◌, true, false, max, if◌then◌else◌, List, [], ◌∷◌, ◌++◌}
use Rattle.life_base.specs.Lines.{whole_lines}
use Rattle.life_base.specs.Refusal.{Prefix}
use Rattle.life_base.specs.Text.{lines_of}
use Rattle.life_base.specs.Tree.{Tree, quad, depth}
use Rattle.life_base.specs.declared.cell.Run.{Run}
use Rattle.life_mc.specs.Cells.{root_level}
use Rattle.life_mc.specs.Reading.{AcceptsMacrocell, squares_of}
use Rattle.life_mc.specs.Squares.{tree_of, leaf_tree}
use Rattle.life_mc.specs.declared.line.Line.{Line}
use Rattle.life_mc.specs.declared.line.Line.TheVariants.{Leaf, Quad}
use Rattle.life_quad.specs.Moves.{grown_square}
use Rattle.life_quad.specs.Refused.{SomePart}
use Rattle.life_quad.specs.Store.{Nodes}
use Rattle.life_rle.specs.File.{HasRuns}
use Rattle.life_strip.specs.Middle.{SomeAboutMiddle}
pub use Rattle.life_strip.specs.Needed.{SomeOfRuns}
use Rattle.life_pattern.specs.Files.{Says, is_macrocell}
use Rattle.life_pattern.specs.Universe.{Universe, least_level, centred_square, whole}
use Rattle.life_pattern.specs.Store.{IsNew}

-- a square of a node line after these has a property: the square of the line, or a part of a leaf
abbrev pub SomeOfLine : (Tree → Type 0) → List Line → Line → Type 0
SomeOfLine P lines (Leaf rows) = SomePart P (leaf_tree rows)
SomeOfLine P lines (Quad level nw ne sw se) =
    P (quad (tree_of lines (level - 1) nw) (tree_of lines (level - 1) ne) (tree_of lines (level - 1) sw) (tree_of lines (level - 1) se))

-- a square of a prefix of a file has a property: of a node line, or of the runs so far
pub data SomeOfLines (top : ℕ) (P : Tree → Type 0) (lines : List (List ℕ)) : Type 0 where
  of_node_line : (before : List (List ℕ)) (line : List ℕ) (behind : List (List ℕ)) (square : Line) → lines ≡ before ++ line ∷ behind
      → Prefix (AcceptsMacrocell top) (before ++ line ∷ []) → squares_of (before ++ line ∷ []) ≡ squares_of before ++ square ∷ []
      → SomeOfLine P (squares_of before) square → SomeOfLines top P lines
  of_runs : (prefix behind : List (List ℕ)) (runs : List Run) → lines ≡ prefix ++ behind → HasRuns top prefix runs → SomeOfRuns P runs
      → SomeOfLines top P lines

-- a square of the node lines of a macrocell file has a property
abbrev pub SomeOfMacrocell : ℕ → (Tree → Type 0) → List (List ℕ) → Type 0
SomeOfMacrocell top P lines = (is_macrocell lines ≡ true) × SomeOfLines top P lines

-- the square, grown as often as this
abbrev pub grown_times : ℕ → Tree → Tree
grown_times zero t = t
grown_times (suc n) t = grown_times n (grown_square t)

-- a square that is grown from this one, of this level at most, or a part of it, has a property
pub record SomeGrown (P : Tree → Type 0) (t : Tree) (level : ℕ) : Type 0 where
  pub more : ℕ
  pub low : depth t + suc more ≤ level
  pub part : SomePart P (grown_times (suc more) t)

-- A square has a property, and has to be made for the root of a pattern whose lines give a root of level n: trimmed, the root of the canonical file,
-- of a lower level; grown, the square about (0, 0) of a higher level, up to the least one, or a part of it.
pub data SomeRoot (top : ℕ) (P : Tree → Type 0) (u : Universe) (n : ℕ) : Type 0 where
  trimmed_root : depth (whole top u) < n → P (whole top u) → SomeRoot top P u n
  grown_root : (level : ℕ) → n < level → level ≤ least_level u.rule → SomePart P (centred_square u.cell level) → SomeRoot top P u n

-- the level of the root that lines give: that of the last node line, 1 where there is none, or that of the whole plane under RLE
abbrev pub level_of_root : ℕ → List (List ℕ) → ℕ
level_of_root top lines = if is_macrocell lines then max 1 (root_level (squares_of lines)) else top

-- a square at the end of a file has a property: under RLE of the square about (0, 0) into which the cells are put, or of the root
pub data SomeAtEnd (top : ℕ) (P : Tree → Type 0) (lines : List (List ℕ)) : Type 0 where
  of_plane : (u : Universe) → Says top lines u → is_macrocell lines ≡ false → SomeAboutMiddle P u.cell → SomeAtEnd top P lines
  of_root : (u : Universe) → Says top lines u → SomeRoot top P u (level_of_root top lines) → SomeAtEnd top P lines

-- a square of a file has a property
pub data SomeOfFile (top : ℕ) (P : Tree → Type 0) (lines : List (List ℕ)) : Type 0 where
  of_lines : SomeOfLines top P lines → SomeOfFile top P lines
  at_end : SomeAtEnd top P lines → SomeOfFile top P lines

-- the store lacks a square of the lines that have ended
abbrev pub LacksForPrefix : ℕ → List ℕ → Nodes → Type 0
LacksForPrefix top bytes store = SomeOfLines top (IsNew store) (whole_lines bytes)

-- the store lacks a square of the file
abbrev pub LacksFor : ℕ → List ℕ → Nodes → Type 0
LacksFor top bytes store = SomeOfFile top (IsNew store) (lines_of bytes)
