-- The canonical file has the fewest node lines.
use Rattle.std.specs.Prelude.{◌≡◌, ℕ, ◌≤◌, ◌⊎◌, true, List, Some, slice_get}
use Rattle.life_base.specs.Tree.{Tree, depth}
use Rattle.life_mc.specs.Macrocell.{Macrocell, level_of, item_of_number}
use Rattle.life_mc.specs.Cells.{node_lines}
use Rattle.life_mc.specs.Reading.{IsMacrocell}
use Rattle.life_mc.specs.Squares.{tree_of}
use Rattle.life_mc.specs.declared.line.Line.{Line}
use Rattle.life_mc.specs.declared.line.Line.TheVariants.{Leaf}
use Rattle.life_pattern.specs.Universe.{Universe, IsSame, is_life, least_level, whole, macrocell_universe}
use Rattle.life_pattern.specs.Files.{Reads}
use Rattle.life_writer.specs.Listing.{listed_squares, is_in}

-- no node line is a leaf
abbrev pub HasNoLeaves : Macrocell → Type 0
HasNoLeaves file = (index : ℕ) (rows : List ℕ) → ¬ (slice_get file.lines index ≡ Some (Leaf rows))

-- the files to which a canonical one is compared: under a name those without leaf lines, which could stand for many lines of a canonical file
abbrev pub IsRival : Macrocell → Type 0
IsRival file = (is_life file.rule ≡ true) ⊎ HasNoLeaves file

-- no macrocell file of this pattern, of those to which a canonical one is compared, has fewer than n node lines: a higher root, mixed levels,
-- repeats and lines that the root doesn't reach are allowed
abbrev pub IsLeastLineCount : ℕ → Universe → ℕ → Type 0
IsLeastLineCount top u n =
    (bytes : List ℕ) (file : Macrocell) → IsMacrocell top bytes file → IsSame u (macrocell_universe file) → IsRival file → n ≤ node_lines file

-- the text is a macrocell file of the same pattern with the fewest node lines, under a name of those without leaf lines
pub record IsLeastText (top : ℕ) (bytes text : List ℕ) : Type 0 where
  pub universe : Universe
  pub reads : Reads top bytes universe
  pub file : Macrocell
  pub says : IsMacrocell top text file
  pub same : IsSame universe (macrocell_universe file)
  pub least : IsLeastLineCount top universe (node_lines file)

-- the number is that of a node line of this square's level that stands for the square
pub record IsLineOf (file : Macrocell) (t : Tree) (number : ℕ) : Type 0 where
  pub line : Line
  pub is : item_of_number file.lines number ≡ Some line
  pub level : level_of line ≡ depth t
  pub square : tree_of file.lines (depth t) number ≡ t

-- Each square of the canonical list has a node line of the file: its own, but for the square of the whole, which has the root's. No two
-- have one line.
pub record SquaresHaveNodeLines (top : ℕ) (u : Universe) (file : Macrocell) : Type 0 where
  pub line_for : Tree → ℕ
  pub within : (t : Tree) → is_in (listed_squares (whole top u) (least_level u.rule)) t ≡ true → (1 ≤ line_for t) × (line_for t ≤ node_lines file)
  pub root : is_in (listed_squares (whole top u) (least_level u.rule)) (whole top u) ≡ true → line_for (whole top u) ≡ node_lines file
  pub own : (t : Tree) → is_in (listed_squares (whole top u) (least_level u.rule)) t ≡ true → (t ≡ whole top u → ⊥) → IsLineOf file t (line_for t)
  pub apart : (s t : Tree) → is_in (listed_squares (whole top u) (least_level u.rule)) s ≡ true → is_in (listed_squares (whole top u) (least_level u.rule)) t
      ≡ true
      → line_for s ≡ line_for t → s ≡ t
