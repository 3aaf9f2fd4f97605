-- The square that each node line of a macrocell file stands for, as a tree without sharing.
use Rattle.std.specs.Prelude.{◌≡◌, ℕ, zero, suc, ◌+◌, ◌^◌, ◌<◌, ◌≤◌, List, length, take, Some, None, ℤ}
use Rattle.life_base.specs.Tree.{Tree, point, quad, depth, blank, state_at, tree_cell, IsFull}
use Rattle.life_base.specs.declared.rule.Rule.{Rule}
use Rattle.life_mc.specs.Macrocell.{Macrocell, IsValidMacrocell, level_of, largest_state, item_of_number}
use Rattle.life_mc.specs.Cells.{macrocell_cell, cell_in_node, leaf_cell, root_level}
use Rattle.life_mc.specs.declared.line.Line.{Line}
use Rattle.life_mc.specs.declared.line.Line.TheVariants.{Leaf, Quad}

-- the square of a depth whose north-west corner is in column x and row y, where these are the states
abbrev pub tree_at : (ℕ → ℕ → ℕ) → ℕ → ℕ → ℕ → Tree
tree_at states zero x y = point (states x y)
tree_at states (suc k) x y =
    quad (tree_at states k x y) (tree_at states k (x + 2 ^ k) y) (tree_at states k x (y + 2 ^ k)) (tree_at states k (x + 2 ^ k) (y + 2 ^ k))

-- the eight rows of eight cells of a leaf
abbrev pub leaf_tree : List ℕ → Tree
leaf_tree rows = tree_at (leaf_cell rows) 3 0 0

-- the square of a line: a leaf's, or the one whose quarters its four numbers stand for
abbrev pub line_tree : (ℕ → Tree) → Line → Tree
line_tree tree_for (Leaf rows) = leaf_tree rows
line_tree tree_for (Quad level nw ne sw se) = quad (tree_for nw) (tree_for ne) (tree_for sw) (tree_for se)

-- The square of a level that a number stands for. At level 0 the number is the state itself; above, it names a line,
-- and a number without a line, as 0, stands for the blank square.
abbrev pub tree_of : List Line → ℕ → ℕ → Tree
tree_of lines zero number = point number
tree_of lines (suc k) number = elim (item_of_number lines number) [ None ↦ blank (suc k) | Some line ↦ line_tree (tree_of lines k) line ]

-- the square of the root, the last line; that of a file without lines is the point 0
abbrev pub root_tree : List Line → Tree
root_tree lines = tree_of lines (root_level lines) (length lines)

-- each state of the square is at most this
abbrev pub HasStatesUpTo : ℕ → Tree → Type 0
HasStatesUpTo most (point state) = state ≤ most
HasStatesUpTo most (quad nw ne sw se) = HasStatesUpTo most nw × HasStatesUpTo most ne × HasStatesUpTo most sw × HasStatesUpTo most se

-- The number stands for a square of this level: a full one, with states of the rule and with the cells that the lines
-- say, which the lines up to that of the number decide.
pub record StandsForSquare (rule : Rule) (lines : List Line) (level number : ℕ) : Type 0 where
  pub depth_is : depth (tree_of lines level number) ≡ level
  pub full : IsFull (tree_of lines level number)
  pub states : HasStatesUpTo (largest_state rule) (tree_of lines level number)
  pub cells : (column row : ℕ) → column < 2 ^ level → row < 2 ^ level → state_at (tree_of lines level number) column row
      ≡ cell_in_node lines level number column row
  pub by_prefix : tree_of (take number lines) level number ≡ tree_of lines level number

-- The number of each line stands for a square of its level, so does that of the root, and the cells of the file are those
-- of the root's square.
pub record HasSquares (file : Macrocell) : Type 0 where
  pub each : (number : ℕ) (line : Line) → item_of_number file.lines number ≡ Some line → StandsForSquare file.rule file.lines (level_of line) number
  pub root : StandsForSquare file.rule file.lines (root_level file.lines) (length file.lines)
  pub plane : (x y : ℤ) → macrocell_cell file x y ≡ tree_cell (root_tree file.lines) x y

-- each node line of a valid file stands for one square
abbrev pub LinesStandForSquares : ℕ → Type 0
LinesStandForSquares top = (file : Macrocell) → IsValidMacrocell top file → HasSquares file
