-- Node lines that wait until their squares are joined, many at once.
use Rattle.std.specs.Prelude.{◌≡◌, ◌⊎◌, ℕ, suc, ◌-◌, ◌<◌, ◌≤◌, List, [], ◌∷◌, ◌++◌, length, map, All, Contains, Some, slice_get}
use Rattle.life_base.specs.Refusal.{Prefix}
use Rattle.life_base.specs.Tree.{Tree, depth}
use Rattle.life_base.specs.declared.cell.TheConstants.{MAX_LEVEL}
use Rattle.life_mc.specs.Macrocell.{level_of}
use Rattle.life_mc.specs.Reading.{AcceptsMacrocell, squares_of}
use Rattle.life_mc.specs.Squares.{line_tree, tree_of}
use Rattle.life_mc.specs.declared.line.Line.{Line}
use Rattle.life_mc.specs.declared.line.Line.TheVariants.{Leaf, Quad}
use Rattle.life_quad.specs.Moves.{CanJoin, quads_of}
use Rattle.life_quad.specs.declared.id.Id.{Id}
use Rattle.life_quad.specs.declared.moves.Quarters.{Quarters}
use Rattle.life_quad.specs.declared.squares.Squares.{Ghosts}
use Rattle.life_reader.specs.declared.progress.TheConstants.{MOST_WAITING}

-- these are the squares of node lines, in their order
pub record AreTreesOf (lines : List Line) (trees : List Tree) : Type 0 where
  pub count : length trees ≡ length lines
  pub each : (index : ℕ) (t : Tree) (line : Line) → slice_get trees index ≡ Some t → slice_get lines index ≡ Some line
      → (t ≡ tree_of lines (level_of line) (suc index)) × (depth t ≡ level_of line)

-- Of the first node lines these Ids name the squares. The others wait: these are the quarters of their squares.
pub record AreKeptOf (knows : Id → Type 0) (content : Id → Tree) (lines : List Line) (ids : List Id) (waiting : List Quarters) : Type 0 where
  pub trees : AreTreesOf lines (map content ids ++ quads_of content waiting)
  pub known : All knows ids
  pub can_join : All (CanJoin knows content) waiting
  pub few : length waiting ≤ MOST_WAITING

-- the square is that of a node line of a prefix of a file
pub record IsOfNodeLine (top : ℕ) (lines : List (List ℕ)) (t : Tree) : Type 0 where
  pub before : List (List ℕ)
  pub line : List ℕ
  pub behind : List (List ℕ)
  pub square : Line
  pub are : lines ≡ before ++ line ∷ behind
  pub prefix : Prefix (AcceptsMacrocell top) (before ++ line ∷ [])
  pub squares : squares_of (before ++ line ∷ []) ≡ squares_of before ++ square ∷ []
  pub tree : t ≡ line_tree (tree_of (squares_of before) (level_of square - 1)) square

-- the same of the lines of a file so far, and each square that waits is that of one of them
pub record KeepsLines (knows : Id → Type 0) (content : Id → Tree) (lines : List (List ℕ)) (ids : List Id) (waiting : List Quarters) : Type 0 where
  pub kept : AreKeptOf knows content (squares_of lines) ids waiting
  pub named : (t : Tree) → Contains (quads_of content waiting) t → IsOfNodeLine MAX_LEVEL lines t

-- the Id is that of a quarter of a square that waits
pub record IsQuarterOfOne (waiting : List Quarters) (id : Id) : Type 0 where
  pub quarters : Quarters
  pub there : Contains waiting quarters
  pub is : (id ≡ quarters.nw) ⊎ (id ≡ quarters.ne) ⊎ (id ≡ quarters.sw) ⊎ (id ≡ quarters.se)

-- the squares of these quarters were joined, and their Ids comes after the others
pub record HasJoined {X : Type 0} (S : Ghosts X) (old new : X) (ids : List Id) (waiting : List Quarters) (all : List Id) : Type 0 where
  pub joined : List Id
  pub are : all ≡ ids ++ joined
  pub known : All (S.knows new) joined
  pub squares : map (S.content new) joined ≡ quads_of (S.content old) waiting

-- each quarter of a node line above level 1 is 0 or the number of one of the first lines, so many
abbrev pub NamesFirst : ℕ → Line → Type 0
NamesFirst count (Leaf rows) = Unit {0}
NamesFirst count (Quad level nw ne sw se) = (level ≡ 1) ⊎ ((nw ≤ count) × (ne ≤ count) × (sw ≤ count) × (se ≤ count))

-- Before a node line is taken: fewer than `most` lines wait, and the line names none of them; or the squares of all were joined.
pub data IsReadyFor {X : Type 0} (S : Ghosts X) (most : ℕ) (line : Line) (old new : X) (ids : List Id) (waiting : List Quarters) (all : List Id)
    (left : List Quarters) : Type 0 where
  names_first : new ≡ old → all ≡ ids → left ≡ waiting → length waiting < most → NamesFirst (length ids) line
      → IsReadyFor S most line old new ids waiting all left
  all_joined : HasJoined S old new ids waiting all → left ≡ [] → IsReadyFor S most line old new ids waiting all left
