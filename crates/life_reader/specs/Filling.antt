-- Squares of a store that stand for node lines.
use Rattle.std.specs.Prelude.{◌≡◌, ℕ, suc, ◌+◌, ◌≤◌, List, length, map, Some, slice_get}
use Rattle.life_base.specs.Tree.{Tree, depth}
use Rattle.life_base.specs.declared.cell.TheConstants.{MAX_LEVEL}
use Rattle.life_base.specs.declared.rule.Rule.{Rule}
use Rattle.life_mc.specs.Macrocell.{Macrocell, IsSquare, IsValidMacrocell, level_of}
use Rattle.life_mc.specs.Squares.{tree_of}
use Rattle.life_mc.specs.declared.line.Line.{Line}
use Rattle.life_quad.specs.declared.id.Id.{Id}
use Rattle.life_quad.specs.declared.squares.Squares.{Ghosts}
use Rattle.life_reader.specs.Needs.{grown_times}

-- each node line's Id names its square
pub record AreSquaresOf (knows : Id → Type 0) (content : Id → Tree) (lines : List Line) (ids : List Id) : Type 0 where
  pub count : length ids ≡ length lines
  pub each : (index : ℕ) (id : Id) (line : Line) → slice_get ids index ≡ Some id → slice_get lines index ≡ Some line
      → knows id × (content id ≡ tree_of lines (level_of line) (suc index)) × (depth (content id) ≡ level_of line)

-- the same of a store
abbrev pub AreSquaresIn : {X : Type 0} → Ghosts X → X → List Line → List Id → Type 0
AreSquaresIn S squares lines ids = AreSquaresOf (S.knows squares) (S.content squares) lines ids

-- the store has an Id of the square
abbrev pub HasSquare : {X : Type 0} → Ghosts X → X → Tree → Type 0
HasSquare S squares t = (id : Id) × S.knows squares id × (S.content squares id ≡ t)

-- the store has an Id of each square that is grown from this one, of this level at most
abbrev pub HasGrown : {X : Type 0} → Ghosts X → X → Tree → ℕ → Type 0
HasGrown S squares t level = (more : ℕ) → depth t + suc more ≤ level → HasSquare S squares (grown_times (suc more) t)

-- what holds of all node lines whose squares these are and after which this line may stand
abbrev pub ForLines : {X : Type 0} → Ghosts X → X → List Id → Line → (List Line → Type 0) → Type 0
ForLines S squares ids line Holds =
    (lines : List Line) (rule : Rule) → IsSquare MAX_LEVEL rule (map level_of lines) line → AreSquaresIn S squares lines ids → Holds lines

-- what holds of each file whose node lines have these squares
abbrev pub ForMacrocell : {X : Type 0} → Ghosts X → X → List Id → (Macrocell → Type 0) → Type 0
ForMacrocell S squares ids Holds = (file : Macrocell) → IsValidMacrocell MAX_LEVEL file → AreSquaresIn S squares file.lines ids → Holds file
