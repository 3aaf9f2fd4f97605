-- What calls do to a store that they are lent, and what patterns in it stand for.
use Rattle.std.specs.Prelude.{◌≡◌, false, Contains, ℕ, ◌≤◌, ◌⊎◌, List}
use Rattle.life_base.specs.Tree.{Tree, is_blank_tree, depth}
use Rattle.life_quad.specs.Store.{Nodes, stored_squares, Knows, IsShared}
use Rattle.life_base.specs.declared.cell.TheConstants.{MAX_LEVEL}
use Rattle.life_base.specs.declared.fault.Fault.{Fault}
use Rattle.life_mc.specs.Macrocell.{largest_state}
use Rattle.life_mc.specs.Squares.{HasStatesUpTo}
use Rattle.life_quad.specs.Keeping.{KeepsSquares, IsShortageFault}
use Rattle.life_quad.specs.Moves.{trimmed_square}
use Rattle.life_quad.specs.declared.id.Id.{Id}
use Rattle.life_pattern.specs.Universe.{Universe, least_level, whole, square_universe}
use Rattle.life_pattern.specs.Files.{Reads, Refuses}
use Rattle.life_pattern.specs.declared.pattern.Pattern.{Pattern}
pub use Rattle.life_quad.specs.Store.{content}

-- the Id names a square of the store
abbrev pub IsKnown : Nodes → Id → Type 0
IsKnown store id = Knows store id × IsShared store

-- each Id keeps its square, nothing stored is taken away, and the limit stays
abbrev pub Keeps : Nodes → Nodes → Type 0
Keeps = KeepsSquares IsKnown content stored_squares (λ store. store.limit)

-- the store holds its limit, or a growth of memory was refused
abbrev pub IsShortageOf : Nodes → Fault → Type 0
IsShortageOf store = IsShortageFault (stored_squares store) store.limit

-- what a pattern in a store says
abbrev pub universe_in : Nodes → Pattern → Universe
universe_in store pattern = square_universe pattern.rule pattern.generation (content store pattern.root)

-- the pattern has this rule and generation, and its root is the least square with these cells
pub record IsPatternOf (top : ℕ) (knows : Id → Type 0) (content_of : Id → Tree) (universe : Universe) (pattern : Pattern) : Type 0 where
  pub rule : pattern.rule ≡ universe.rule
  pub generation : pattern.generation ≡ universe.generation
  pub known : knows pattern.root
  pub root : content_of pattern.root ≡ whole top universe

-- the bytes are a file, and the pattern in the store is what it says, in the least square
pub record IsRead (top : ℕ) (bytes : List ℕ) (store : Nodes) (pattern : Pattern) : Type 0 where
  pub universe : Universe
  pub reads : Reads top bytes universe
  pub is : IsPatternOf top (IsKnown store) (content store) universe pattern

-- what holds of each file that the pattern in the store was read from
abbrev pub ForEachFile : Nodes → Pattern → (List ℕ → Type 0) → Type 0
ForEachFile store pattern Holds = (bytes : List ℕ) → IsRead MAX_LEVEL bytes store pattern → Holds bytes

-- the pattern in the store is that of a file
abbrev pub IsOfFile : ℕ → Nodes → Pattern → Type 0
IsOfFile top store pattern = (bytes : List ℕ) × IsRead top bytes store pattern

-- the pattern's root is the least square with its cells, and its states fit the rule
pub record IsTrimmed (store : Nodes) (pattern : Pattern) : Type 0 where
  pub known : IsKnown store pattern.root
  pub level : least_level pattern.rule ≤ depth (content store pattern.root)
  pub trimmed : trimmed_square (content store pattern.root) (least_level pattern.rule) ≡ content store pattern.root
  pub states : HasStatesUpTo (largest_state pattern.rule) (content store pattern.root)

-- why a call on these bytes is refused
abbrev pub RefusesIn : ℕ → List ℕ → Nodes → Fault → Type 0
RefusesIn top bytes store fault = Refuses top bytes fault ⊎ IsShortageOf store fault

-- a square that isn't blank and that the store doesn't hold
abbrev pub IsNew : Nodes → Tree → Type 0
IsNew store t = (is_blank_tree t ≡ false) × ¬ Contains (stored_squares store) t
