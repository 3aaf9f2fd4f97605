-- Which squares a moved form has, and when it has too many.
use Rattle.std.specs.Prelude.{◌≡◌, ◌≢◌, ℕ, ◌^◌, ◌<◌, min, false, List, length, All, AllPairs}
use Rattle.life_base.specs.Refusal.{OrMemory, fault_of}
use Rattle.life_base.specs.Tree.{Tree, is_blank_tree}
use Rattle.life_base.specs.declared.cell.TheConstants.{MAX_LEVEL}
use Rattle.life_base.specs.declared.fault.Fault.{Fault}
use Rattle.life_base.specs.declared.kind.Kind.TheVariants.{Full}
use Rattle.life_quad.specs.Moves.{trimmed_square}
use Rattle.life_quad.specs.Refused.{SomePart}
use Rattle.life_quad.specs.Store.{Nodes}
use Rattle.life_pattern.specs.Store.{universe_in}
use Rattle.life_pattern.specs.Universe.{Universe, centred_square, whole}
use Rattle.life_pattern.specs.declared.pattern.Pattern.{Pattern}
use Rattle.life_forms.specs.Forms.{IsMoved}
use Rattle.life_forms.specs.Turns.{Turn, image}

-- the root of a pattern that is moved into its place: the square of the whole plane of the moved form, trimmed down to this least level at most
pub record IsMovedRoot (u : Universe) (least : ℕ) (root : Tree) : Type 0 where
  pub form : Universe
  pub moved : IsMoved MAX_LEVEL u form
  pub square : root ≡ trimmed_square (centred_square form.cell MAX_LEVEL) least

-- that root, or a part of it, has a property
abbrev pub SomeOfMovedRoot : (Tree → Type 0) → Universe → ℕ → Type 0
SomeOfMovedRoot P u least = (v : Universe) × IsMoved MAX_LEVEL u v × SomePart P (trimmed_square (centred_square v.cell MAX_LEVEL) least)

-- the root of the moved form of a pattern, or a part of it, has a property
abbrev pub SomeOfMovedForm : (Tree → Type 0) → Universe → Type 0
SomeOfMovedForm P u = (v : Universe) × IsMoved MAX_LEVEL u v × SomePart P (whole MAX_LEVEL v)

-- More different squares are needed than this, and none of them is blank. `Needs` says of a property that a square which is needed has it.
abbrev pub NeedsMore : ((Tree → Type 0) → Type 0) → ℕ → Type 0
NeedsMore Needs most =
    (squares : List Tree) × AllPairs ◌≢◌ squares × All (λ t. (is_blank_tree t ≡ false) × Needs (λ u. u ≡ t)) squares × (most < length squares)

-- the root of the moved form of a pattern and its parts are more different squares than this, without blank ones
abbrev pub HasLargerForm : ℕ → Universe → Type 0
HasLargerForm most u = NeedsMore (λ P. SomeOfMovedForm P u) most

-- they are more than 2^21, or than the store of the pattern may hold
abbrev pub HasLargeForm : Nodes → Pattern → Type 0
HasLargeForm store pattern = HasLargerForm (min (2 ^ 21) store.limit) (universe_in store pattern)

-- so it is with one of the eight images of the pattern
abbrev pub HasLargeImage : Nodes → Pattern → Type 0
HasLargeImage store pattern = (turn : Turn) × HasLargerForm (min (2 ^ 21) store.limit) (image turn (universe_in store pattern))

-- why there is no turned form: memory was refused, or an image has too large a form
abbrev pub RefusesTurning : Nodes → Pattern → Fault → Type 0
RefusesTurning store pattern fault = OrMemory fault ((fault ≡ fault_of Full) × HasLargeImage store pattern)
