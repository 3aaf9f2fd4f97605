-- What a pattern file says, whatever its format: a rule, a generation and the state of every cell of the plane.
use Rattle.std.specs.Prelude.{◌≡◌, ℕ, zero, suc, ◌^◌, ◌<◌, ◌≤◌, Bool, true, false, ℤ, pos, neg_ℤ, ◌+ℤ◌, ◌≤ℤ◌, ◌<ℤ◌}
use Rattle.life_base.specs.Tree.{Tree, point, quad, tree_cell}
use Rattle.life_base.specs.declared.rule.Rule.{Rule}
use Rattle.life_base.specs.declared.rule.Rule.TheVariants.{Life, Named}
use Rattle.life_base.specs.Rules.{IsRule}
use Rattle.life_mc.specs.Macrocell.{Macrocell, largest_state}
use Rattle.life_mc.specs.Cells.{macrocell_cell}
use Rattle.life_rle.specs.Pattern.{Rle, rle_cell}
use Rattle.life_quad.specs.Moves.{trimmed_square}

-- A rule, a generation, and a state for every pair of whole numbers: column x, row y, which grows downwards.
pub record Universe : Type 0 where
  pub rule : Rule
  pub generation : ℕ
  pub cell : ℤ → ℤ → ℕ

-- the same rule and generation, and the same state for every pair
pub record IsSame (u v : Universe) : Type 0 where
  pub rule : u.rule ≡ v.rule
  pub generation : u.generation ≡ v.generation
  pub cells : (x y : ℤ) → u.cell x y ≡ v.cell x y

-- what a macrocell file says
abbrev pub macrocell_universe : Macrocell → Universe
macrocell_universe file = record { rule = file.rule; generation = file.generation; cell = macrocell_cell file }

-- what an RLE file says
abbrev pub rle_universe : Rle → Universe
rle_universe file = record { rule = file.rule; generation = file.position.generation; cell = rle_cell file }

-- what a rule, a generation and a square in whose middle (0, 0) lies say
abbrev pub square_universe : Rule → ℕ → Tree → Universe
square_universe rule generation tree = record { rule = rule; generation = generation; cell = tree_cell tree }

-- a rule with births and survivals
abbrev pub is_life : Rule → Bool
is_life (Life sets) = true
is_life (Named name) = false

-- the least level of a square that has a node line of its own in a canonical file: that of a leaf under a B/S rule
abbrev pub least_level : Rule → ℕ
least_level (Life sets) = 3
least_level (Named name) = 1

-- the square of level k whose north-west cell is (x, y)
unfoldable pub square : (ℤ → ℤ → ℕ) → ℕ → ℤ → ℤ → Tree
square cell zero x y = point (cell x y)
square cell (suc k) x y =
    quad
    (square cell k x y)
    (square cell k (x +ℤ pos (2 ^ k)) y)
    (square cell k x (y +ℤ pos (2 ^ k)))
    (square cell k (x +ℤ pos (2 ^ k)) (y +ℤ pos (2 ^ k)))

-- the least coordinate of the square of level k in whose middle (0, 0) lies
unfoldable pub corner : ℕ → ℤ
corner zero = pos 0
corner (suc k) = neg_ℤ (pos (2 ^ k))

-- the square of level k in whose middle (0, 0) lies
unfoldable pub centred_square : (ℤ → ℤ → ℕ) → ℕ → Tree
centred_square cell k = square cell k (corner k) (corner k)

-- the whole plane, up to the greatest level, without its blank borders; never below the least level
unfoldable pub whole : ℕ → Universe → Tree
whole top u = trimmed_square (centred_square u.cell top) (least_level u.rule)

-- a coordinate of the square of level k in whose middle (0, 0) lies
abbrev pub IsWithin : ℕ → ℤ → Type 0
IsWithin k x = (corner k ≤ℤ x) × (x <ℤ (corner k +ℤ pos (2 ^ k)))

-- every cell outside that square has state 0
abbrev pub IsBlankOutside : ℕ → (ℤ → ℤ → ℕ) → Type 0
IsBlankOutside k cell = (x y : ℤ) → ¬ (IsWithin k x × IsWithin k y) → cell x y ≡ 0

-- what holds of every pattern that fits the plane of this level: a rule, a generation below 2 ^ 64, states of the rule, and state 0 outside
pub record IsOnPlane (top : ℕ) (u : Universe) : Type 0 where
  pub rule : IsRule u.rule
  pub generation : u.generation < 2 ^ 64
  pub states : (x y : ℤ) → u.cell x y ≤ largest_state u.rule
  pub outside : IsBlankOutside top u.cell

-- two patterns are of one generation
abbrev pub AreOfOneGeneration : Universe → Universe → Type 0
AreOfOneGeneration u v = u.generation ≡ v.generation
