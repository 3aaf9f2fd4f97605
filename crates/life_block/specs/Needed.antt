-- Which squares of the next generation a call stores, and which one a refused call had to store.
use Rattle.std.specs.Prelude.{◌≡◌, ◌≢◌, ℕ, suc, ◌+◌, ◌^◌, ◌<◌, ℤ, ◌<ℤ◌, pos, neg_ℤ, min}
use Rattle.life_base.specs.Sets.{OuterTotalistic}
use Rattle.life_base.specs.Tree.{Tree, depth, half_side, tree_cell}
use Rattle.life_base.specs.declared.cell.TheConstants.{MAX_LEVEL}
use Rattle.life_quad.specs.declared.id.Id.{Id}
use Rattle.life_quad.specs.Refused.{SomePart}
use Rattle.life_next.specs.Generation.{one_after, next_life}
use Rattle.life_sweep.specs.Generation.{LifeAnswers}
use Rattle.life_sweep.specs.Refused.{SomeNext}
use Rattle.life_pieces.specs.Pieces.{AreNine, AreSixteen, IsBinary, Nine, Sixteen, square_from}

-- The next two say that a square has a property which is part of some next states under a B/S rule, wherever on a plane the squares are: of a square of
-- level k amid its eight neighbours, or of four squares of that level amid twelve others.
abbrev pub SomeOfNine : (Tree → Type 0) → OuterTotalistic → (Id → Tree) → ℕ → Nine → Type 0
SomeOfNine P rule content k nine =
    (cells : ℤ → ℤ → ℕ) (x y : ℤ) → IsBinary cells → AreNine content cells (2 ^ k) x y nine → SomePart P (square_from (next_life rule cells) k x y)

abbrev pub SomeOfSixteen : (Tree → Type 0) → OuterTotalistic → (Id → Tree) → ℕ → Sixteen → Type 0
SomeOfSixteen P rule content k sixteen =
    (cells : ℤ → ℤ → ℕ) (x y : ℤ) → IsBinary cells → AreSixteen content cells (2 ^ k) x y sixteen
    → SomePart P (square_from (next_life rule cells) (suc k) x y)

-- the square of the next generation under a B/S rule, one level higher, about the same centre
abbrev pub next_square : OuterTotalistic → Tree → Tree
next_square rule t =
    let corner = neg_ℤ (pos (2 ^ depth t)) in square_from (next_life rule (tree_cell t)) (suc (depth t)) corner corner

-- the square of the next generation of the whole plane, as far as the plane goes
abbrev pub next_plane : OuterTotalistic → Tree → Tree
next_plane rule t =
    let corner = neg_ℤ (pos (half_side t)) in square_from (next_life rule (tree_cell t)) (depth t) corner corner

-- no cell of the square is in its first or last column or row
abbrev pub HasClearEdge : Tree → Type 0
HasClearEdge t =
    (x y : ℤ) → tree_cell t x y ≢ 0
    → (neg_ℤ (pos (half_side t)) <ℤ x) × (one_after x <ℤ pos (half_side t)) × (neg_ℤ (pos (half_side t)) <ℤ y) × (one_after y <ℤ pos (half_side t))

-- the level of a square with the next generation of one of this level: one more, as far as the plane goes
abbrev pub level_after : ℕ → ℕ
level_after k = min (k + 1) MAX_LEVEL

-- A square of the next generation has a property: a part of the square that is one level higher; or, where that would be larger than the plane,
-- a square of the plane's next states.
pub data SomeOfNext (P : Tree → Type 0) (rule : OuterTotalistic) (t : Tree) : Type 0 where
  of_square : depth t < MAX_LEVEL → SomePart P (next_square rule t) → SomeOfNext P rule t
  of_plane : depth t ≡ MAX_LEVEL → SomeNext P (LifeAnswers rule) (tree_cell t) → SomeOfNext P rule t
