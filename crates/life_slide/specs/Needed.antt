-- Which squares a call stores that makes the square which begins at another place, and which one a refused call had to store.
use Rattle.std.specs.Prelude.{ℕ, suc, ◌%◌, ◌^◌, ℤ}
use Rattle.life_base.specs.Tree.{Tree, tree_cell}
use Rattle.life_quad.specs.Refused.{SomePart}
use Rattle.life_quad.specs.declared.id.Id.{Id}
use Rattle.life_quad.specs.declared.moves.Quarters.{Quarters}
use Rattle.life_pieces.specs.Pieces.{square_from}
use Rattle.life_pieces.specs.Pieces.{Nine, step_ahead}
use Rattle.life_slide.specs.Pieces.{AreNinePieces, IsBlock}

-- Both say that a square has a property which is part of the square that begins so many columns east and rows south of the first of several squares,
-- wherever on a plane these are: the square of their level, of four squares two by two, or the square one level higher, of nine.
module _ (P : Tree → Type 0) (content : Id → Tree) (columns rows k : ℕ) where
  abbrev pub SomeOfBlock : Quarters → Type 0
  SomeOfBlock block =
      (cells : ℤ → ℤ → ℕ) (x y : ℤ) → IsBlock content cells (2 ^ k) x y block
      → SomePart P (square_from cells k (step_ahead x (columns % 2 ^ k)) (step_ahead y (rows % 2 ^ k)))

  abbrev pub SomeOfNineSquares : Nine → Type 0
  SomeOfNineSquares nine =
      (cells : ℤ → ℤ → ℕ) (x y : ℤ) → AreNinePieces content cells (2 ^ k) x y nine
      → SomePart P (square_from cells (suc k) (step_ahead x (columns % 2 ^ k)) (step_ahead y (rows % 2 ^ k)))

-- the square of a level of the plane of a square's own cells that begins at a place
abbrev pub own_square_at : Tree → ℕ → ℤ → ℤ → Tree
own_square_at t k x y = square_from (tree_cell t) k x y
