-- Cells as words of 64 bits.
use Rattle.std.specs.Prelude.{ℕ, ℤ}
use Rattle.life_pieces.specs.declared.grid.Four.{Four}
use Rattle.life_pieces.specs.declared.grid.Three.{Three}
use Rattle.life_base.specs.Tree.{Tree, quad}
use Rattle.life_quad.specs.Store.{four}
use Rattle.life_pieces.specs.Pieces.{AreThreeAt, AreFourAt}
use Rattle.life_pieces.specs.Bits.{HasRows}
use Rattle.life_next.specs.Counts.{NineWords}

-- three such words from west to east, and three rows of three, of which the middle one begins in the column x and the row y, and the others so far from it
module _ (cells : ℤ → ℤ → ℕ) (side : ℕ) (x : ℤ) where
  abbrev pub AreThreeRows : ℤ → Three ℕ → Type 0
  AreThreeRows y = AreThreeAt (λ column word. HasRows cells column y word) side x

  abbrev pub AreNineRows : ℤ → NineWords → Type 0
  AreNineRows = AreThreeAt AreThreeRows side

-- four words of squares side by side, and four rows of four
module _ (cells : ℤ → ℤ → ℕ) (x : ℤ) where
  abbrev pub AreFourRows : ℤ → Four ℕ → Type 0
  AreFourRows y = AreFourAt (λ column word. HasRows cells column y word) 8 x

  abbrev pub AreSixteenRows : ℤ → Four (Four ℕ) → Type 0
  AreSixteenRows = AreFourAt AreFourRows 8

-- the square of four squares of level 2 with these cells, and that of four such squares
abbrev pub leaf_of_cells : Four ℕ → Tree
leaf_of_cells cells = quad (four cells.first) (four cells.second) (four cells.third) (four cells.fourth)

abbrev pub square_of_leaves : Four (Four ℕ) → Tree
square_of_leaves leaves = quad (leaf_of_cells leaves.first) (leaf_of_cells leaves.second) (leaf_of_cells leaves.third) (leaf_of_cells leaves.fourth)
