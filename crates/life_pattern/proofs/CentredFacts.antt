-- Squares about (0, 0) and their cells.
use Rattle.std.proofs.Common.{arith}
use Rattle.life_base.specs.Tree.{point, quad}
use Rattle.life_pattern.specs.Laws.{SquaresAreCentred, CentredSquaresTellCells}
use Rattle.life_pattern.proofs.Whole.{same-cells}
use Rattle.life_pattern.proofs.Planes.{full-depth, centred-tree_cell, tree_cell-outside}

pub squares-are-centred : SquaresAreCentred
squares-are-centred (point s) full high = absurd (omega arith)
squares-are-centred (quad a b c d) full high =
    let deep = full-depth (quad a b c d) full in
    (centred-tree_cell deep, tree_cell-outside deep)

pub centred-squares-tell-cells : CentredSquaresTellCells
centred-squares-tell-cells level f g outside other same x y = same-cells f g level same outside other x y
