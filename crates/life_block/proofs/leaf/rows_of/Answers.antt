use Rattle.std.proofs.Common.{arith, subst}
use Rattle.life_pieces.specs.Pieces.{IsPiece}
use Rattle.life_pieces.proofs.LeafWordLemmas.{rows-of_leaf}
use Rattle.life_block.proofs.leaf.rows_of.Goals as goal

pub returns : goal.returns
returns g c cells x y binary h =
    rows-of_leaf cells x y c.cells_of_leaf.result c.by_rows.result (omega arith) (subst (IsPiece cells x y) (c.cells_of_leaf.ensures cells x y binary h) h)
    c.by_rows.ensures
