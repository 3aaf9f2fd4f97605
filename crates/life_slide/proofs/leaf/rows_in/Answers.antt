use Rattle.std.proofs.Common.{arith, subst}
use Rattle.life_pieces.specs.Pieces.{IsPiece}
use Rattle.life_pieces.proofs.LeafWordLemmas.{rows-of_leaf}
use Rattle.life_slide.proofs.leaf.rows_in.Goals as goal

pub returns : goal.returns
returns g c cells x y h =
    rows-of_leaf cells x y c.in_ok-cells.cells c.by_rows.result (omega arith) (subst (IsPiece cells x y) c.in_ok-cells.ensures h) c.by_rows.ensures
