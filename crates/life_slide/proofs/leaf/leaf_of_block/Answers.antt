use Rattle.std.proofs.Common.{◌∙◌, arith}
use Rattle.life_slide.proofs.LeafLemmas.{leaf-of_bits}
use Rattle.life_slide.proofs.leaf.leaf_of_block.Goals as goal

pub returns-clause-cells : goal.returns-clause-cells
returns-clause-cells g c cells x y h =
    let west = c.rows_south-west.ensures cells x y (c.in_ok-nw.ensures cells _ _ h.nw) (c.in_ok-sw.ensures cells _ _ h.sw) in
    let east = c.rows_south-east.ensures cells _ y (c.in_ok-ne.ensures cells _ _ h.ne) (c.in_ok-se.ensures cells _ _ h.se) in
    let rows = c.columns_east.ensures cells _ _ west east in
    leaf-of_bits cells _ _ c.by_quarters.result (omega arith) (λ r i lr li. c.by_quarters.ensures r i lr li ∙ rows r i lr li)
