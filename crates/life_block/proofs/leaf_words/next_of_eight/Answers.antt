use Rattle.std.proofs.Common.{pos, neg_ℤ, sym, ◌∙◌, subst, arith}
use Rattle.life_base.specs.Tree.{tree_cell}
use Rattle.life_quad.specs.Store.{eight}
use Rattle.life_block.specs.Bits.{AreSixteenRows}
use Rattle.life_pieces.specs.Pieces.{four_of}
use Rattle.life_block.proofs.SmallRoots.{sixteen-of_eight}
use Rattle.life_block.proofs.leaf_words.next_of_eight.Goals as goal

pub returns : goal.returns
returns c =
    let none = c.of-none.ensures in
    let words = c.of.ensures ∙ (λ i. four_of (none i) (c.of-north.ensures i) (c.of-south.ensures i) (none i)) in
    c.next_leaves.ensures (tree_cell (eight c.args.cells)) (neg_ℤ (pos 8)) (neg_ℤ (pos 8))
    (subst (AreSixteenRows (tree_cell (eight c.args.cells)) (neg_ℤ (pos 8)) (neg_ℤ (pos 8))) (sym words)
    (sixteen-of_eight c.args.cells c.by_rows.result c.by_rows-north_east.result c.by_rows-south_west.result c.by_rows-2.result (omega arith)
    c.by_rows.ensures c.by_rows-north_east.ensures c.by_rows-south_west.ensures c.by_rows-2.ensures))
