use Rattle.std.proofs.Common.{pos, neg_ℤ, sym, ◌∙◌, subst, arith}
use Rattle.life_base.specs.Tree.{tree_cell}
use Rattle.life_quad.specs.Store.{four}
use Rattle.life_block.specs.Bits.{AreNineRows}
use Rattle.life_block.proofs.SmallRoots.{nine-of_four, three_of}
use Rattle.life_block.proofs.leaf_words.next_of_four.Goals as goal

pub returns : goal.returns
returns c =
    let none = c.of-none.ensures in
    let words = c.of-2.ensures ∙ (λ i. three_of (none i) (c.of.ensures i) (none i)) in
    c.next_cells.ensures (tree_cell (four c.args.cells)) (neg_ℤ (pos 4)) (neg_ℤ (pos 4))
    (subst (AreNineRows (tree_cell (four c.args.cells)) 8 (neg_ℤ (pos 4)) (neg_ℤ (pos 4))) (sym words)
    (nine-of_four c.args.cells c.by_rows-rows.result c.requires (omega arith) c.by_rows-rows.ensures))
