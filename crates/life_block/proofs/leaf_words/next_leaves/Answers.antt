use Rattle.std.proofs.Common.{ℕ, ℤ, ◌∙◌, ap}
use Rattle.life_pieces.specs.Bits.{HasRows}
use Rattle.life_block.specs.Bits.{square_of_leaves}
use Rattle.life_pieces.proofs.NeedLemmas.{joined-is}
use Rattle.life_pieces.proofs.PieceLemmas.{first-of_four, last-of_four, western-rows, eastern-rows}
use Rattle.life_block.proofs.leaf_words.next_leaves.Goals as goal

pub returns : goal.returns
returns c cells x y h =
    let Rows : ℤ → ℤ → ℕ → Type 0 = λ row column word. HasRows cells column row word in
    ap square_of_leaves c.of.ensures ∙ joined-is (record {
      nw = c.next_cells.ensures cells _ _ (western-rows Rows c.western.ensures (first-of_four c.north.ensures h));
      ne = c.next_cells-2.ensures cells _ _ (eastern-rows Rows c.eastern.ensures (first-of_four c.north-2.ensures h));
      sw = c.next_cells-3.ensures cells _ _ (western-rows Rows c.western-2.ensures (last-of_four c.rear.ensures h));
      se = c.next_cells-4.ensures cells _ _ (eastern-rows Rows c.eastern-2.ensures (last-of_four c.rear-2.ensures h));
    })
