use Rattle.std.proofs.Common.{◌≡◌, Option, Some, None, IfSome, ◌∙◌, to_z-of_z}
use Rattle.life_base.specs.Tree.{tree_cell}
use Rattle.life_pieces.specs.Pieces.{square_from}
use Rattle.life_slide.proofs.plane.leaf_at.Goals as goal

weaker : {A : Type 0} (o : Option A) (P Q : A → Type 0) → ((a : A) → P a → Q a) → IfSome o P → IfSome o Q
weaker (Some a) P Q f p = f a p
weaker None P Q f p = tt

pub returns : goal.returns
returns g c =
    let b = c.block_at.ensures.begins in
    let cells = tree_cell (g.S.Squares.content c.args.squares.now c.args.id) in
    let column = b.column ∙ to_z-of_z c.ranges.x in
    let row = b.row ∙ to_z-of_z c.ranges.y in
    weaker c.leaf_of_block.result _ _ (λ leaf is. is cells b.west b.north b.are ∙ (λ i. square_from cells 3 (column i) (row i))) c.leaf_of_block.ensures.cells
