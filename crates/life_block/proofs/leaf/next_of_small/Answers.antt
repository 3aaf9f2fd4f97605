use Rattle.std.proofs.Common.{◌≡◌, arith, sym, ◌∙◌, ap, subst}
use Rattle.std.proofs.lemmas.Result.{IfOk-weaker, on_err_weaker}
use Rattle.life_base.specs.Tree.{tree_cell}
use Rattle.life_quad.specs.Refused.{SomePart}
use Rattle.life_quad.proofs.KeepingLemmas.{adds-as}
use Rattle.life_block.specs.Bits.{leaf_of_cells, square_of_leaves}
use Rattle.life_block.specs.Needed.{next_square}
use Rattle.life_pieces.proofs.RootLemmas.{corner, piece-of_root}
use Rattle.life_block.proofs.leaf.next_of_small.Given.{Over}
use Rattle.life_block.proofs.leaf.next_of_small.Goals as goal

-- the cells that are made are the next states, of either level
four-next : (g : Over) (c : goal.After-leaf_of_cells g) → leaf_of_cells c.next_of_four.result
    ≡ next_square c.args.rule.now (g.S.Squares.content c.args.squares.now c.args.id)
four-next g c =
    let t = g.S.Squares.content c.args.squares.now c.args.id in
    let piece = piece-of_root t (g.met.S.Squares.full _ _ c.requires.known) (omega (arith, c.requires.high)) in
    let is = c.cells_of_small-cells.ensures.square (tree_cell t) (corner t) (corner t) c.requires.states piece in
    c.next_of_four.ensures ∙ ap (next_square c.args.rule.now) (sym is)

eight-next : (g : Over) (c : goal.After-square_of_leaves g) → square_of_leaves c.next_of_eight.result
    ≡ next_square c.args.rule.now (g.S.Squares.content c.args.squares.now c.args.id)
eight-next g c =
    let t = g.S.Squares.content c.args.squares.now c.args.id in
    let piece = piece-of_root t (g.met.S.Squares.full _ _ c.requires.known) (omega (arith, c.requires.high)) in
    let is = c.cells_of_leaf-cells.ensures (tree_cell t) (corner t) (corner t) c.requires.states piece in
    c.next_of_eight.ensures ∙ ap (next_square c.args.rule.now) (sym is)

pub returns-then-level-eq2-clause-square : goal.returns-then-level-eq2-clause-square
returns-then-level-eq2-clause-square g c = IfOk-weaker c.leaf_of_cells.result _ _ (λ r e. e ∙ four-next g c) c.leaf_of_cells.ensures.square

pub returns-then-level-eq2-clause-needed : goal.returns-then-level-eq2-clause-needed
returns-then-level-eq2-clause-needed g c =
    on_err_weaker c.leaf_of_cells.result (λ some. subst (SomePart (g.S.Squares.needs_node c.leaf_of_cells.new.squares)) (four-next g c) some)
    c.leaf_of_cells.ensures.needed

pub returns-then-level-eq2-clause-adds : goal.returns-then-level-eq2-clause-adds
returns-then-level-eq2-clause-adds g c = adds-as _ c.leaf_of_cells.ensures.adds (λ P some. subst (SomePart P) (four-next g c) some)

pub returns-clause-square : goal.returns-clause-square
returns-clause-square g c = IfOk-weaker c.square_of_leaves.result _ _ (λ r e. e ∙ eight-next g c) c.square_of_leaves.ensures.square

pub returns-clause-needed : goal.returns-clause-needed
returns-clause-needed g c =
    on_err_weaker c.square_of_leaves.result (λ some. subst (SomePart (g.S.Squares.needs_node c.square_of_leaves.new.squares)) (eight-next g c) some)
    c.square_of_leaves.ensures.needed

pub returns-clause-adds : goal.returns-clause-adds
returns-clause-adds g c = adds-as _ c.square_of_leaves.ensures.adds (λ P some. subst (SomePart P) (eight-next g c) some)
