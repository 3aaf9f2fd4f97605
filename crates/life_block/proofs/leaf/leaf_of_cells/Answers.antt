use Rattle.std.proofs.Common.{◌≡◌, ap, ◌∙◌, subst}
use Rattle.std.proofs.lemmas.Result.{IfOk-weaker, on_err_weaker}
use Rattle.life_quad.specs.Refused.{SomePart}
use Rattle.life_quad.specs.Store.{eight}
use Rattle.life_quad.proofs.KeepingLemmas.{adds-as}
use Rattle.life_quad.proofs.LeafCells.{eight_of}
use Rattle.life_block.specs.Bits.{leaf_of_cells}
use Rattle.life_block.proofs.MadeLemmas.{made-at}
use Rattle.life_block.proofs.leaf.leaf_of_cells.Given.{Over}
use Rattle.life_block.proofs.leaf.leaf_of_cells.Goals as goal

-- the square is that of the four
same : (g : Over) (c : goal.After-leaf g) → eight c.leaf_number.result ≡ leaf_of_cells c.args.cells.now
same g c =
    let fits = c.leaf_number.ensures.fits in
    ap eight c.leaf_number.ensures.number ∙ eight_of _ _ _ _ fits.first fits.second fits.third fits.fourth

pub returns-clause-at : goal.returns-clause-at
returns-clause-at g c = made-at _ _ _ c.leaf.result c.leaf.ensures.known c.leaf.ensures.square

pub returns-clause-square : goal.returns-clause-square
returns-clause-square g c = IfOk-weaker c.leaf.result _ _ (λ r e. e ∙ same g c) c.leaf.ensures.square

pub returns-clause-needed : goal.returns-clause-needed
returns-clause-needed g c =
    on_err_weaker c.leaf.result (λ some. subst (SomePart (g.S.Squares.needs_node c.leaf.new.self)) (same g c) some) c.leaf.ensures.needed

pub returns-clause-adds : goal.returns-clause-adds
returns-clause-adds g c = adds-as _ c.leaf.ensures.adds (λ P some. subst (SomePart P) (same g c) some)
