use Rattle.std.proofs.Common.{◌≡◌, ◌-◌, IfSome, slice_get, sym, ◌∙◌, ap, subst}
use Rattle.life_quad.specs.Store.{eight, squares}
use Rattle.life_quad.proofs.CallLemmas.{node_content}
use Rattle.life_quad.proofs.LeafCells.{no_leaf_cells}
use Rattle.life_quad.proofs.id.Id.leaf_cells.Goals as goal

pub returns-then-self : goal.returns-then-self
returns-then-self c = λ s e k. no_leaf_cells (squares s.nodes) c.args.self c.if-self.true

pub returns : goal.returns
returns c = λ s e k.
    let at = ap (λ l. slice_get l (c.args.self.0 - 66064)) e ∙ sym c.in_ok-node.ensures in
    let node = k.sound.entries _ _ at in
    subst (λ t. IfSome c.cells.result (λ cells. t ≡ eight cells)) (sym (node_content s _ _ k.sound c.if-self-lt-FIRST_NODE.false at))
    (c.cells.ensures (squares s.nodes) node.full)
