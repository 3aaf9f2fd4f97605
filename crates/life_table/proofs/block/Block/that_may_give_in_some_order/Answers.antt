use Rattle.std.proofs.Common.{slice_index, arith}
use Rattle.life_table.proofs.SomeOrder.{order_tells}
use Rattle.life_table.proofs.block.Block.that_may_give_in_some_order.Goals as goal

pub returns : goal.returns
returns c = λ k space fit.
    let v = fit.order in
    let t = order_tells c.args.self.now c.args.cells.now k fit (omega (arith, c.type_inv.cells 0)) in
    c.with_every_subset.ensures k v space t.0 t.1
    (c.with_pairs-lines.ensures k (slice_index c.args.cells.now 0) v space t.0 fit.fits
    (c.with_each_state-lines.ensures k v space t.0 t.1 (c.with_each_input-lines.ensures k v space t.0 t.1 t.2)))

pub returns-then-lines-le-FEW : goal.returns-then-lines-le-FEW
returns-then-lines-le-FEW c = λ k space fit.
    let v = fit.order in
    let t = order_tells c.args.self.now c.args.cells.now k fit (omega (arith, c.type_inv.cells 0)) in
    c.with_pairs-lines.ensures k (slice_index c.args.cells.now 0) v space t.0 fit.fits
    (c.with_each_state-lines.ensures k v space t.0 t.1 (c.with_each_input-lines.ensures k v space t.0 t.1 t.2))
