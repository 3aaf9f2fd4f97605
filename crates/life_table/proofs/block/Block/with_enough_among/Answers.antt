use Rattle.std.proofs.Common.{arith}
use Rattle.life_table.specs.Index.{is_among}
use Rattle.life_table.proofs.SomeOrder.{counts_same, order_length}
use Rattle.life_table.proofs.block.Block.with_enough_among.Goals as goal

pub returns : goal.returns
returns c = λ k v space order may.
    let same = counts_same (is_among c.args.states.now) c.args.others.now v order in
    c.with_inputs_among.ensures k v space (order_length c.args.others.now v order) may (omega (arith, same, c.count_among-times.ensures))
