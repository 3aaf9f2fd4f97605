use Rattle.std.proofs.Common.{◌∷◌, [], slice_index, arith}
use Rattle.std.proofs.lemmas.List.Sums.{count_by-le-length}
use Rattle.life_table.specs.Index.{is_among}
use Rattle.life_table.proofs.Indexing.{and_both}
use Rattle.life_table.proofs.SomeOrder.{counts_same, order_length}
use Rattle.life_table.proofs.block.Block.with_each_state.Goals as goal

pub with_inputs_among-rest-requires-clause-few : goal.with_inputs_among-rest-requires-clause-few
with_inputs_among-rest-requires-clause-few c =
    let i = c.loop-i.i in
    let most = count_by-le-length (is_among (slice_index c.args.counts.now.states i ∷ [])) c.args.others.now in
    let times = c.requires.counts.times i c.loop-i-test.true in
    omega (arith, most, times)

pub loop-i-preserved : goal.loop-i-preserved
loop-i-preserved c = λ k v space order may h.
    let i = c.loop-i.i in
    let others = c.args.others.now in
    let same = counts_same (is_among (slice_index c.args.counts.now.states i ∷ [])) others v order in
    let times = c.requires.counts.times i c.loop-i-test.true in
    and_both c.loop-i.rest c.with_inputs_among-rest.result k (c.loop-i.invariant k v space order may h)
    (c.with_inputs_among-rest.ensures k v space (order_length others v order) may (omega (arith, same, times)))
