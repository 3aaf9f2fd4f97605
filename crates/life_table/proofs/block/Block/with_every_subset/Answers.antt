use Rattle.life_table.proofs.Indexing.{and_both}
use Rattle.life_table.proofs.block.Block.with_every_subset.Goals as goal

pub loop-i-preserved : goal.loop-i-preserved
loop-i-preserved c = λ k v space order may h.
    and_both c.loop-i.rest c.with_enough_among-rest.result k (c.loop-i.invariant k v space order may h)
    (c.with_enough_among-rest.ensures k v space order may)
