use Rattle.std.proofs.Common.{◌∙◌, ap}
use Rattle.std.specs.Int.{bit_at}
use Rattle.life_lanes.proofs.PlaceLemmas.{quarters-place}
use Rattle.life_lanes.proofs.quarters.by_quarters.Goals as goal

pub returns : goal.returns
returns c r i lr li =
    c.exchange.ensures _ ∙ c.exchange-pairs.ensures _ ∙ c.exchange-halves.ensures _ ∙ ap (bit_at c.args.rows) (quarters-place r i lr li)
