use Rattle.std.proofs.Common.{◌∙◌, ap}
use Rattle.std.specs.Int.{bit_at}
use Rattle.life_lanes.proofs.PlaceLemmas.{rows-place}
use Rattle.life_lanes.proofs.quarters.by_rows.Goals as goal

pub returns : goal.returns
returns c r i lr li =
    c.exchange.ensures _ ∙ c.exchange-halves.ensures _ ∙ c.exchange-pairs.ensures _ ∙ ap (bit_at c.args.quarters) (rows-place r i lr li)
