use Rattle.life_rle.proofs.GreedyLines.{wrapped-greedily}
use Rattle.life_rle.proofs.laws.items_wrapped.Goals as goal

pub returns : goal.returns
returns c = wrapped-greedily
