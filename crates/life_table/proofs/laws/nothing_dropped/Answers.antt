use Rattle.life_table.proofs.Accepted.{nothing_dropped}
use Rattle.life_table.proofs.laws.nothing_dropped.Goals as goal

pub returns : goal.returns
returns c = nothing_dropped
