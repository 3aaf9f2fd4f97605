use Rattle.life_table.proofs.Seeing.{untold_is}
use Rattle.life_table.proofs.seen.Seen.untold.Goals as goal

pub returns : goal.returns
returns c = untold_is
