use Rattle.life_rle.proofs.DecidedLaw.{decided}
use Rattle.life_rle.proofs.laws.decided.Goals as goal

pub returns : goal.returns
returns c = decided
