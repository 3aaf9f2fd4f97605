use Rattle.life_reader.proofs.SpaceCount.{limit_suffices}
use Rattle.life_reader.proofs.laws.limit_suffices.Goals as goal

pub returns : goal.returns
returns c = limit_suffices
