use Rattle.life_rle.proofs.PrefixLaws.{mark_is_decided}
use Rattle.life_rle.proofs.laws.mark_is_decided.Goals as goal

pub returns : goal.returns
returns c = mark_is_decided
