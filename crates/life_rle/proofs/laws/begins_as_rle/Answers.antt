use Rattle.life_rle.proofs.PrefixLaws.{begins_as_rle}
use Rattle.life_rle.proofs.laws.begins_as_rle.Goals as goal

pub returns : goal.returns
returns c = begins_as_rle
