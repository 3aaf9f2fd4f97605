use Rattle.life_rle.proofs.FormatLaws.{broken_for_good}
use Rattle.life_rle.proofs.laws.broken_for_good.Goals as goal

pub returns : goal.returns
returns c = broken_for_good
