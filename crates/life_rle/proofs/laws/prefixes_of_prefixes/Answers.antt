use Rattle.life_rle.proofs.PrefixLaws.{prefixes_of_prefixes}
use Rattle.life_rle.proofs.laws.prefixes_of_prefixes.Goals as goal

pub returns : goal.returns
returns c = prefixes_of_prefixes
