use Rattle.life_rle.proofs.PrefixLaws.{prefixes_are_files}
use Rattle.life_rle.proofs.laws.prefixes_are_files.Goals as goal

pub returns : goal.returns
returns c = prefixes_are_files
