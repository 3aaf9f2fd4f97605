use Rattle.life_rle.proofs.PrefixLaws.{long_lines_break}
use Rattle.life_rle.proofs.laws.long_lines_break.Goals as goal

pub returns : goal.returns
returns c = long_lines_break
