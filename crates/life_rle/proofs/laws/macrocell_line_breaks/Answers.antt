use Rattle.life_rle.proofs.PrefixLaws.{macrocell_line_breaks}
use Rattle.life_rle.proofs.laws.macrocell_line_breaks.Goals as goal

pub returns : goal.returns
returns c = macrocell_line_breaks
