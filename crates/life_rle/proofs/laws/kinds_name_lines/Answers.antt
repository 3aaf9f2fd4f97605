use Rattle.life_rle.proofs.LineKinds.{names_line}
use Rattle.life_rle.proofs.laws.kinds_name_lines.Goals as goal

pub returns : goal.returns
returns c = names_line
