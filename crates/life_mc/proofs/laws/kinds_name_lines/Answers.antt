use Rattle.life_mc.proofs.LineKinds.{names_line}
use Rattle.life_mc.proofs.laws.kinds_name_lines.Goals as goal

pub returns : goal.returns
returns c = names_line
