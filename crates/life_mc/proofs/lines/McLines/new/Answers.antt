use Rattle.std.proofs.Common.{rules}
use Rattle.life_mc.proofs.lines.McLines.new.Goals as goal

pub returns : goal.returns
returns c = search rules
