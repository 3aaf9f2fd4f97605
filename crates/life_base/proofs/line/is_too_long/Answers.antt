use Rattle.std.proofs.Common.{rules}
use Rattle.life_base.proofs.line.is_too_long.Goals as goal

pub returns : goal.returns
returns c = search rules
