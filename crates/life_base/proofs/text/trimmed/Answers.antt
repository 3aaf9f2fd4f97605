use Rattle.std.proofs.Common.{rules}
use Rattle.life_base.proofs.text.trimmed.Goals as goal

pub returns : goal.returns
returns c = search rules
