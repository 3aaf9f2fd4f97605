use Rattle.std.proofs.Common.{rules}
use Rattle.life_base.proofs.kind.Kind.name.Goals as goal

pub returns-in-Full : goal.returns-in-Full
returns-in-Full c = search rules
