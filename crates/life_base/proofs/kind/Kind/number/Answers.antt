use Rattle.std.proofs.Common.{rules}
use Rattle.life_base.proofs.kind.Kind.number.Goals as goal

pub returns-in-Spent : goal.returns-in-Spent
returns-in-Spent c = search rules
