use Rattle.std.proofs.Common.{rules}
use Rattle.life_base.proofs.rule.Rule.same.Goals as goal

pub returns-in-Life-Life : goal.returns-in-Life-Life
returns-in-Life-Life c = search rules
