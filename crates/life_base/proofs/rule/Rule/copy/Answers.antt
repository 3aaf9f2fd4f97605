use Rattle.std.proofs.Common.{rules}
use Rattle.life_base.proofs.rule.Rule.copy.Goals as goal

pub returns-in-Life-clause-ok : goal.returns-in-Life-clause-ok
returns-in-Life-clause-ok c = search rules
