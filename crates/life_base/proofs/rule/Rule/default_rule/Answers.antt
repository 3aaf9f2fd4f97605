use Rattle.std.proofs.Common.{rules}
use Rattle.life_base.proofs.rule.Rule.default_rule.Goals as goal

pub returns : goal.returns
returns c = search rules
