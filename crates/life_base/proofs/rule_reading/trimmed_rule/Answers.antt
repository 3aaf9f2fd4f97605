use Rattle.std.proofs.Common.{rules}
use Rattle.life_base.proofs.rule_reading.trimmed_rule.Goals as goal

pub four_or_other-requires-clause-counted : goal.four_or_other-requires-clause-counted
four_or_other-requires-clause-counted c = search rules

pub returns-in-Some : goal.returns-in-Some
returns-in-Some c = search rules
