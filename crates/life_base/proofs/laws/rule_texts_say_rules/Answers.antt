use Rattle.life_base.proofs.RuleValues as law
use Rattle.life_base.proofs.laws.rule_texts_say_rules.Goals as goal

pub returns : goal.returns
returns c = law.rule_values
