use Rattle.life_base.proofs.RuleTexts as law
use Rattle.life_base.proofs.laws.rule_texts_tell_rules.Goals as goal

pub returns : goal.returns
returns c = law.tell_rules
