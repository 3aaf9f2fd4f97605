use Rattle.life_base.proofs.RuleTexts as law
use Rattle.life_base.proofs.laws.rule_texts_are_visible.Goals as goal

pub returns : goal.returns
returns c = law.texts_visible
