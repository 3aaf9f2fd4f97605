use Rattle.life_base.proofs.RuleForms as law
use Rattle.life_base.proofs.laws.rule_texts_are_plain.Goals as goal

pub returns : goal.returns
returns c = law.rule_texts_are_plain
