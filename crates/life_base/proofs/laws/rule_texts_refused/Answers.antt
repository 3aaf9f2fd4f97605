use Rattle.life_base.proofs.RuleKinds as law
use Rattle.life_base.proofs.laws.rule_texts_refused.Goals as goal

pub returns : goal.returns
returns c = law.rule_kind
