use Rattle.life_base.proofs.MooreRules as law
use Rattle.life_base.proofs.laws.moore_rules_stay.Goals as goal

pub returns : goal.returns
returns c = law.moore_rules_stay
