use Rattle.life_base.proofs.RuleForms as law
use Rattle.life_base.proofs.laws.four_texts_are_forms.Goals as goal

pub returns : goal.returns
returns c = law.four_texts_are_forms
