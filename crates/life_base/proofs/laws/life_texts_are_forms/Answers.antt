use Rattle.life_base.proofs.RuleForms as law
use Rattle.life_base.proofs.laws.life_texts_are_forms.Goals as goal

pub returns : goal.returns
returns c = law.life_texts_are_forms
