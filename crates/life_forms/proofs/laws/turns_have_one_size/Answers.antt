use Rattle.life_forms.proofs.SizeFacts.{turns-one-size}
use Rattle.life_forms.proofs.laws.turns_have_one_size.Goals as goal

pub returns : goal.returns
returns c = turns-one-size
