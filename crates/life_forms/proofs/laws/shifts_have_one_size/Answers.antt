use Rattle.life_forms.proofs.SizeFacts.{shifts-one-size}
use Rattle.life_forms.proofs.laws.shifts_have_one_size.Goals as goal

pub returns : goal.returns
returns c = shifts-one-size
