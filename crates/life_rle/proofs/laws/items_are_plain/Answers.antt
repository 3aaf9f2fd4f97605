use Rattle.life_rle.proofs.PlainItems.{items_are_plain}
use Rattle.life_rle.proofs.laws.items_are_plain.Goals as goal

pub returns : goal.returns
returns c = items_are_plain
