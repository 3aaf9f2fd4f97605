use Rattle.life_rle.proofs.PlainPosition.{positions_are_plain}
use Rattle.life_rle.proofs.laws.positions_are_plain.Goals as goal

pub returns : goal.returns
returns c = positions_are_plain
