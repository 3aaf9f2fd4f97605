use Rattle.life_rle.proofs.PlainHeader.{headers_are_plain}
use Rattle.life_rle.proofs.laws.headers_are_plain.Goals as goal

pub returns : goal.returns
returns c = headers_are_plain
