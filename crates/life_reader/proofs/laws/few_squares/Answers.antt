use Rattle.life_reader.proofs.SpaceLaw.{few_squares}
use Rattle.life_reader.proofs.laws.few_squares.Goals as goal

pub returns : goal.returns
returns c = few_squares
