use Rattle.life_rle.proofs.RunsLaws.{blank_outside}
use Rattle.life_rle.proofs.laws.blank_outside.Goals as goal

pub returns : goal.returns
returns c = blank_outside
