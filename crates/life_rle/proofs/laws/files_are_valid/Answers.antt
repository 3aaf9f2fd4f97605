use Rattle.life_rle.proofs.ValidFiles.{files_are_valid}
use Rattle.life_rle.proofs.laws.files_are_valid.Goals as goal

pub returns : goal.returns
returns c = files_are_valid
