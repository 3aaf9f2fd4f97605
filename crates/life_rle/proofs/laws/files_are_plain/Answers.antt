use Rattle.life_rle.proofs.PlainFiles.{files_are_plain}
use Rattle.life_rle.proofs.laws.files_are_plain.Goals as goal

pub returns : goal.returns
returns c = files_are_plain
