use Rattle.std.proofs.Common.{rules}
use Rattle.life_rle.proofs.reading.file_of.Goals as goal

pub returns : goal.returns
returns c = search rules
