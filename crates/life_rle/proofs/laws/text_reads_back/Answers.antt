use Rattle.life_base.proofs.ReadBack.{rules_read_back}
use Rattle.life_rle.proofs.TextBack.{text-back}
use Rattle.life_rle.proofs.StatesRead.{states-read}
use Rattle.life_rle.proofs.laws.text_reads_back.Goals as goal

pub returns : goal.returns
returns c = text-back states-read rules_read_back
