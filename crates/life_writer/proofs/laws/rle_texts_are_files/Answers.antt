use Rattle.life_base.proofs.ReadBack.{rules_read_back}
use Rattle.life_rle.proofs.StatesRead.{states-read}
use Rattle.life_rle.proofs.TextBack.{text-back}
use Rattle.life_writer.proofs.TextFacts as law
use Rattle.life_writer.proofs.laws.rle_texts_are_files.Goals as goal

pub returns : goal.returns
returns c = law.rle_texts_are_files (text-back states-read rules_read_back)
