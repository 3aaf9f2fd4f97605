use Rattle.life_strip.proofs.BlockLemmas.{bits-shifted}
use Rattle.life_strip.proofs.blocks.bits_of_columns.Goals as goal

pub returns : goal.returns
returns c = bits-shifted c.args.from c.args.count c.requires.within
