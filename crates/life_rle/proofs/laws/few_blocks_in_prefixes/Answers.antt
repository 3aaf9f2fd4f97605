use Rattle.life_rle.proofs.BlockPrefixes.{few_blocks_in_prefixes}
use Rattle.life_rle.proofs.laws.few_blocks_in_prefixes.Goals as goal

pub returns : goal.returns
returns c = few_blocks_in_prefixes
