use Rattle.std.proofs.Common.{arith, refl}
use Rattle.life_block.proofs.LeafWordLemmas.{eight-between}
use Rattle.life_block.proofs.leaf_words.one_row_south.Goals as goal

pub returns : goal.returns
returns c cells x y here below = eight-between cells x y c.args.here c.args.below 7 56 8 (omega arith) refl refl (omega arith) here below
