use Rattle.life_block.proofs.LeafWordLemmas.{column-west}
use Rattle.life_block.proofs.leaf_words.one_column_west.Goals as goal

pub returns : goal.returns
returns c cells x y west here = column-west cells x y c.blend.result c.args.west c.args.here c.blend.ensures west here
