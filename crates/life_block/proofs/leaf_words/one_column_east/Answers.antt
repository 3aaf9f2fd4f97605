use Rattle.life_block.proofs.LeafWordLemmas.{column-east}
use Rattle.life_block.proofs.leaf_words.one_column_east.Goals as goal

pub returns : goal.returns
returns c cells x y here east = column-east cells x y c.blend.result c.args.here c.args.east c.blend.ensures here east
