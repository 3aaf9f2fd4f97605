use Rattle.life_pieces.proofs.LeafWordLemmas.{blended}
use Rattle.life_block.proofs.leaf_words.blend.Goals as goal

pub returns : goal.returns
returns c i l = blended c.args.mask c.args.ones c.args.zeros i c.ranges.mask.fits l
