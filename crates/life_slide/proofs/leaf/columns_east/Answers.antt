use Rattle.std.proofs.Common.{arith}
use Rattle.life_pieces.proofs.LeafWordLemmas.{blended}
use Rattle.life_slide.proofs.LeafLemmas.{columns-ahead}
use Rattle.life_slide.proofs.leaf.columns_east.Goals as goal

pub returns : goal.returns
returns c cells x y here east =
    columns-ahead cells x y c.args.here c.args.east c.args.columns c.requires here c.columns_but-mask.result _ c.columns_but-mask.ensures
    (λ p l. blended c.columns_but-mask.result _ _ p (omega arith) l) east
