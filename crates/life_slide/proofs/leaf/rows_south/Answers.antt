use Rattle.std.proofs.Common.{arith}
use Rattle.life_slide.proofs.LeafLemmas.{rows-ahead}
use Rattle.life_slide.proofs.leaf.rows_south.Goals as goal

pub returns : goal.returns
returns c cells x y here below = rows-ahead cells x y c.args.here c.args.below c.args.rows c.requires here (omega arith) below
