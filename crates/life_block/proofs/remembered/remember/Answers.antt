use Rattle.life_block.proofs.RememberedLemmas.{put-nine}
use Rattle.life_block.proofs.remembered.remember.Goals as goal

pub returns : goal.returns
returns c = put-nine c.ids.ensures c.put.ensures
