use Rattle.life_rle.proofs.ItemSpace.{space-pair}
use Rattle.life_rle.proofs.wrapping.write_pair.Goals as goal

pub returns-clause-written : goal.returns-clause-written
returns-clause-written c = space-pair c.args.space.now c.args.prefix c.args.letter c.told-space
