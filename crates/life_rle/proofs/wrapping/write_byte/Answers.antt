use Rattle.life_rle.proofs.ItemSpace.{space-byte}
use Rattle.life_rle.proofs.wrapping.write_byte.Goals as goal

pub returns-clause-written : goal.returns-clause-written
returns-clause-written c = space-byte c.args.space.now c.args.byte c.told-space
