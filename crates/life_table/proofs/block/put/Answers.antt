use Rattle.life_table.proofs.Indexing.{bits_put, bits_stay}
use Rattle.life_table.proofs.block.put.Goals as goal

pub returns-clause-put : goal.returns-clause-put
returns-clause-put c = λ k h. bits_put c.args.sets.now c.args.i c.args.lines k c.requires h

pub returns-clause-stay : goal.returns-clause-stay
returns-clause-stay c = bits_stay c.args.sets.now c.args.i c.args.lines c.requires
