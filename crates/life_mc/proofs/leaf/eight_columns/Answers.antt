use Rattle.life_mc.proofs.WholeRows.{eight_marked}
use Rattle.life_mc.proofs.leaf.eight_columns.Goals as goal

pub returns : goal.returns
returns c = eight_marked c.args.text.now c.requires
