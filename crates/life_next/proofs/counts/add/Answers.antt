use Rattle.life_next.proofs.WordLemmas.{sum-digits}
use Rattle.life_next.proofs.counts.add.Goals as goal

pub returns : goal.returns
returns c i = sum-digits c.args.a c.args.b c.args.c i
