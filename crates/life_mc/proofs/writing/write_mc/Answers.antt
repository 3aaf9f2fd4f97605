use Rattle.std.proofs.Common.{rules}
use Rattle.life_mc.proofs.writing.write_mc.Goals as goal

pub returns-clause-ok : goal.returns-clause-ok
returns-clause-ok c = search rules
