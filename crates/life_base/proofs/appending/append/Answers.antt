use Rattle.std.proofs.Common.{rules}
use Rattle.life_base.proofs.appending.append.Goals as goal

pub returns-clause-ok : goal.returns-clause-ok
returns-clause-ok c = search rules
