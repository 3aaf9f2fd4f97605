use Rattle.std.proofs.Common.{rules}
use Rattle.life_table.proofs.reading.read_table.Goals as goal

pub returns-clause-err : goal.returns-clause-err
returns-clause-err c = search rules
