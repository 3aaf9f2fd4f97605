use Rattle.std.proofs.Common.{rules}
use Rattle.life_reader.proofs.runs.read_from.Goals as goal

pub returns-clause-reads : goal.returns-clause-reads
returns-clause-reads g c = search rules
