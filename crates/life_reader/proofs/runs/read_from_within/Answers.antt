use Rattle.std.proofs.Common.{rules}
use Rattle.life_reader.proofs.runs.read_from_within.Goals as goal

pub returns-then-expected-clause-reads : goal.returns-then-expected-clause-reads
returns-then-expected-clause-reads g c = search rules
