use Rattle.std.proofs.Common.{rules}
use Rattle.life_reader.proofs.prefix.FilePrefix.next_end.Goals as goal

pub returns-else-is_over-clause-end : goal.returns-else-is_over-clause-end
returns-else-is_over-clause-end c = search rules
