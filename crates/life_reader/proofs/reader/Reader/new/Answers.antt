use Rattle.std.proofs.Common.{rules}
use Rattle.life_reader.proofs.reader.Reader.new.Goals as goal

pub returns-clause-spent : goal.returns-clause-spent
returns-clause-spent c = search rules
