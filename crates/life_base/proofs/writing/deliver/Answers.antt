use Rattle.std.proofs.Common.{rules}
use Rattle.life_base.proofs.writing.deliver.Goals as goal

pub returns-clause-flushed : goal.returns-clause-flushed
returns-clause-flushed g c = search rules
