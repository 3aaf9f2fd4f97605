use Rattle.std.proofs.Common.{rules}
use Rattle.life_reader.proofs.prefix.FilePrefix.fault_here.Goals as goal

pub returns : goal.returns
returns c = search rules
