use Rattle.std.proofs.Common.{rules}
use Rattle.life_base.proofs.kind.KindFromAllocError.from.Goals as goal

pub returns : goal.returns
returns c = search rules
