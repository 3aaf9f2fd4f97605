use Rattle.std.proofs.Common.{rules}
use Rattle.life_rle.proofs.sorted.rises.Goals as goal

pub returns-then-first-second-2 : goal.returns-then-first-second-2
returns-then-first-second-2 c = search rules
