use Rattle.std.proofs.Common.{arith}
use Rattle.life_rle.proofs.RunEnds.{few_ends}
use Rattle.life_rle.proofs.line_items.reserve_runs.Goals as goal

pub returns-else-capacity-len-clause-space : goal.returns-else-capacity-len-clause-space
returns-else-capacity-len-clause-space c = omega (arith, few_ends c.args.line.now, c.capacity.ensures, c.len.ensures, c.if-capacity-len.false)
