use Rattle.std.proofs.Common.{ap, arith, length, pow_pos}
use Rattle.life_table.specs.Taking.{free_count}
use Rattle.life_table.proofs.Free.{each_free}
use Rattle.life_table.proofs.groups.free_after.Goals as goal

pub loop-entry-init : goal.loop-entry-init
loop-entry-init c = record {
  below = omega (arith, c.all_free-free.ensures, pow_pos (length c.args.states.now));
  counts = λ t. let a = ap (λ n. free_count t n c.args.states.now) c.all_free-free.ensures in let b = each_free t c.args.states.now in omega (arith, a, b);
}
