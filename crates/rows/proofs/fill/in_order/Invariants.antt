use Rattle.std.proofs.Common.{ℤ, []}
use Rattle.life_strip.specs.Given.{AreNext, IsAfterRun, IsNextRunStart}
use Rattle.rows.proofs.fill.in_order.Given as goal

abbrev pub invariant-loop-run : goal.invariant-loop-run
invariant-loop-run l = record {
  all : AreNext [] l.sorted.items;
  next : (x y : ℤ) → IsAfterRun l.last x y → IsNextRunStart l.sorted.items x y;
}
