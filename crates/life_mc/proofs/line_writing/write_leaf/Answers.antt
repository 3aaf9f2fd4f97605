use Rattle.std.proofs.Common.{◌+◌, ◌∙◌, arith}
use Rattle.std.proofs.lemmas.Grind.{common_steps}
use Rattle.life_mc.proofs.LineSpace.{rest-kept}
use Rattle.life_mc.proofs.line_writing.write_leaf.Goals as goal

pub loop-row-preserved : goal.loop-row-preserved
loop-row-preserved c = record {
  within = omega (arith, c.loop-row.invariant.within, c.write_row-end.ensures.end);
  behind = rest-kept (c.loop-row.end + 9) (c.args.at + 105) _ _ (omega (arith, c.loop-row.invariant.within, c.loop-row-test.true))
      c.write_row-end.ensures.behind ∙ c.loop-row.invariant.behind;
  written = grind (arith, common_steps);
}
