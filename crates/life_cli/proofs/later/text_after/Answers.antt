use Rattle.std.proofs.Common.{arith}
use Rattle.life_cli.proofs.WorkLemmas.{steps_more}
use Rattle.life_cli.proofs.later.text_after.Goals as goal

pub loop-made-preserved : goal.loop-made-preserved
loop-made-preserved c =
    let below = c.loop-made-test.true in
    let step = rw c.as_slice.ensures.value at c.in-Ok.ensures.ok in
    record {
      within = omega (arith, below);
      stepped = λ file is.
          steps_more c.args.table.now c.loop-made.made file c.loop-made.now.items c.in-Ok.next.items (c.loop-made.invariant.stepped file is) step;
    }
