use Rattle.life_rle.proofs.wrapping.ItemLines.put_run.Goals as goal

pub returns-in-Some-clause-run : goal.returns-in-Some-clause-run
returns-in-Some-clause-run c = c.put_short_run.ensures.run c.args.state c.in-Some.ensures
