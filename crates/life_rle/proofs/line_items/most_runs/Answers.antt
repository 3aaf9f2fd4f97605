use Rattle.life_rle.proofs.RunEnds.{few_ends}
use Rattle.life_rle.proofs.line_items.most_runs.Goals as goal

pub returns-then-line-le-LONG_LINE : goal.returns-then-line-le-LONG_LINE
returns-then-line-le-LONG_LINE c = few_ends c.args.line.now
