use Rattle.life_rle.proofs.LongestRuns.{runs_are_longest}
use Rattle.life_rle.proofs.laws.runs_are_longest.Goals as goal

pub returns : goal.returns
returns c = runs_are_longest
