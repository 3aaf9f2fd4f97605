use Rattle.life_strip.proofs.GivenLemmas.{runs-apart}
use Rattle.life_strip.proofs.laws.runs_are_apart.Goals as goal

pub returns : goal.returns
returns c = runs-apart
