use Rattle.life_strip.proofs.GivenLemmas.{runs_grow}
use Rattle.life_strip.proofs.laws.runs_grow.Goals as goal

pub returns : goal.returns
returns c = runs_grow
