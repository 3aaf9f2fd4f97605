use Rattle.life_generations.proofs.LawFacts.{one-is-step}
use Rattle.life_generations.proofs.laws.one_generation_is_step.Goals as goal

pub returns : goal.returns
returns c = one-is-step c.files_are_on_plane.ensures
