use Rattle.life_phase_forms.proofs.TurnLemmas.{generations-turned}
use Rattle.life_phase_forms.proofs.laws.generations_keep_turns.Goals as goal

pub returns : goal.returns
returns c = generations-turned
