use Rattle.life_phases.proofs.ShiftLemmas.{after-moves}
use Rattle.life_phases.proofs.laws.generations_keep_shifts.Goals as goal

pub returns : goal.returns
returns c = after-moves
