use Rattle.life_phases.proofs.ShiftLemmas.{periods-moved}
use Rattle.life_phases.proofs.laws.shifts_keep_periods.Goals as goal

pub returns : goal.returns
returns c = periods-moved
