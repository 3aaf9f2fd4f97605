use Rattle.life_phase_forms.proofs.SameLemmas.{keep-periods}
use Rattle.life_phase_forms.proofs.laws.courses_keep_periods.Goals as goal

pub returns : goal.returns
returns c = keep-periods
