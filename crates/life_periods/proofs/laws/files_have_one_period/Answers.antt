use Rattle.life_periods.proofs.FileFacts.{one-period}
use Rattle.life_periods.proofs.laws.files_have_one_period.Goals as goal

pub returns : goal.returns
returns c = one-period c.files_are_on_plane.ensures c.files_are_unique.ensures
