use Rattle.theorems.proofs.PatternLaw.{files_fit}
use Rattle.theorems.proofs.laws.patterns_of_files_fit.Goals as goal

pub returns : goal.returns
returns c = files_fit c.files_are_on_plane.ensures
