use Rattle.theorems.proofs.PatternLaw.{have_files}
use Rattle.theorems.proofs.laws.patterns_have_files.Goals as goal

pub returns : goal.returns
returns c = have_files c.texts_are_files.ensures
