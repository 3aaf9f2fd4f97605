use Rattle.life_base.proofs.NumberedLines as law
use Rattle.life_base.proofs.laws.lines_are_numbered.Goals as goal

pub returns : goal.returns
returns c = law.lines_are_numbered
