use Rattle.life_base.proofs.WholeLines as law
use Rattle.life_base.proofs.laws.lines_continue.Goals as goal

pub returns : goal.returns
returns c = law.lines_continue
