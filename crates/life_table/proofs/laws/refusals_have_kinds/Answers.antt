use Rattle.life_table.proofs.LineKinds as law
use Rattle.life_table.proofs.laws.refusals_have_kinds.Goals as goal

pub returns : goal.returns
returns c = law.refusals_have_kinds
