use Rattle.life_table.proofs.LineKinds as law
use Rattle.life_table.proofs.laws.lines_break_by_kinds.Goals as goal

pub returns : goal.returns
returns c = law.lines_break_by_kinds
