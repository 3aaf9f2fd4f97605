use Rattle.life_base.specs.declared.cell.TheConstants.{MAX_LEVEL}
use Rattle.life_mc.proofs.LineKinds as law
use Rattle.life_mc.proofs.laws.lines_break_by_kinds.Goals as goal

pub returns : goal.returns
returns c = law.broken_kind MAX_LEVEL
