use Rattle.life_base.specs.declared.cell.TheConstants.{MAX_LEVEL}
use Rattle.life_mc.proofs.LineKinds as law
use Rattle.life_mc.proofs.laws.long_lines_break.Goals as goal

pub returns : goal.returns
returns c = law.long_lines_break MAX_LEVEL
