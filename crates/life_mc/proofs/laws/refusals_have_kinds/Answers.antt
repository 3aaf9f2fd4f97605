use Rattle.life_base.specs.declared.cell.TheConstants.{MAX_LEVEL}
use Rattle.life_mc.proofs.LineKinds as law
use Rattle.life_mc.proofs.laws.refusals_have_kinds.Goals as goal

pub returns : goal.returns
returns c = law.refusals_have_kinds MAX_LEVEL
