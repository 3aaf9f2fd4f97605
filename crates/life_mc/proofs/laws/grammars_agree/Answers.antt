use Rattle.life_base.specs.declared.cell.TheConstants.{MAX_LEVEL}
use Rattle.life_mc.proofs.Grammars as law
use Rattle.life_mc.proofs.laws.grammars_agree.Goals as goal

pub returns : goal.returns
returns c = law.grammars_agree MAX_LEVEL
