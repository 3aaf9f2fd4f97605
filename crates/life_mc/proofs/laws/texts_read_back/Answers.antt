use Rattle.std.proofs.Common.{arith}
use Rattle.life_base.specs.declared.cell.TheConstants.{MAX_LEVEL}
use Rattle.life_mc.proofs.TextBack as law
use Rattle.life_mc.proofs.laws.texts_read_back.Goals as goal

pub returns : goal.returns
returns c = law.texts_read_back MAX_LEVEL (omega arith)
