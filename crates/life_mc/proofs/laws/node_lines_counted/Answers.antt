use Rattle.life_base.specs.declared.cell.TheConstants.{MAX_LEVEL}
use Rattle.life_mc.proofs.NodeLines as law
use Rattle.life_mc.proofs.laws.node_lines_counted.Goals as goal

pub returns : goal.returns
returns c = law.node_lines_counted MAX_LEVEL
