use Rattle.life_base.specs.declared.cell.TheConstants.{MAX_LEVEL}
use Rattle.life_pattern.proofs.Formats as law
use Rattle.life_pattern.proofs.laws.formats_differ.Goals as goal

pub returns : goal.returns
returns c = law.formats_differ MAX_LEVEL
