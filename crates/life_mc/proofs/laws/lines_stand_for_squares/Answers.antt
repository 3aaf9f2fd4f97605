use Rattle.life_base.specs.declared.cell.TheConstants.{MAX_LEVEL}
use Rattle.life_mc.proofs.Squares as law
use Rattle.life_mc.proofs.laws.lines_stand_for_squares.Goals as goal

pub returns : goal.returns
returns c = law.lines_stand_for_squares MAX_LEVEL
