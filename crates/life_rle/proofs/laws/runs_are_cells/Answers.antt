use Rattle.life_rle.proofs.RunsLaws.{runs_are_cells}
use Rattle.life_rle.proofs.laws.runs_are_cells.Goals as goal

pub returns : goal.returns
returns c = runs_are_cells
