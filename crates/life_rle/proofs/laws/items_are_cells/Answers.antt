use Rattle.life_rle.proofs.ItemsLaws.{items_are_cells}
use Rattle.life_rle.proofs.laws.items_are_cells.Goals as goal

pub returns : goal.returns
returns c = items_are_cells
