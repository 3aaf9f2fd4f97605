use Rattle.life_pattern.proofs.CentredFacts.{centred-squares-tell-cells}
use Rattle.life_pattern.proofs.laws.centred_squares_tell_cells.Goals as goal

pub returns : goal.returns
returns c = centred-squares-tell-cells
