use Rattle.life_quad.proofs.SmallCells.{cells_named, no_cells}
use Rattle.life_quad.proofs.id.Id.cells.Goals as goal

pub returns-then-self : goal.returns-then-self
returns-then-self c = λ stored. no_cells stored c.args.self c.if-self.true

pub returns : goal.returns
returns c = λ stored. cells_named stored c.args.self c.if-self-lt-LEVEL_TWO.false c.if-self-ge-FIRST_NODE.false
