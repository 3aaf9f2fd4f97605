use Rattle.std.proofs.Common.{rules}
use Rattle.life_quad.proofs.plain.PlainSquares.cell.Goals as goal

pub returns-clause-square : goal.returns-clause-square
returns-clause-square c = search rules
