use Rattle.std.proofs.Common.{arith}
use Rattle.life_quad.proofs.CallLemmas.{square_of-state}
use Rattle.life_quad.proofs.id.Id.of_cell.Goals as goal

pub returns-clause-square : goal.returns-clause-square
returns-clause-square c = λ s. square_of-state _ _ (let f = c.ranges.state in omega arith)
