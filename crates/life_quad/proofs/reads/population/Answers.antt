use Rattle.std.proofs.Common.{rules}
use Rattle.life_quad.proofs.reads.population.Goals as goal

pub returns-clause-number : goal.returns-clause-number
returns-clause-number g c = search rules
