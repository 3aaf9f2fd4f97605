use Rattle.std.proofs.Common.{rules}
use Rattle.life_slide.proofs.margins.along.Goals as goal

pub returns-else-near-half-clause-far : goal.returns-else-near-half-clause-far
returns-else-near-half-clause-far c = search rules
