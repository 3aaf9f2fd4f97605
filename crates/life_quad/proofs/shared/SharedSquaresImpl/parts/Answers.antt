use Rattle.std.proofs.Common.{rules}
use Rattle.life_quad.proofs.shared.SharedSquaresImpl.parts.Goals as goal

pub returns : goal.returns
returns c = search rules
