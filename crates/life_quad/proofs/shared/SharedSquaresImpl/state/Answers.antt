use Rattle.std.proofs.Common.{rules}
use Rattle.life_quad.proofs.shared.SharedSquaresImpl.state.Goals as goal

pub returns : goal.returns
returns c = search rules
