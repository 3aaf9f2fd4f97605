use Rattle.std.proofs.Common.{rules}
use Rattle.life_quad.proofs.shared.Shared.limit.Goals as goal

pub returns : goal.returns
returns c = search rules
