use Rattle.std.proofs.Common.{rules}
use Rattle.life_quad.proofs.plain.PlainSquares.parts.Goals as goal

pub returns : goal.returns
returns c = search rules
