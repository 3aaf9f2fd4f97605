use Rattle.std.proofs.Common.{rules}
use Rattle.life_pattern.proofs.pattern.are_same.Goals as goal

pub returns-then-a-b : goal.returns-then-a-b
returns-then-a-b c = search rules
