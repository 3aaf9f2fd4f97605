use Rattle.std.proofs.Common.{rules}
use Rattle.life_mc.proofs.lines.Kept.rule_and_generation.Goals as goal

pub returns-then-self : goal.returns-then-self
returns-then-self c = search rules
