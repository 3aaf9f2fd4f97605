use Rattle.std.proofs.Common.{arith}
use Rattle.std.proofs.lemmas.Grind.{common_steps}
use Rattle.life_base.proofs.rule_reading.life_form.Goals as goal

pub returns-in-47 : goal.returns-in-47
returns-in-47 c = grind (arith, common_steps)
