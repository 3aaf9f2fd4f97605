use Rattle.std.proofs.Common.{arith}
use Rattle.std.proofs.lemmas.Grind.{common_steps}
use Rattle.life_base.proofs.text.read_i64.Goals as goal

pub returns-in_ok-read_up_to-in-45 : goal.returns-in_ok-read_up_to-in-45
returns-in_ok-read_up_to-in-45 c = grind (arith, common_steps)
