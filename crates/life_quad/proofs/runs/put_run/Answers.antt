use Rattle.std.proofs.Common.{rules}
use Rattle.life_quad.proofs.runs.put_run.Goals as goal

pub returns : goal.returns
returns g c = search rules
