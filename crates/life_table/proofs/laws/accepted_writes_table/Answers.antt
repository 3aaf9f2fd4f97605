use Rattle.life_table.proofs.Accepted.{accepted}
use Rattle.life_table.proofs.laws.accepted_writes_table.Goals as goal

pub returns : goal.returns
returns c = accepted
