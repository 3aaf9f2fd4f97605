use Rattle.std.proofs.Common.{rules}
use Rattle.life_base.proofs.fault.Fault.at.Goals as goal

pub returns-in-Full : goal.returns-in-Full
returns-in-Full c = search rules

pub returns-in_default : goal.returns-in_default
returns-in_default c = search rules
