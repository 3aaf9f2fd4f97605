use Rattle.std.proofs.Common.{rules}
use Rattle.life_base.proofs.devices.Device.new.Goals as goal

pub returns-clause-fresh : goal.returns-clause-fresh
returns-clause-fresh g c = search rules
