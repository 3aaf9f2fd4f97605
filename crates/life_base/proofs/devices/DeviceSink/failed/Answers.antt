use Rattle.std.proofs.Common.{rules}
use Rattle.life_base.proofs.devices.DeviceSink.failed.Goals as goal

pub returns : goal.returns
returns g c = search rules
