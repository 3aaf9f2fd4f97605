use Rattle.std.proofs.Common.{rules}
use Rattle.life_base.proofs.devices.DeviceSink.flush.Goals as goal

pub returns-in-Ok-clause-flushed : goal.returns-in-Ok-clause-flushed
returns-in-Ok-clause-flushed g c = search rules
