use Rattle.std.proofs.Common.{rules}
use Rattle.life_base.proofs.devices.DeviceSink.write.Goals as goal

pub returns-else-count-eq0-clause-bytes : goal.returns-else-count-eq0-clause-bytes
returns-else-count-eq0-clause-bytes g c = search rules
