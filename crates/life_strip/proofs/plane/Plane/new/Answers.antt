use Rattle.std.proofs.Common.{rules}
use Rattle.life_strip.proofs.plane.Plane.new.Goals as goal

pub returns : goal.returns
returns c = search rules
