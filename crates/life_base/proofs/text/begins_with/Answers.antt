use Rattle.std.proofs.Common.{rules}
use Rattle.life_base.proofs.text.begins_with.Goals as goal

pub returns : goal.returns
returns c = search rules
