use Rattle.life_reader.proofs.Adding.{prefixes_hold}
use Rattle.life_reader.proofs.laws.prefixes_hold.Goals as goal

pub returns : goal.returns
returns c = prefixes_hold
