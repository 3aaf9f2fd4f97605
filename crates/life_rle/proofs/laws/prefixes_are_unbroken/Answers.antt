use Rattle.life_rle.proofs.FormatLaws.{prefixes_are_unbroken}
use Rattle.life_rle.proofs.laws.prefixes_are_unbroken.Goals as goal

pub returns : goal.returns
returns c = prefixes_are_unbroken
