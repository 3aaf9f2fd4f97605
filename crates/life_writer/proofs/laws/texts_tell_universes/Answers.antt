use Rattle.std.proofs.Common.{arith, lit≤, lit<}
use Rattle.life_writer.proofs.TextLaws as law
use Rattle.life_pattern.proofs.TreeWords.{below_top}
use Rattle.life_writer.proofs.laws.texts_tell_universes.Goals as goal

pub returns : goal.returns
returns c = law.texts_tell_universes below_top (omega arith) (lit< tt) (lit≤ tt)
