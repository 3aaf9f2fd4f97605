use Rattle.std.proofs.Common.{arith}
use Rattle.life_pattern.proofs.FileLaws as law
use Rattle.life_pattern.proofs.TreeWords.{below_top}
use Rattle.life_pattern.proofs.laws.blank_outside.Goals as goal

pub returns : goal.returns
returns c = law.blank_outside below_top (omega arith)
