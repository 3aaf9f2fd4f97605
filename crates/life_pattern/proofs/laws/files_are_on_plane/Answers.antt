use Rattle.std.proofs.Common.{arith}
use Rattle.life_pattern.proofs.FileLaws as law
use Rattle.life_pattern.proofs.TreeWords.{below_top}
use Rattle.life_pattern.proofs.laws.files_are_on_plane.Goals as goal

pub returns : goal.returns
returns c = law.files_are_on_plane below_top (omega arith)
