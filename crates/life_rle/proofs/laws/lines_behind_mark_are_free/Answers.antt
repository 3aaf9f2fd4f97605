use Rattle.life_rle.proofs.PrefixLaws.{lines_behind_mark_are_free}
use Rattle.life_rle.proofs.laws.lines_behind_mark_are_free.Goals as goal

pub returns : goal.returns
returns c = lines_behind_mark_are_free
