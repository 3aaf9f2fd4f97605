use Rattle.life_rle.proofs.LineKinds.{Breaks-kind}
use Rattle.life_rle.proofs.laws.lines_break_by_kinds.Goals as goal

pub returns : goal.returns
returns c = Breaks-kind
