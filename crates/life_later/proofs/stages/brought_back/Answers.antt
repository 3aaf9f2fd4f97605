use Rattle.std.proofs.Common.{◌∙◌}
use Rattle.life_later.proofs.StageLemmas.{copy-same}
use Rattle.life_later.proofs.stages.brought_back.Goals as goal

pub returns-clause-square : goal.returns-clause-square
returns-clause-square c = c.in_ok-copy.ensures.square ∙ copy-same _
