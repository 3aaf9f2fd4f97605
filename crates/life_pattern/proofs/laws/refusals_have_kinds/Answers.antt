use Rattle.life_base.specs.declared.cell.TheConstants.{MAX_LEVEL}
use Rattle.life_mc.proofs.LineKinds.{broken_kind}
use Rattle.life_rle.proofs.LineKinds.{Breaks-kind}
use Rattle.life_pattern.proofs.RefusalKinds.{refusal-kinds, refusal-line}
use Rattle.life_pattern.proofs.laws.refusals_have_kinds.Goals as goal

pub returns : goal.returns
returns c = λ lines fault h. (refusal-kinds MAX_LEVEL (broken_kind MAX_LEVEL) Breaks-kind lines fault h, refusal-line MAX_LEVEL lines fault h)
