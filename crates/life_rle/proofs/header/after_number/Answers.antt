use Rattle.std.proofs.Common.{◌∙◌, ap}
use Rattle.life_base.specs.Text.{trim_start}
use Rattle.life_base.proofs.LineEnds.{all_behind}
use Rattle.life_rle.proofs.PrefixDigits.{after_number-some}
use Rattle.life_rle.proofs.header.after_number.Goals as goal

pub returns : goal.returns
returns c =
    after_number-some c.args.bytes.now c.trimmed_start.result.now c.leading_number-count.result.1 c.leading_number-count.ensures.count c.if-count-eq0.false
    (c.trimmed_start.ensures ∙ ap trim_start (all_behind c.args.bytes.now c.leading_number-count.result.1))
