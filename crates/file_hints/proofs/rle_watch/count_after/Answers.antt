use Rattle.std.proofs.Common.{ap, ◌∙◌, arith}
use Rattle.life_base.proofs.LineEnds.{all_behind}
use Rattle.file_hints.specs.Damage.{number_from}
use Rattle.file_hints.proofs.Counts.{count_whole, count_rest}
use Rattle.file_hints.proofs.rle_watch.count_after.Goals as goal

pub returns-then-start-eq0 : goal.returns-then-start-eq0
returns-then-start-eq0 c =
    c.number_from.ensures ∙ count_whole c.args.count c.args.text.now (omega (arith, c.digits_start-start.ensures.place, c.if-start-eq0.true))

pub returns : goal.returns
returns c =
    c.number_from-2.ensures ∙ ap (number_from 0) (all_behind c.args.text.now c.digits_start-start.result)
    ∙ count_rest c.args.count c.args.text.now c.digits_start-start.result c.digits_start-start.ensures.place (omega (arith, c.if-start-eq0.false))
