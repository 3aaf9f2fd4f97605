use Rattle.std.proofs.Common.{ap, ◌∙◌, rules}
use Rattle.std.proofs.lemmas.Result.{IfOk-weaker}
use Rattle.life_rle.specs.declared.pen.Pen.{Pen}
use Rattle.life_rle.specs.declared.wrapping.ItemLines.{ItemLines}
use Rattle.life_rle.specs.Writer.{pen_text}
use Rattle.life_rle.proofs.TakeCells.{distance_is, from-first}
use Rattle.life_rle.proofs.pen.write_cells.Goals as goal

pub returns-clause-text : goal.returns-clause-text
returns-clause-text c =
    let rule = c.args.rule.now in
    let bounds = c.args.bounds in
    let first = c.args.first.now in
    let cells = c.args.cells.now in
    let gap = distance_is c.distance.result bounds.left first.x (search rules) (search rules) c.distance.ensures in
    let begun = c.behind-lines.ensures in
    IfOk-weaker c.finish.result _ _
    (λ text e. e ∙ ap (λ (pen : Pen). pen_text rule pen cells) c.new.ensures
    ∙ from-first rule bounds first cells c.args.text.items _ c.behind-lines.result c.put_gap.new.self c.requires.top gap
    (ap (λ (lines : ItemLines). lines.text.items) begun) (ap (λ (lines : ItemLines). lines.used) begun) c.in_ok-put_gap.ensures.gap)
    c.finish.ensures.text
