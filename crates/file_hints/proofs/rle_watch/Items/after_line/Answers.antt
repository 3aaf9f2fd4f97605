use Rattle.std.proofs.Common.{ℕ, List, ◌++◌, ◌∷◌, ◌+◌, take, drop, ap, sym, ◌∙◌}
use Rattle.life_base.proofs.LineEnds.{all_behind}
use Rattle.file_hints.specs.Damage.{warning_after_mark}
use Rattle.file_hints.proofs.Watching.{mark_passed}
use Rattle.file_hints.proofs.rle_watch.Items.after_line.Goals as goal

pub returns : goal.returns
returns c = λ rest lines.
    let text = c.args.text.now in
    let end = c.in-Some.end in
    c.after_text.ensures rest lines ∙ ap (λ (t : List ℕ). warning_after_mark ((t ++ rest) ∷ lines)) (all_behind text (end + 1))
    ∙ mark_passed c.args.self c.after_items-items.result text (take end text) (drop (end + 1) text) rest lines c.in-Some.ensures.some.cut
    c.after_items-items.ensures (sym c.lacks_cells.ensures ∙ c.if-lacks_cells.false)
