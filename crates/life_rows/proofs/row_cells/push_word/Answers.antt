use Rattle.std.proofs.Common.{sym, subst}
use Rattle.life_rows.specs.RowCells.{AddsWord}
use Rattle.life_rows.proofs.RowWordLemmas.{adds-nothing, adds-some}
use Rattle.life_rows.proofs.row_cells.push_word.Goals as goal

pub returns-in_ok-push-clause-adds : goal.returns-in_ok-push-clause-adds
returns-in_ok-push-clause-adds c =
    let words = c.args.words.now.items in
    let r = c.requires in
    subst (λ z. AddsWord words z c.args.place c.args.cells) (sym c.in_ok-push.ensures.items)
    (adds-some words (record { place = c.args.place; cells = c.args.cells }) r.words r.before r.within)

pub returns-else-cells-ne0-clause-adds : goal.returns-else-cells-ne0-clause-adds
returns-else-cells-ne0-clause-adds c =
    let words = c.args.words.now.items in
    subst (AddsWord words words c.args.place) (sym c.if-cells-ne0.false) (adds-nothing words c.args.place c.requires.words c.requires.before)
