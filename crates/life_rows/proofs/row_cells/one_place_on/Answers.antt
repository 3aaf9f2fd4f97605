use Rattle.std.proofs.Common.{arith, sym, ◌∙◌}
use Rattle.life_rows.proofs.RowWordLemmas.{at-gap, at-word}
use Rattle.life_rows.proofs.row_cells.one_place_on.Goals as goal

pub returns-then-next_place-place : goal.returns-then-next_place-place
returns-then-next_place-place c =
    let r = c.requires in
    at-word c.args.words.now r.words c.args.place c.args.at r.at _ (sym c.next_place.ensures ∙ c.if-next_place-place.true) (omega (arith, r.within))

pub returns : goal.returns
returns c =
    let r = c.requires in
    at-gap c.args.words.now r.words c.args.place c.args.at r.at (λ e. c.if-next_place-place.false (c.next_place.ensures ∙ e))
