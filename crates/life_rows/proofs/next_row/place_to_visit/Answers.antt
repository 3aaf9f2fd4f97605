use Rattle.std.proofs.Common.{◌≡◌, min, ◌∙◌, ap, arith}
use Rattle.life_rows.specs.RowCells.{place_ahead}
use Rattle.life_rows.proofs.NextRowLemmas.{visit-here, visit-next, visit-none}
use Rattle.life_rows.proofs.next_row.place_to_visit.Goals as goal
use Rattle.life_rows.proofs.next_row.place_to_visit.Goals.{After-min-next}

pub returns-then-has_cells : goal.returns-then-has_cells
returns-then-has_cells c =
    let r = c.requires in
    visit-here c.args.north.now c.args.here.now c.args.south.now r.north r.here r.south c.args.at c.args.place r.at r.within
    (c.has_cells.ensures.some c.if-has_cells.true)

-- the place of the next word of the three rows
first : (c : After-min-next) → c.min-next.result
    ≡ min (min (place_ahead c.args.north.now c.args.at.before.passed) (place_ahead c.args.here.now c.args.at.here.passed))
    (place_ahead c.args.south.now c.args.at.after.passed)
first c =
    c.min-next.ensures
    ∙ ap (λ z. min z c.next_place-3.result) (c.min.ensures ∙ ap (λ z. min z c.next_place-2.result) c.next_place.ensures
    ∙ ap (min (place_ahead c.args.north.now c.args.at.before.passed)) c.next_place-2.ensures)
    ∙ ap (min (min (place_ahead c.args.north.now c.args.at.before.passed) (place_ahead c.args.here.now c.args.at.here.passed))) c.next_place-3.ensures

pub returns-then-next : goal.returns-then-next
returns-then-next c =
    let r = c.requires in
    visit-none c.args.north.now c.args.here.now c.args.south.now r.north r.here r.south c.args.at c.args.place r.at
    (c.has_cells.ensures.none c.if-has_cells.false) c.min-next.result (first (goal.at.returns-then-next c).After-min-next) c.if-next.true

pub returns : goal.returns
returns c =
    let r = c.requires in
    visit-next c.args.north.now c.args.here.now c.args.south.now r.north r.here r.south c.args.at c.args.place r.at
    (c.has_cells.ensures.none c.if-has_cells.false) c.min-next.result (first (goal.at.returns c).After-min-next) r.within
    (omega (arith, c.if-next.false))
