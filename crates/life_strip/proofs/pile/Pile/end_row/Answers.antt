use Rattle.std.proofs.Common.{◌∙◌, arith, refl, sym}
use Rattle.std.proofs.lemmas.Result.{on_ok_weaker}
use Rattle.life_quad.proofs.GrowsLemmas.{grows-as, grows-then, grows-err}
use Rattle.life_strip.proofs.NeededLemmas.{SomeSquare-same}
use Rattle.life_strip.proofs.RowLemmas.{with-blank}
use Rattle.life_strip.proofs.pile.Pile.end_row.Goals as goal

pub returns-then-is_empty-clause-picture : goal.returns-then-is_empty-clause-picture
returns-then-is_empty-clause-picture g c =
    let pile = c.args.self.now in
    let empty = c.is_empty.ensures in
    on_ok_weaker c.skip_rows.result
    (λ e i j. e i j ∙ sym (with-blank (g.S.Squares.content c.args.squares.now) pile.strips.items pile.band.items c.args.row
    (empty.blocks c.if-is_empty.true) (empty.spans c.if-is_empty.true) i j))
    c.skip_rows.ensures.picture

pub returns-then-is_empty-clause-grows : goal.returns-then-is_empty-clause-grows
returns-then-is_empty-clause-grows g c =
    let pile = c.args.self.now in
    let empty = c.is_empty.ensures in
    grows-as _ c.skip_rows.ensures.grows (λ P n.
    SomeSquare-same (omega arith) (λ i j.
    sym (with-blank (g.S.Squares.content c.args.squares.now) pile.strips.items pile.band.items c.args.row
    (empty.blocks c.if-is_empty.true) (empty.spans c.if-is_empty.true) i j)) n)

pub returns-clause-height : goal.returns-clause-height
returns-clause-height g c = on_ok_weaker c.skip_rows-2.result (λ e. e ∙ (omega (arith, c.in_ok-push_row.ensures.height))) c.skip_rows-2.ensures.height

pub returns-clause-picture : goal.returns-clause-picture
returns-clause-picture g c = on_ok_weaker c.skip_rows-2.result (λ e i j. e i j ∙ c.in_ok-push_row.ensures.picture i j) c.skip_rows-2.ensures.picture

pub returns-in_err-push_row-clause-grows : goal.returns-in_err-push_row-clause-grows
returns-in_err-push_row-clause-grows g c =
    grows-err _ c.in_err-push_row.ensures.grows c.from_residual.ensures.1 (λ P n. SomeSquare-same (omega arith) (λ i j. refl) n)

pub returns-clause-grows : goal.returns-clause-grows
returns-clause-grows g c =
    let row = c.in_ok-push_row.ensures in
    grows-then _ row.grows c.skip_rows-2.ensures.grows (λ P n. SomeSquare-same (omega arith) (λ i j. refl) n)
    (λ P n. SomeSquare-same (omega (arith, row.height)) (λ i j. row.picture i j) n)
