use Rattle.std.proofs.Common.{arith, length, refl, sym, ◌∙◌, ap, subst}
use Rattle.life_quad.proofs.GrowsLemmas.{grows-err, grows-ok}
use Rattle.life_strip.specs.Picture.{picture, height, AreStacked}
use Rattle.life_strip.specs.Row.{state_with_rows}
use Rattle.life_strip.proofs.NeededLemmas.{SomeSquare-same}
use Rattle.life_strip.proofs.BandPictures.{band-over}
use Rattle.life_strip.proofs.RowLemmas.{with-none}
use Rattle.life_strip.proofs.pile.Pile.whole_plane.Goals as goal

pub end_row-requires-clause-pile : goal.end_row-requires-clause-pile
end_row-requires-clause-pile g c = c.requires.pile

pub end_row-requires-clause-row : goal.end_row-requires-clause-row
end_row-requires-clause-row g c = c.requires.row

pub end_row-requires-clause-space : goal.end_row-requires-clause-space
end_row-requires-clause-space g c = omega (arith, c.requires.whole)

pub whole-requires-clause-strips : goal.whole-requires-clause-strips
whole-requires-clause-strips g c =
    subst (AreStacked (g.S.Squares.knows c.end_row.new.squares) (g.S.Squares.content c.end_row.new.squares)) (sym c.as_slice.ensures.value)
    c.in_ok-end_row.ensures.pile.strips

pub whole-requires-clause-full : goal.whole-requires-clause-full
whole-requires-clause-full g c =
    let r = c.in_ok-end_row.ensures in
    let none = ap length (band-over c.end_row.new.self r.pile.lowest r.pile.few (r.height ∙ c.requires.whole)) in
    ap height c.as_slice.ensures.value ∙ (omega (arith, none, r.height, c.requires.whole))

pub returns-clause-cells : goal.returns-clause-cells
returns-clause-cells g c i j li lj =
    let C = g.S.Squares.content c.end_row.new.squares in
    let r = c.in_ok-end_row.ensures in
    let strips = c.end_row.new.self.strips.items in
    let none = band-over c.end_row.new.self r.pile.lowest r.pile.few (r.height ∙ c.requires.whole) in
    c.whole.ensures.cells i j li lj ∙ ap (λ z. picture C z i j) c.as_slice.ensures.value ∙ sym (with-none C strips i j)
    ∙ ap (λ z. state_with_rows C strips z i j) (sym none) ∙ r.picture i j

pub returns-in_err-end_row-clause-grows : goal.returns-in_err-end_row-clause-grows
returns-in_err-end_row-clause-grows g c =
    grows-err _ c.in_err-end_row.ensures.grows c.from_residual.ensures.1
    (λ P n. SomeSquare-same (omega (arith, c.requires.whole)) (λ i j. refl) n)

pub returns-clause-grows : goal.returns-clause-grows
returns-clause-grows g c =
    grows-ok _ c.in_ok-end_row.ensures.grows (λ P n. SomeSquare-same (omega (arith, c.requires.whole)) (λ i j. refl) n)
