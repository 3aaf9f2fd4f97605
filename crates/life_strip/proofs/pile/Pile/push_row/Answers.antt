use Rattle.std.proofs.Common.{List, length-append, ◌≡◌, ◌++◌, ◌∷◌, [], length, All, arith, rules, refl, sym, ◌∙◌, ap, subst}
use Rattle.std.proofs.lemmas.List.Elements.{All-push}
use Rattle.std.proofs.lemmas.Result.{on_ok_weaker}
use Rattle.life_quad.proofs.GrowsLemmas.{grows-as, grows-same}
use Rattle.life_strip.specs.declared.row.Row.{Row}
use Rattle.life_strip.specs.Row.{IsRow, state_with_rows}
use Rattle.life_strip.proofs.NeededLemmas.{SomeSquare-same}
use Rattle.life_strip.proofs.BandPictures.{lowest-more, pile-alone}
use Rattle.life_strip.proofs.RowLemmas.{with-none}
use Rattle.life_strip.proofs.pile.Pile.push_row.Goals as goal

-- what holds of all rows of the band and of this one
all-push : (P : Row → Type 0) (ys zs : List Row) (row : Row) → zs ≡ ys ++ row ∷ [] → All P ys → P row → All P zs
all-push P ys zs row e h p = subst (All P) (sym e) (All-push P ys row h p)

pub returns-then-len-lt4-clause-pile : goal.returns-then-len-lt4-clause-pile
returns-then-len-lt4-clause-pile g c =
    let pile = c.requires.pile in
    let ys = c.args.self.now.band.items in
    let zs = c.push.new.self.items in
    let items = c.in_ok-push.ensures.items in
    record {
      strips = pile.strips;
      lowest = pile.lowest;
      rows = all-push (IsRow (g.S.Squares.knows c.args.squares.now) (g.S.Squares.content c.args.squares.now)) ys zs c.args.row items pile.rows c.requires.row;
      few = omega (arith, c.len.ensures, c.if-len-lt4.true);
    }

pub returns-then-len-lt4-clause-height : goal.returns-then-len-lt4-clause-height
returns-then-len-lt4-clause-height g c =
    let n = ap length c.in_ok-push.ensures.items ∙ length-append c.args.self.now.band.items (c.args.row ∷ []) in
    omega (arith, n)

pub returns-then-len-lt4-clause-picture : goal.returns-then-len-lt4-clause-picture
returns-then-len-lt4-clause-picture g c i j =
    ap (λ z. state_with_rows (g.S.Squares.content c.args.squares.now) c.args.self.now.strips.items z i j) c.in_ok-push.ensures.items

pub close_band-requires-clause-strips : goal.close_band-requires-clause-strips
close_band-requires-clause-strips g c = c.requires.pile.strips

pub close_band-requires-clause-lowest : goal.close_band-requires-clause-lowest
close_band-requires-clause-lowest g c = c.requires.pile.lowest

pub close_band-requires-clause-rows : goal.close_band-requires-clause-rows
close_band-requires-clause-rows g c =
    all-push (IsRow (g.S.Squares.knows c.args.squares.now) (g.S.Squares.content c.args.squares.now)) c.args.self.now.band.items c.push.new.self.items
    c.args.row c.in_ok-push.ensures.items c.requires.pile.rows c.requires.row

pub close_band-requires-clause-whole : goal.close_band-requires-clause-whole
close_band-requires-clause-whole g c =
    let n = ap length c.in_ok-push.ensures.items ∙ length-append c.args.self.now.band.items (c.args.row ∷ []) in
    omega (arith, n, c.len.ensures, c.if-len-lt4.false, c.requires.pile.few)

pub close_band-requires-clause-space : goal.close_band-requires-clause-space
close_band-requires-clause-space g c =
    let n = ap length c.in_ok-push.ensures.items ∙ length-append c.args.self.now.band.items (c.args.row ∷ []) in
    omega (arith, n, c.requires.space)

pub returns-clause-pile : goal.returns-clause-pile
returns-clause-pile g c =
    let xs = c.args.self.now.strips.items in
    let n = ap length c.in_ok-push.ensures.items ∙ length-append c.args.self.now.band.items (c.args.row ∷ []) in
    on_ok_weaker c.close_band.result
    (λ r. pile-alone (g.S.Squares.knows c.close_band.new.squares) (g.S.Squares.content c.close_band.new.squares) c.close_band.new.self r.empty r.strips
    (lowest-more xs c.close_band.new.self.strips.items 4 1 c.requires.pile.lowest r.strips.falling
    (omega (arith, r.height, n, c.len.ensures, c.if-len-lt4.false, c.requires.pile.few)) refl))
    c.close_band.ensures.closed

pub returns-clause-picture : goal.returns-clause-picture
returns-clause-picture g c =
    let C = g.S.Squares.content in
    let strips = c.close_band.new.self.strips.items in
    on_ok_weaker c.close_band.result
    (λ r i j. ap (λ z. state_with_rows (C c.close_band.new.squares) strips z i j) r.empty ∙ with-none (C c.close_band.new.squares) strips i j
    ∙ r.picture i j
    ∙ ap (λ z. state_with_rows (C c.args.squares.now) c.args.self.now.strips.items z i j) c.in_ok-push.ensures.items)
    c.close_band.ensures.closed

pub returns-clause-height : goal.returns-clause-height
returns-clause-height g c =
    let n = ap length c.in_ok-push.ensures.items ∙ length-append c.args.self.now.band.items (c.args.row ∷ []) in
    on_ok_weaker c.close_band.result (λ r. let none = ap length r.empty in omega (arith, none, r.height, n)) c.close_band.ensures.closed

pub returns-in_err-push-clause-grows : goal.returns-in_err-push-clause-grows
returns-in_err-push-clause-grows g c = grows-same _ c.args.squares.now (search rules)

pub returns-then-len-lt4-clause-grows : goal.returns-then-len-lt4-clause-grows
returns-then-len-lt4-clause-grows g c = grows-same _ c.args.squares.now tt

pub returns-clause-grows : goal.returns-clause-grows
returns-clause-grows g c =
    let n = ap length c.in_ok-push.ensures.items ∙ length-append c.args.self.now.band.items (c.args.row ∷ []) in
    let xs = c.args.self.now.strips.items in
    let items = c.in_ok-push.ensures.items in
    grows-as _ c.close_band.ensures.grows
    (λ P m. SomeSquare-same (omega (arith, n)) (λ i j. ap (λ z. state_with_rows (g.S.Squares.content c.args.squares.now) xs z i j) items) m)
