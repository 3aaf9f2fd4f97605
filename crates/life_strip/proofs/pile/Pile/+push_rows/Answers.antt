use Rattle.std.proofs.Common.{◌≡◌, ℕ, ◌+◌, ◌^◌, ◌++◌, ◌∷◌, [], List, length, length-append, All, arith, rules, sym, ◌∙◌, ap, subst}
use Rattle.std.proofs.lemmas.List.{nil_from_length}
use Rattle.life_base.specs.Tree.{Tree}
use Rattle.life_quad.specs.declared.id.Id.{Id}
use Rattle.life_quad.specs.Keeping.{KeepsSquares}
use Rattle.life_quad.proofs.KeepingLemmas.{adds-as}
use Rattle.life_quad.proofs.GrowsLemmas.{grows-then, grows-err, grows-same, grows-still}
use Rattle.life_strip.specs.declared.row.Row.{Row}
use Rattle.life_strip.specs.declared.spans.Strip.{Strip}
use Rattle.life_strip.specs.Needed.{SomeSquare}
use Rattle.life_strip.specs.Picture.{picture, height, state_in_strip}
use Rattle.life_strip.specs.Row.{IsRow, row_state, rows_state, state_with_rows}
use Rattle.life_strip.proofs.NeededLemmas.{SomeSquare-same, SomeSquare-within}
use Rattle.life_strip.proofs.PictureLemmas.{on_ok_map3, all_init, all_last}
use Rattle.life_strip.proofs.BandPictures.{all-one}
use Rattle.life_strip.proofs.RowLemmas.{row-keeps, rows_state-keeps, strip-row, with-above, with-last, with-none}
use Rattle.life_strip.proofs.pile.Pile.+push_rows.Goals as goal

-- a row of a store that a call kept
kept : {S : Type 0} {knows : S → Id → Type 0} {content : S → Id → Tree} {stored : S → List Tree} {most : S → ℕ} {old new : S}
    → KeepsSquares knows content stored most old new → (row : Row) → IsRow (knows old) (content old) row → IsRow (knows new) (content new) row
kept {knows = knows} {content = content} {old = old} {new = new} keeps row h =
    row-keeps {knows = knows old} {knows' = knows new} {old = content old} {new = content new} keeps.contents row h

-- the last row as a strip, below strips that have the cells of the rows above it, is the last of all
last-below : {S : Type 0} {knows : S → Id → Type 0} {content : S → Id → Tree} {stored : S → List Tree} {most : S → ℕ} {old new : S}
    → KeepsSquares knows content stored most old new
    → (xs over : List Strip) (ys zs : List Row) (last : Row) (s : Strip) → zs ≡ ys ++ last ∷ [] → All (IsRow (knows old) (content old)) zs
    → s.level ≡ 0 → ((c : ℕ) → state_in_strip (content new) s c 0 ≡ row_state (content new) last c) → height over ≡ height xs + length ys
    → ((i j : ℕ) → picture (content new) over i j ≡ state_with_rows (content old) xs ys i j)
    → (i j : ℕ) → picture (content new) (over ++ s ∷ []) i j ≡ state_with_rows (content old) xs zs i j
last-below {knows = knows} {content = content} {old = old} {new = new} keeps xs over ys zs last s items rows level cells tall above i j =
    let P = IsRow (knows old) (content old) in
    let is : P last = all_last P ys last (subst (All P) items rows) in
    let same : (a b : ℕ) → picture (content new) (s ∷ []) a b ≡ rows_state (content old) (last ∷ []) a b =
    λ a b. strip-row (content new) s last level cells a b
    ∙ rows_state-keeps {knows = knows old} {knows' = knows new} {old = content old} {new = content new} keeps.contents (last ∷ []) (all-one P last is) a b in
    with-last (content old) (content new) xs over ys last s tall above same i j ∙ ap (λ z. state_with_rows (content old) xs z i j) (sym items)

pub push_rows-requires : goal.push_rows-requires
push_rows-requires g t c κs within =
    let P = IsRow (g.S.Squares.knows c.args.squares.now) (g.S.Squares.content c.args.squares.now) in
    let items = c.in-Some.ensures.items in
    let init = c.pop.new.self.items in
    let n = ap length items ∙ length-append init (c.in-Some.last ∷ []) in
    let rows = all_init P init c.in-Some.last (subst (All P) items c.requires.rows) in
    (search rules, (search rules, (c.requires.strips, (rows, omega (arith, n, c.requires.space)))))

pub into_strip-requires : goal.into_strip-requires
into_strip-requires g t c =
    let P = IsRow (g.S.Squares.knows c.args.squares.now) (g.S.Squares.content c.args.squares.now) in
    kept c.in_ok-push_rows.ensures.grows.keeps c.in-Some.last
    (all_last P c.pop.new.self.items c.in-Some.last (subst (All P) c.in-Some.ensures.items c.requires.rows))

pub push_strip-requires-clause-space : goal.push_strip-requires-clause-space
push_strip-requires-clause-space g t c =
    let n = ap length c.in-Some.ensures.items ∙ length-append c.pop.new.self.items (c.in-Some.last ∷ []) in
    let one : 2 ^ c.in_ok-strip.strip.level ≡ 1 = ap (λ k. 2 ^ k) c.in_ok-strip.ensures.level in
    omega (arith, n, one, c.requires.space, c.in_ok-push_rows.ensures.closed.height)

pub push_strip-requires-clause-lowest : goal.push_strip-requires-clause-lowest
push_strip-requires-clause-lowest g t c k d lt = omega (arith, c.in_ok-strip.ensures.level)

pub returns-clause-closed : goal.returns-clause-closed
returns-clause-closed g t c =
    let r = c.in_ok-push_rows.ensures.closed in
    let s = c.in_ok-strip.ensures in
    let n = ap length c.in-Some.ensures.items ∙ length-append c.pop.new.self.items (c.in-Some.last ∷ []) in
    let one : 2 ^ c.in_ok-strip.strip.level ≡ 1 = ap (λ k. 2 ^ k) s.level in
    let e = c.push_strip.ensures in
    on_ok_map3 c.push_strip.result (λ strips more cells. record {
      empty = r.empty;
      strips = strips;
      height = omega (arith, more, n, one, r.height);
      picture = λ i j. cells i j
          ∙ last-below c.in_ok-push_rows.ensures.grows.keeps c.args.self.now.strips.items c.push_rows.new.self.strips.items c.pop.new.self.items
          c.args.self.now.band.items c.in-Some.last c.in_ok-strip.strip c.in-Some.ensures.items c.requires.rows s.level s.cells r.height r.picture i j;
    }) e.strips e.height e.picture

-- a square of all rows but the last is one of all
of-upper : (content : Id → Tree) (xs : List Strip) (ys zs : List Row) (last : Row) → zs ≡ ys ++ last ∷ [] → (P : Tree → Type 0)
    → SomeSquare P (height xs + length ys) (state_with_rows content xs ys) → SomeSquare P (height xs + length zs) (state_with_rows content xs zs)
of-upper content xs ys zs last items P s =
    let n = ap length items ∙ length-append ys (last ∷ []) in
    SomeSquare-within (omega (arith, n))
    (λ i j li lj. sym (with-above content xs ys last i j lj) ∙ ap (λ z. state_with_rows content xs z i j) (sym items)) s

pub returns-in_default-clause-closed : goal.returns-in_default-clause-closed
returns-in_default-clause-closed g t c =
    let pile = c.args.self.now in
    let old : pile.band.items ≡ [] = nil_from_length pile.band.items (grind (arith, c.pop.ensures.cases, c.in_default.is)) in
    let new : c.pop.new.self.items ≡ [] = nil_from_length c.pop.new.self.items (grind (arith, c.pop.ensures.cases, c.in_default.is)) in
    let none = ap length old in
    record {
      empty = new;
      strips = c.requires.strips;
      height = omega (arith, none);
      picture = λ i j. sym (with-none (g.S.Squares.content c.args.squares.now) pile.strips.items i j)
          ∙ ap (λ z. state_with_rows (g.S.Squares.content c.args.squares.now) pile.strips.items z i j) (sym old);
    }

pub returns-in_default-clause-grows : goal.returns-in_default-clause-grows
returns-in_default-clause-grows g t c = grows-same _ c.args.squares.now tt

pub returns-in_err-push_rows-clause-grows : goal.returns-in_err-push_rows-clause-grows
returns-in_err-push_rows-clause-grows g t c =
    grows-err _ c.in_err-push_rows.ensures.grows c.from_residual.ensures.1
    (of-upper (g.S.Squares.content c.args.squares.now) c.args.self.now.strips.items c.pop.new.self.items c.args.self.now.band.items c.in-Some.last
    c.in-Some.ensures.items)

pub returns-in_err-strip-clause-grows : goal.returns-in_err-strip-clause-grows
returns-in_err-strip-clause-grows g t c =
    let r = c.in_ok-push_rows.ensures.grows in
    grows-still _ r.keeps
    (adds-as _ r.adds
    (of-upper (g.S.Squares.content c.args.squares.now) c.args.self.now.strips.items c.pop.new.self.items c.args.self.now.band.items c.in-Some.last
    c.in-Some.ensures.items)) (search rules)

pub returns-clause-grows : goal.returns-clause-grows
returns-clause-grows g t c =
    let xs = c.args.self.now.strips.items in
    let ys = c.pop.new.self.items in
    let zs = c.args.self.now.band.items in
    let last = c.in-Some.last in
    let items = c.in-Some.ensures.items in
    let r = c.in_ok-push_rows.ensures.closed in
    let s = c.in_ok-strip.ensures in
    let n = ap length items ∙ length-append ys (last ∷ []) in
    let one : 2 ^ c.in_ok-strip.strip.level ≡ 1 = ap (λ k. 2 ^ k) s.level in
    grows-then _ c.in_ok-push_rows.ensures.grows c.push_strip.ensures.grows
    (of-upper (g.S.Squares.content c.args.squares.now) xs ys zs last items)
    (λ P n'. SomeSquare-same (omega (arith, n, one, r.height))
    (last-below c.in_ok-push_rows.ensures.grows.keeps xs c.push_rows.new.self.strips.items ys zs last c.in_ok-strip.strip items c.requires.rows s.level
    s.cells r.height r.picture) n')
