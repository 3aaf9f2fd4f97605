use Rattle.std.proofs.Common.{◌≡◌, ℕ, ◌+◌, ◌^◌, ◌++◌, ◌∷◌, [], List, length, All, Option, Some, arith, refl, ◌∙◌, ap, subst, IfSome}
use Rattle.std.proofs.lemmas.Result.{on_ok_weaker}
use Rattle.life_base.specs.Tree.{Tree}
use Rattle.life_quad.specs.declared.id.Id.{Id}
use Rattle.life_quad.specs.Keeping.{KeepsSquares}
use Rattle.life_quad.proofs.GrowsLemmas.{grows-then, grows-err}
use Rattle.life_strip.specs.declared.row.Row.{Row}
use Rattle.life_strip.specs.declared.spans.Strip.{Strip}
use Rattle.life_strip.specs.Picture.{picture, height, IsLowest, IsSoundStrip}
use Rattle.life_strip.specs.Needed.{SomeSquare}
use Rattle.life_strip.specs.Row.{IsRow, rows_state, state_with_rows}
use Rattle.life_strip.proofs.NeededLemmas.{SomeSquare-same}
use Rattle.life_strip.proofs.PictureLemmas.{on_ok_map3, stack-kept}
use Rattle.life_strip.proofs.BandPictures.{SomeSquare-rows}
use Rattle.life_strip.proofs.RowLemmas.{rows-kept, with-keeps, with-strip}
use Rattle.life_strip.proofs.pile.Pile.close_band.Goals as goal

-- strips and rows that a call kept have the cells that they had
kept : {S : Type 0} {knows : S → Id → Type 0} {content : S → Id → Tree} {stored : S → List Tree} {most : S → ℕ} {old new : S}
    → KeepsSquares knows content stored most old new
    → (xs : List Strip) (ys : List Row) → All (IsSoundStrip (knows old) (content old)) xs → All (IsRow (knows old) (content old)) ys
    → (i j : ℕ) → state_with_rows (content new) xs ys i j ≡ state_with_rows (content old) xs ys i j
kept {knows = knows} {content = content} {old = old} {new = new} keeps xs ys over rows =
    with-keeps {knows = knows old} {knows' = knows new} {old = content old} {new = content new} keeps.contents xs ys over rows

-- a strip that was made of four rows has their height
band-height : (o : Option Strip) (s : Strip) → o ≡ Some s → IfSome o (λ b. b.level ≡ 2) → 2 ^ s.level ≡ 4
band-height o s is level = ap (λ n. 2 ^ n) (subst (λ o. IfSome o (λ b. b.level ≡ 2)) is level)

-- and their cells, below the strips that the call kept
band-cells : {S : Type 0} {knows : S → Id → Type 0} {content : S → Id → Tree} {stored : S → List Tree} {most : S → ℕ} {old new : S}
    → KeepsSquares knows content stored most old new
    → (xs : List Strip) (ys zs : List Row) (o : Option Strip) (s : Strip) → All (IsSoundStrip (knows old) (content old)) xs → o ≡ Some s → zs ≡ ys
    → IfSome o (λ b. (i j : ℕ) → picture (content new) (b ∷ []) i j ≡ rows_state (content old) zs i j)
    → (i j : ℕ) → picture (content new) (xs ++ s ∷ []) i j ≡ state_with_rows (content old) xs ys i j
band-cells {knows = knows} {content = content} {old = old} {new = new} keeps xs ys zs o s sound is same cells =
    let here = subst (λ o. IfSome o (λ b. (i j : ℕ) → picture (content new) (b ∷ []) i j ≡ rows_state (content old) zs i j)) is cells in
    with-strip {knows = knows old} {knows' = knows new} {old = content old} {new = content new} keeps.contents xs s ys sound
    (λ i j. here i j ∙ ap (λ z. rows_state (content old) z i j) same)

-- a square of the rows is one of all
of-band : (content : Id → Tree) (xs : List Strip) (ys zs : List Row) → IsLowest 2 xs → length ys ≡ 4 → zs ≡ ys
    → (P : Tree → Type 0) → SomeSquare P 4 (rows_state content zs) → SomeSquare P (height xs + length ys) (state_with_rows content xs ys)
of-band content xs ys zs lowest whole same P n =
    SomeSquare-same (omega (arith, whole)) (λ i j. refl)
    (SomeSquare-rows content xs ys lowest (subst (λ z. SomeSquare P 4 (rows_state content z)) same n))

pub returns-in_err-strip-clause-grows : goal.returns-in_err-strip-clause-grows
returns-in_err-strip-clause-grows g c =
    grows-err _ c.in_err-strip.ensures.grows c.from_residual.ensures.1
    (of-band (g.S.Squares.content c.args.squares.now) c.args.self.now.strips.items c.args.self.now.band.items _
    c.requires.lowest c.requires.whole c.as_slice.ensures.value)

pub push_rows-requires-clause-strips : goal.push_rows-requires-clause-strips
push_rows-requires-clause-strips g c = stack-kept c.in_ok-strip.ensures.grows.keeps c.args.self.now.strips.items c.requires.strips

pub push_rows-requires-clause-rows : goal.push_rows-requires-clause-rows
push_rows-requires-clause-rows g c = rows-kept c.in_ok-strip.ensures.grows.keeps c.args.self.now.band.items c.requires.rows

pub returns-in_default-clause-closed : goal.returns-in_default-clause-closed
returns-in_default-clause-closed g c =
    on_ok_weaker c.push_rows.result (λ r. record {
      empty = r.empty;
      strips = r.strips;
      height = r.height;
      picture = λ i j. r.picture i j
          ∙ kept c.in_ok-strip.ensures.grows.keeps c.args.self.now.strips.items c.args.self.now.band.items c.requires.strips.sound c.requires.rows i j;
    }) c.push_rows.ensures.closed

pub push_strip-requires-clause-strips : goal.push_strip-requires-clause-strips
push_strip-requires-clause-strips g c = stack-kept c.in_ok-strip.ensures.grows.keeps c.args.self.now.strips.items c.requires.strips

pub push_strip-requires-clause-space : goal.push_strip-requires-clause-space
push_strip-requires-clause-space g c =
    let h = band-height _ c.in-Some.strip c.in-Some.is c.in_ok-strip.ensures.level in
    omega (arith, h, c.requires.whole, c.requires.space)

pub returns-clause-closed : goal.returns-clause-closed
returns-clause-closed g c =
    let r = c.in_ok-strip.ensures in
    let pile = c.args.self.now in
    let h = band-height _ c.in-Some.strip c.in-Some.is r.level in
    let e = c.push_strip.ensures in
    on_ok_map3 c.push_strip.result (λ strips more cells. record {
      empty = c.give_rows.ensures;
      strips = strips;
      height = omega (arith, more, h, c.requires.whole);
      picture = λ i j. cells i j ∙ band-cells r.grows.keeps pile.strips.items pile.band.items _ _ c.in-Some.strip c.requires.strips.sound c.in-Some.is
          c.as_slice.ensures.value r.picture i j;
    }) e.strips e.height e.picture

pub returns-in_default-clause-grows : goal.returns-in_default-clause-grows
returns-in_default-clause-grows g c =
    let xs = c.args.self.now.strips.items in
    let ys = c.args.self.now.band.items in
    let r = c.requires in
    grows-then _ c.in_ok-strip.ensures.grows c.push_rows.ensures.grows
    (of-band (g.S.Squares.content c.args.squares.now) xs ys _ r.lowest r.whole c.as_slice.ensures.value)
    (λ P n. SomeSquare-same (omega arith) (kept c.in_ok-strip.ensures.grows.keeps xs ys r.strips.sound r.rows) n)

pub returns-clause-grows : goal.returns-clause-grows
returns-clause-grows g c =
    let C = g.S.Squares.content c.args.squares.now in
    let xs = c.args.self.now.strips.items in
    let ys = c.args.self.now.band.items in
    let r = c.requires in
    let band = c.in_ok-strip.ensures in
    let h = band-height _ c.in-Some.strip c.in-Some.is band.level in
    grows-then _ band.grows c.push_strip.ensures.grows
    (of-band C xs ys _ r.lowest r.whole c.as_slice.ensures.value)
    (λ P n. SomeSquare-same (omega (arith, h, r.whole))
    (band-cells band.grows.keeps xs ys _ _ c.in-Some.strip r.strips.sound c.in-Some.is c.as_slice.ensures.value band.picture) n)
