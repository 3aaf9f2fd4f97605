use Rattle.std.proofs.Common.{◌≡◌, ◌+◌, ◌-◌, ◌^◌, ◌∷◌, [], arith, refl, ◌∙◌, subst, Result, Ok, Err, IfOk}
use Rattle.std.proofs.Math.Pow.{pow_mono}
use Rattle.life_base.specs.Tree.{Tree}
use Rattle.life_base.specs.declared.cell.TheConstants.{MAX_LEVEL}
use Rattle.life_base.specs.declared.kind.Kind.{Kind}
use Rattle.life_quad.proofs.GrowsLemmas.{grows-as, grows-err, grows-then}
use Rattle.life_quad.specs.Grows.{Grows}
use Rattle.life_strip.specs.Middle.{IsAboutMiddle, IsMiddleSquare, SomeOfMiddle, SomeWider}
use Rattle.life_strip.specs.Needed.{SomeSquare}
use Rattle.life_strip.specs.Picture.{picture}
use Rattle.life_strip.specs.Pile.{pile_height, pile_state_with}
use Rattle.life_strip.proofs.MiddlePiles.{IsStripOf, about-same, end-of-middle, middle-of, square-of-middle, strip-of, wider-of-middle}
use Rattle.life_strip.proofs.NeededLemmas.{SomeSquare-same}
use Rattle.life_strip.proofs.pile.Pile.about_middle.Given.{Over}
use Rattle.life_strip.proofs.pile.Pile.about_middle.Goals as goal
use Rattle.life_strip.proofs.pile.Pile.about_middle.Goals.{After-end_row, After-join_middle, After-only_strip-strip, After-widen}

ok-by : {T : Type 0} {P Q : T → Type 0} (r : Result T Kind) → IfOk r P → ((x : T) → P x → Q x) → IfOk r Q
ok-by (Ok x) p f = f x p
ok-by (Err e) p f = tt

pub end_row-requires-clause-space : goal.end_row-requires-clause-space
end_row-requires-clause-space g c =
    let l = c.row_level-level.ensures in
    let p = pow_mono {i = c.row_level-level.result} {j = MAX_LEVEL - 1} (omega (arith, l.high)) in
    let b = c.rows_below.ensures in
    let h = c.requires.height in
    omega (arith, p, b, h)

-- ---- the rows are in one strip

-- what the rows need is of the square about the middle
ended : (g : Over) (c : After-end_row g) {A : Type 0} {r : Result A Kind}
    → let f = pile_state_with (g.S.Squares.content c.args.squares.now) c.args.self c.args.row in
    Grows g.S.Squares c.args.squares.now c.end_row.new.squares r (λ P. SomeSquare P (pile_height c.args.self + 1 + c.rows_below.result) f)
    → Grows g.S.Squares c.args.squares.now c.end_row.new.squares r (λ P. SomeOfMiddle P c.args.rows f)
ended g c call =
    let l = c.row_level-level.ensures in
    let b = c.rows_below.ensures in
    let h = c.requires.height in
    grows-as _ call (λ P n.
    end-of-middle P c.row_level-level.result c.args.rows _ l.low l.high l.least (SomeSquare-same (omega (arith, b, h)) (λ i j. refl) n))

pub returns-in_err-end_row-clause-grows : goal.returns-in_err-end_row-clause-grows
returns-in_err-end_row-clause-grows g c =
    grows-err _ (ended g (goal.at.returns-in_err-end_row-clause-grows g c).After-end_row c.in_err-end_row.ensures.grows) c.from_residual.ensures.1 (λ P n. n)

strip : (g : Over) (c : After-only_strip-strip g)
    → IsStripOf (g.S.Squares.knows c.end_row.new.squares) (g.S.Squares.content c.end_row.new.squares) c.row_level-level.result
    (pile_state_with (g.S.Squares.content c.args.squares.now) c.args.self c.args.row) c.only_strip-strip.result
strip g c =
    let r = c.in_ok-end_row.ensures in
    let b = c.rows_below.ensures in
    let h = c.requires.height in
    strip-of _ _ c.end_row.new.self c.row_level-level.result _ c.row_level-level.ensures.low r.pile (r.height ∙ (omega (arith, b, h))) r.picture
    c.only_strip-strip.result c.only_strip-strip.ensures

pub widen-requires-clause-sound : goal.widen-requires-clause-sound
widen-requires-clause-sound g c = (strip g (goal.at.widen-requires-clause-sound g c).After-only_strip-strip).sound

pub widen-requires-clause-high : goal.widen-requires-clause-high
widen-requires-clause-high g c =
    let e = (strip g (goal.at.widen-requires-clause-high g c).After-only_strip-strip).is_level in
    let t = c.row_level-level.ensures.high in
    omega (arith, e, t)

-- ---- a strip that is wide enough

-- what the wider strips need is of the square about the middle
widened : (g : Over) (c : After-widen g) {A : Type 0} {r : Result A Kind} → let old = c.args.squares.now in let mid = c.end_row.new.squares in
    let C = g.S.Squares.content mid in let f = pile_state_with (g.S.Squares.content old) c.args.self c.args.row in let s = c.only_strip-strip.result in
    Grows g.S.Squares old mid c.end_row.result (λ P. SomeOfMiddle P c.args.rows f) → IsStripOf (g.S.Squares.knows mid) C c.row_level-level.result f s
    → Grows g.S.Squares mid c.widen.new.squares r (λ P. SomeWider P s.level (picture C (s ∷ [])))
    → Grows g.S.Squares old c.widen.new.squares r (λ P. SomeOfMiddle P c.args.rows f)
widened g c first whole call =
    let l = c.row_level-level.ensures in
    let state = picture (g.S.Squares.content c.end_row.new.squares) (c.only_strip-strip.result ∷ []) in
    grows-then _ first call (λ P n. n)
    (λ P n. wider-of-middle P c.row_level-level.result c.args.rows state _ l.low l.least whole.cells (subst (λ k. SomeWider P k state) whole.is_level n))

pub returns-in_err-wide-clause-grows : goal.returns-in_err-wide-clause-grows
returns-in_err-wide-clause-grows g c =
    let at = goal.at.returns-in_err-wide-clause-grows g c in
    let first = ended g at.After-end_row c.end_row.ensures.grows in
    grows-err _ (widened g at.After-widen first (strip g at.After-only_strip-strip) c.in_err-wide.ensures.grows) c.from_residual-in_err-wide.ensures.1
    (λ P n. n)

-- the square about the middle of that strip
middle : (g : Over) (c : After-join_middle g) → let C = g.S.Squares.content c.end_row.new.squares in let wide = c.in_ok-wide.wide in
    let f = pile_state_with (g.S.Squares.content c.args.squares.now) c.args.self c.args.row in
    IsStripOf (g.S.Squares.knows c.end_row.new.squares) C c.row_level-level.result f c.only_strip-strip.result
    → (t : Tree) → IsAboutMiddle wide.level (picture (g.S.Squares.content c.widen.new.squares) (wide ∷ [])) t → IsMiddleSquare c.args.rows f t
middle g c whole t is =
    let l = c.row_level-level.ensures in
    let w = c.in_ok-wide.ensures in
    let e = whole.is_level in
    let low = w.low in
    middle-of c.row_level-level.result c.in_ok-wide.wide.level c.args.rows _ _ t l.low (omega (arith, e, low)) w.high l.enough l.least whole.cells w.adjacent
    (λ m from to. w.needed m (omega (arith, from, e)) to) (about-same c.in_ok-wide.wide.level _ _ t (λ i j. w.picture i j ∙ whole.cells i j) is)

pub returns-clause-square : goal.returns-clause-square
returns-clause-square g c =
    let at = goal.at.returns-clause-square g c in
    ok-by c.join_middle.result c.join_middle.ensures.square (λ id is. middle g at.After-join_middle (strip g at.After-only_strip-strip) _ is)

pub returns-clause-grows : goal.returns-clause-grows
returns-clause-grows g c =
    let at = goal.at.returns-clause-grows g c in
    let first = ended g at.After-end_row c.end_row.ensures.grows in
    let whole = strip g at.After-only_strip-strip in
    grows-then _ (widened g at.After-widen first whole c.widen.ensures.grows) c.join_middle.ensures.grows (λ P n. n)
    (λ P n. square-of-middle P c.args.rows _ n.0 (middle g at.After-join_middle whole n.0 n.1) n.2)
