use Rattle.std.proofs.Common.{◌≡◌, not, Bool, ℤ, ap, ◌⊎◌, inl, inr, ℕ, suc, ◌<◌, ◌≤◌, ◌-◌, ◌^◌, pos, ◌+ℤ◌, ◌<ℤ◌, sym, ◌∙◌, subst, arith, to_z, of_z, w64, SFits}
use Rattle.std.proofs.lemmas.Int.{ints, to_z-of_z}
use Rattle.std.proofs.lemmas.Result.{IfOk-weaker}
use Rattle.life_base.specs.Tree.{Tree, depth, blank, quad, tree_cell}
use Rattle.life_base.specs.declared.bounds.Bounds.{Bounds}
use Rattle.life_base.proofs.Results.{on_err_any, on_err_both}
use Rattle.life_quad.specs.Cells.{IsBoundingBoxOfTree}
use Rattle.life_quad.specs.Refused.{SomePart}
use Rattle.life_quad.proofs.KeepingLemmas.{keeps-then, adds-as}
use Rattle.life_pieces.proofs.NeedLemmas.{adds-more}
use Rattle.life_pieces.specs.Pieces.{square_from}
use Rattle.life_pieces.specs.Pieces.{IsPiece}
use Rattle.life_pieces.proofs.NeedLemmas.{still-needs}
use Rattle.life_pieces.proofs.PieceLemmas.{IsPiece-moved}
use Rattle.life_slide.specs.Pieces.{IsNearMiddle, root_from, side_origin, side_start}
use Rattle.life_slide.proofs.MovedLemmas.{bottom-read, column-starts, columns-inside, inner-part, IsTight, joined-root, left-read, level-fits, on-plane, own-root, right-read, row-starts, rows-inside, top-read}
use Rattle.life_slide.proofs.QuarterLemmas.{corner-joined, corner_square}
use Rattle.life_slide.proofs.moved.moved_to_middle.Given.{Over}
use Rattle.life_slide.proofs.moved.moved_to_middle.Goals as goal
use Rattle.life_slide.proofs.moved.moved_to_middle.Goals.{After-join, After-square_at, After-start_at-y}

high-of : (m k : ℕ) → 1 ≤ m → m ≤ k → 1 ≤ k
high-of m k p h = omega (arith, p, h)

greatest-below : (n a b k : ℕ) → (n ≡ a) ⊎ (n ≡ b) → a < k → b < k → n < k
greatest-below n a b k (inl e) f g = omega (arith, e, f)
greatest-below n a b k (inr e) f g = omega (arith, e, g)

-- what the code computes with is the number
module _ (t : Tree) (box : Bounds) (bounds : IsBoundingBoxOfTree t box) (high : 1 ≤ depth t) (low : depth t ≤ 62) where
  is-far : (n : ℕ) → to_z w64 (of_z w64 box.left) +ℤ pos n ≡ to_z w64 (of_z w64 box.right) → box.left +ℤ pos n ≡ box.right
  is-far n e =
      let l = left-read t box bounds high low in
      let r = right-read t box bounds high low in
      omega (arith, ints, l, r, e)

  is-deep : (n : ℕ) → to_z w64 (of_z w64 box.top) +ℤ pos n ≡ to_z w64 (of_z w64 box.bottom) → box.top +ℤ pos n ≡ box.bottom
  is-deep n e =
      let l = top-read t box bounds high low in
      let r = bottom-read t box bounds high low in
      omega (arith, ints, l, r, e)

  below-side : (columns rows n : ℕ) → box.left +ℤ pos columns ≡ box.right → box.top +ℤ pos rows ≡ box.bottom → (n ≡ columns) ⊎ (n ≡ rows) → n < 2 ^ depth t
  below-side columns rows n e f one =
      greatest-below n columns rows _ one (columns-inside t box bounds high columns e) (rows-inside t box bounds high rows f)

  level-low : (least j columns rows n : ℕ) → box.left +ℤ pos columns ≡ box.right → box.top +ℤ pos rows ≡ box.bottom → (n ≡ columns) ⊎ (n ≡ rows)
      → least ≤ depth t → (j ≡ least - 1) ⊎ (2 ^ (j - 1) ≤ n) → j ≤ depth t
  level-low least j columns rows n e f one le (inl is) = omega (arith, is, le)
  level-low least j columns rows n e f one le (inr reach) = level-fits j (depth t) n reach (below-side columns rows n e f one)

  tight : (least j columns rows n : ℕ) → 1 ≤ least → box.left +ℤ pos columns ≡ box.right → box.top +ℤ pos rows ≡ box.bottom
      → (n ≡ columns) ⊎ (n ≡ rows) → (j ≡ least - 1) ⊎ (2 ^ (j - 1) ≤ n) → IsTight box j least
  tight least j columns rows n positive e f one (inl is) = inl (omega (arith, is, positive))
  tight least j columns rows n positive e f (inl a) (inr reach) = inr (inl (omega (arith, ints, e, a, reach)))
  tight least j columns rows n positive e f (inr a) (inr reach) = inr (inr (omega (arith, ints, f, a, reach)))

  -- where the square of the box begins
  column-is : (last : Bool) (j : ℕ) (x : ℤ) → SFits w64 x
      → x ≡ side_start last (to_z w64 (of_z w64 box.left)) (to_z w64 (of_z w64 box.right)) j → to_z w64 (of_z w64 x) ≡ side_start last box.left box.right j
  column-is last j x fits is =
      to_z-of_z w64 x fits ∙ is ∙ (λ i. side_start last (left-read t box bounds high low i) (right-read t box bounds high low i) j)

  row-is : (last : Bool) (j : ℕ) (y : ℤ) → SFits w64 y
      → y ≡ side_start last (to_z w64 (of_z w64 box.top)) (to_z w64 (of_z w64 box.bottom)) j → to_z w64 (of_z w64 y) ≡ side_start last box.top box.bottom j
  row-is last j y fits is =
      to_z-of_z w64 y fits ∙ is ∙ (λ i. side_start last (top-read t box bounds high low i) (bottom-read t box bounds high low i) j)

  columns-near : box.right <ℤ (box.left +ℤ pos (2 ^ 61)) → to_z w64 (of_z w64 box.right) <ℤ (to_z w64 (of_z w64 box.left) +ℤ pos (2 ^ 61))
  columns-near h =
      let l = left-read t box bounds high low in
      let r = right-read t box bounds high low in
      omega (arith, ints, l, r, h)

  rows-near : box.bottom <ℤ (box.top +ℤ pos (2 ^ 61)) → to_z w64 (of_z w64 box.bottom) <ℤ (to_z w64 (of_z w64 box.top) +ℤ pos (2 ^ 61))
  rows-near h =
      let l = top-read t box bounds high low in
      let r = bottom-read t box bounds high low in
      omega (arith, ints, l, r, h)

pub distance-width-requires-clause-order : goal.distance-width-requires-clause-order
distance-width-requires-clause-order g c =
    let t = g.S.Squares.content c.args.from.now c.args.id in
    let box = c.args.found.now in
    let high = high-of _ _ c.requires.positive c.requires.high in
    let low = g.met.S.Squares.low _ _ c.requires.known in
    let l = left-read t box c.requires.bounds high low in
    let r = right-read t box c.requires.bounds high low in
    let o = (on-plane t box c.requires.bounds high low).columns in
    omega (arith, ints, l, r, o)

pub distance-width-requires-clause-near : goal.distance-width-requires-clause-near
distance-width-requires-clause-near g c =
    let t = g.S.Squares.content c.args.from.now c.args.id in
    let low = g.met.S.Squares.low _ _ c.requires.known in
    columns-near t c.args.found.now c.requires.bounds (high-of _ _ c.requires.positive c.requires.high) low c.requires.columns

pub distance-height-requires-clause-order : goal.distance-height-requires-clause-order
distance-height-requires-clause-order g c =
    let t = g.S.Squares.content c.args.from.now c.args.id in
    let box = c.args.found.now in
    let high = high-of _ _ c.requires.positive c.requires.high in
    let low = g.met.S.Squares.low _ _ c.requires.known in
    let l = top-read t box c.requires.bounds high low in
    let r = bottom-read t box c.requires.bounds high low in
    let o = (on-plane t box c.requires.bounds high low).rows in
    omega (arith, ints, l, r, o)

pub distance-height-requires-clause-near : goal.distance-height-requires-clause-near
distance-height-requires-clause-near g c =
    let t = g.S.Squares.content c.args.from.now c.args.id in
    let low = g.met.S.Squares.low _ _ c.requires.known in
    rows-near t c.args.found.now c.requires.bounds (high-of _ _ c.requires.positive c.requires.high) low c.requires.rows

pub level_of_side-level-requires-clause-near : goal.level_of_side-level-requires-clause-near
level_of_side-level-requires-clause-near g c =
    greatest-below _ _ _ _ c.greater.ensures.one c.distance-width.ensures.near c.distance-height.ensures.near

pub start_at-x-requires-clause-level : goal.start_at-x-requires-clause-level
start_at-x-requires-clause-level g c = c.level_of_side-level.ensures.high

pub start_at-x-requires-clause-low : goal.start_at-x-requires-clause-low
start_at-x-requires-clause-low g c =
    let t = g.S.Squares.content c.args.from.now c.args.id in
    let box = c.args.found.now in
    let high = high-of _ _ c.requires.positive c.requires.high in
    let low = g.met.S.Squares.low _ _ c.requires.known in
    let l = left-read t box c.requires.bounds high low in
    let w = (on-plane t box c.requires.bounds high low).west in
    omega (arith, ints, l, w)

pub start_at-x-requires-clause-order : goal.start_at-x-requires-clause-order
start_at-x-requires-clause-order g c =
    let t = g.S.Squares.content c.args.from.now c.args.id in
    let box = c.args.found.now in
    let high = high-of _ _ c.requires.positive c.requires.high in
    let low = g.met.S.Squares.low _ _ c.requires.known in
    let l = left-read t box c.requires.bounds high low in
    let r = right-read t box c.requires.bounds high low in
    let o = (on-plane t box c.requires.bounds high low).columns in
    omega (arith, ints, l, r, o)

pub start_at-x-requires-clause-high : goal.start_at-x-requires-clause-high
start_at-x-requires-clause-high g c =
    let t = g.S.Squares.content c.args.from.now c.args.id in
    let box = c.args.found.now in
    let high = high-of _ _ c.requires.positive c.requires.high in
    let low = g.met.S.Squares.low _ _ c.requires.known in
    let r = right-read t box c.requires.bounds high low in
    let e = (on-plane t box c.requires.bounds high low).east in
    omega (arith, ints, r, e)

pub start_at-y-requires-clause-level : goal.start_at-y-requires-clause-level
start_at-y-requires-clause-level g c = c.level_of_side-level.ensures.high

pub start_at-y-requires-clause-low : goal.start_at-y-requires-clause-low
start_at-y-requires-clause-low g c =
    let t = g.S.Squares.content c.args.from.now c.args.id in
    let box = c.args.found.now in
    let high = high-of _ _ c.requires.positive c.requires.high in
    let low = g.met.S.Squares.low _ _ c.requires.known in
    let l = top-read t box c.requires.bounds high low in
    let w = (on-plane t box c.requires.bounds high low).north in
    omega (arith, ints, l, w)

pub start_at-y-requires-clause-order : goal.start_at-y-requires-clause-order
start_at-y-requires-clause-order g c =
    let t = g.S.Squares.content c.args.from.now c.args.id in
    let box = c.args.found.now in
    let high = high-of _ _ c.requires.positive c.requires.high in
    let low = g.met.S.Squares.low _ _ c.requires.known in
    let l = top-read t box c.requires.bounds high low in
    let r = bottom-read t box c.requires.bounds high low in
    let o = (on-plane t box c.requires.bounds high low).rows in
    omega (arith, ints, l, r, o)

pub start_at-y-requires-clause-high : goal.start_at-y-requires-clause-high
start_at-y-requires-clause-high g c =
    let t = g.S.Squares.content c.args.from.now c.args.id in
    let box = c.args.found.now in
    let high = high-of _ _ c.requires.positive c.requires.high in
    let low = g.met.S.Squares.low _ _ c.requires.known in
    let r = bottom-read t box c.requires.bounds high low in
    let e = (on-plane t box c.requires.bounds high low).south in
    omega (arith, ints, r, e)

level : (g : Over) (c : After-start_at-y g) → c.level_of_side-level.result ≤ depth (g.S.Squares.content c.args.from.now c.args.id)
level g c =
    let t = g.S.Squares.content c.args.from.now c.args.id in
    let box = c.args.found.now in
    let bounds = c.requires.bounds in
    let high = high-of _ _ c.requires.positive c.requires.high in
    let low = g.met.S.Squares.low _ _ c.requires.known in
    level-low t box bounds high low c.args.least c.level_of_side-level.result c.distance-width.result c.distance-height.result c.greater.result
    (is-far t box bounds high low _ c.distance-width.ensures.distance) (is-deep t box bounds high low _ c.distance-height.ensures.distance)
    c.greater.ensures.one c.requires.high c.level_of_side-level.ensures.least

pub square_at-requires-clause-low : goal.square_at-requires-clause-low
square_at-requires-clause-low g c = level g (goal.at.square_at-requires-clause-low g c).After-start_at-y

pub square_at-requires-clause-column : goal.square_at-requires-clause-column
square_at-requires-clause-column g c =
    let t = g.S.Squares.content c.args.from.now c.args.id in
    let box = c.args.found.now in
    let high = high-of _ _ c.requires.positive c.requires.high in
    let low = g.met.S.Squares.low _ _ c.requires.known in
    subst (IsNearMiddle (depth t)) (sym (column-is t box c.requires.bounds high low c.args.columns _ _
    (record { sfits = c.start_at-x.type_inv }) c.start_at-x.ensures))
    (column-starts t box c.requires.bounds high c.args.columns _ (level g (goal.at.square_at-requires-clause-column g c).After-start_at-y))

pub square_at-requires-clause-row : goal.square_at-requires-clause-row
square_at-requires-clause-row g c =
    let t = g.S.Squares.content c.args.from.now c.args.id in
    let box = c.args.found.now in
    let high = high-of _ _ c.requires.positive c.requires.high in
    let low = g.met.S.Squares.low _ _ c.requires.known in
    subst (IsNearMiddle (depth t)) (sym (row-is t box c.requires.bounds high low c.args.rows _ _
    (record { sfits = c.start_at-y.type_inv }) c.start_at-y.ensures))
    (row-starts t box c.requires.bounds high c.args.rows _ (level g (goal.at.square_at-requires-clause-row g c).After-start_at-y))

-- what is known of the box and the level of its square
record Fit (t : Tree) (box : Bounds) (j least : ℕ) : Type 0 where
  pub wide : box.right <ℤ (box.left +ℤ pos (2 ^ j))
  pub tall : box.bottom <ℤ (box.top +ℤ pos (2 ^ j))
  pub low : j < 62
  pub le : least ≤ suc j
  pub is_tight : IsTight box j least

fit : (g : Over) (c : After-square_at g) → Fit (g.S.Squares.content c.args.from.now c.args.id) c.args.found.now c.level_of_side-level.result c.args.least
fit g c =
    let t = g.S.Squares.content c.args.from.now c.args.id in
    let box = c.args.found.now in
    let bounds = c.requires.bounds in
    let high = high-of _ _ c.requires.positive c.requires.high in
    let low = g.met.S.Squares.low _ _ c.requires.known in
    let e = is-far t box bounds high low _ c.distance-width.ensures.distance in
    let f = is-deep t box bounds high low _ c.distance-height.ensures.distance in
    let j = c.level_of_side-level.ensures in
    let a = c.greater.ensures.first in
    let b = c.greater.ensures.second in
    let fits = j.fits in
    let most = j.high in
    let from = j.from in
    record {
      wide = omega (arith, ints, e, a, fits);
      tall = omega (arith, ints, f, b, fits);
      low = omega (arith, most);
      le = omega (arith, from);
      is_tight = tight t box bounds high low _ _ _ _ _ c.requires.positive e f c.greater.ensures.one j.least;
    }

-- a part of the square of the box is one of the root
part : (g : Over) (c : After-square_at g) (P : Tree → Type 0) → let t = g.S.Squares.content c.args.from.now c.args.id in
    let box = c.args.found.now in
    SomePart P (square_from (tree_cell t) c.level_of_side-level.result (to_z w64 (of_z w64 c.start_at-x.result)) (to_z w64 (of_z w64 c.start_at-y.result)))
    → SomePart P (root_from t (side_origin c.args.columns box.left box.right) (side_origin c.args.rows box.top box.bottom) c.args.least)
part g c P some =
    let t = g.S.Squares.content c.args.from.now c.args.id in
    let box = c.args.found.now in
    let high = high-of _ _ c.requires.positive c.requires.high in
    let low = g.met.S.Squares.low _ _ c.requires.known in
    let ex = column-is t box c.requires.bounds high low c.args.columns _ _ (record { sfits = c.start_at-x.type_inv }) c.start_at-x.ensures in
    let ey = row-is t box c.requires.bounds high low c.args.rows _ _ (record { sfits = c.start_at-y.type_inv }) c.start_at-y.ensures in
    let f = fit g c in
    inner-part t box c.requires.bounds high c.args.columns c.args.rows c.level_of_side-level.result f.wide f.tall (g.met.S.Squares.full _ _ c.requires.known)
    f.low c.args.least c.requires.positive f.le f.is_tight P
    (subst (SomePart P) (λ i. square_from (tree_cell t) c.level_of_side-level.result (ex i) (ey i)) some)

pub returns-in_err-quarter-clause-needed : goal.returns-in_err-quarter-clause-needed
returns-in_err-quarter-clause-needed g c =
    on_err_any c.from_residual.result
    (part g (goal.at.returns-in_err-quarter-clause-needed g c).After-square_at (g.T.Squares.needs_node c.square_at.new.to)
    c.in_err-quarter.ensures.needed)

pub returns-in_err-quarter-clause-adds : goal.returns-in_err-quarter-clause-adds
returns-in_err-quarter-clause-adds g c =
    adds-as _ c.in_err-quarter.ensures.adds (part g (goal.at.returns-in_err-quarter-clause-adds g c).After-square_at)

-- the square of the box, where it begins
at-box : (g : Over) (c : After-join g) → let t = g.S.Squares.content c.args.from.now c.args.id in
    let box = c.args.found.now in
    let j = c.level_of_side-level.result in
    IsPiece (tree_cell t) (side_start c.args.columns box.left box.right j) (side_start c.args.rows box.top box.bottom j)
    (g.T.Squares.content c.square_at.new.to c.in_ok-quarter.quarter)
at-box g c =
    let t = g.S.Squares.content c.args.from.now c.args.id in
    let box = c.args.found.now in
    let high = high-of _ _ c.requires.positive c.requires.high in
    let low = g.met.S.Squares.low _ _ c.requires.known in
    IsPiece-moved (tree_cell t) _ _ _ _ _ (column-is t box c.requires.bounds high low c.args.columns _ _
    (record { sfits = c.start_at-x.type_inv }) c.start_at-x.ensures)
    (row-is t box c.requires.bounds high low c.args.rows _ _ (record { sfits = c.start_at-y.type_inv }) c.start_at-y.ensures) c.in_ok-quarter.ensures.square

-- the square that is joined
joined : (g : Over) (c : After-join g) → let now = g.T.Squares.content c.square_at.new.to in
    let four = c.in_corner-four.result in
    quad (now four.nw) (now four.ne) (now four.sw) (now four.se)
    ≡ corner_square (not c.args.columns) (not c.args.rows) (now c.in_ok-quarter.quarter) (blank c.level_of_side-level.result)
joined g c =
    let now = g.T.Squares.content c.square_at.new.to in
    let quarter = c.in_ok-quarter.quarter in
    (λ i. let four = c.in_corner-four.ensures i in quad (now four.nw) (now four.ne) (now four.sw) (now four.se))
    ∙ corner-joined now (not c.args.columns) (not c.args.rows) quarter c.empty.result
    ∙ ap (corner_square (not c.args.columns) (not c.args.rows) (now quarter)) c.empty.ensures.square

root-part : (g : Over) (c : After-join g) → let t = g.S.Squares.content c.args.from.now c.args.id in
    let box = c.args.found.now in
    Fit t box c.level_of_side-level.result c.args.least → (P : Tree → Type 0) →
    let now = g.T.Squares.content c.square_at.new.to in
    let four = c.in_corner-four.result in
    P (quad (now four.nw) (now four.ne) (now four.sw) (now four.se))
    → SomePart P (root_from t (side_origin c.args.columns box.left box.right) (side_origin c.args.rows box.top box.bottom) c.args.least)
root-part g c f P p =
    let t = g.S.Squares.content c.args.from.now c.args.id in
    let at = c.in_ok-quarter.ensures.at in
    own-root t c.args.found.now c.requires.bounds (high-of _ _ c.requires.positive c.requires.high) c.args.columns c.args.rows c.level_of_side-level.result
    f.wide f.tall (g.met.S.Squares.full _ _ c.requires.known) f.low c.args.least c.requires.positive f.le f.is_tight P _ (g.met.T.Squares.full _ _ at.known)
    at.level (at-box g c) (subst P (joined g c) p)

pub returns-clause-square : goal.returns-clause-square
returns-clause-square g c =
    let d = (goal.at.returns-clause-square g c).After-join in
    let t = g.S.Squares.content c.args.from.now c.args.id in
    let f = fit g (goal.at.returns-clause-square g c).After-square_at in
    let at = c.in_ok-quarter.ensures.at in
    let root = joined-root t c.args.found.now c.requires.bounds (high-of _ _ c.requires.positive c.requires.high) c.args.columns c.args.rows
    c.level_of_side-level.result f.wide f.tall (g.met.S.Squares.full _ _ c.requires.known) f.low c.args.least c.requires.positive f.le f.is_tight _
    (g.met.T.Squares.full _ _ at.known) at.level (at-box g d) in
    IfOk-weaker c.join.result _ _ (λ r e. e ∙ joined g d ∙ root) c.join.ensures.square

pub returns-clause-keeps : goal.returns-clause-keeps
returns-clause-keeps g c = keeps-then c.in_ok-quarter.ensures.keeps c.join.ensures.keeps

pub returns-clause-needed : goal.returns-clause-needed
returns-clause-needed g c =
    let d = (goal.at.returns-clause-needed g c).After-join in
    let f = fit g (goal.at.returns-clause-needed g c).After-square_at in
    let N = g.T.Squares.needs_node in
    on_err_both c.join.result (λ needs same. root-part g d f (N c.join.new.self) (still-needs N _ _ _ same needs)) c.join.ensures.needed
    c.join.ensures.unchanged

pub returns-clause-adds : goal.returns-clause-adds
returns-clause-adds g c =
    let d = (goal.at.returns-clause-adds g c).After-join in
    let e = (goal.at.returns-clause-adds g c).After-square_at in
    adds-more (adds-as _ c.in_ok-quarter.ensures.adds (part g e)) c.join.ensures.adds (root-part g d (fit g e))
