-- The cells of a square from another origin, and the square that has them.
use Rattle.std.proofs.Common.{◌≡◌, ◌≢◌, ◌⊎◌, inl, inr, ℕ, zero, suc, ◌-◌, ◌^◌, ◌<◌, ◌≤◌, nat_lt, if◌then◌else◌, Bool, true, false, not, ℤ, pos, neg_ℤ, ◌+ℤ◌, ◌≤ℤ◌, ◌<ℤ◌, refl, sym, ◌∙◌, ap, subst, arith, to_z, of_z, w64}
use Rattle.std.proofs.lemmas.Int.{ints}
use Rattle.std.proofs.lemmas.Bool.{cases_lt}
use Rattle.std.proofs.Math.Pow.{pow_mono}
use Rattle.life_base.specs.Tree.{Tree, point, quad, depth, blank, half_side, state_at, tree_cell, IsFull}
use Rattle.life_base.specs.declared.bounds.Bounds.{Bounds}
use Rattle.life_base.proofs.Squares.{Inside, same_quads}
use Rattle.life_base.proofs.Basics.{halves, zero_unless}
use Rattle.life_quad.specs.Cells.{IsBoundingBoxOfTree}
use Rattle.life_base.specs.declared.cell.TheConstants.{MAX_LEVEL}
use Rattle.life_quad.specs.Moves.{trimmed_square}
use Rattle.life_quad.specs.Refused.{SomePart}
use Rattle.life_quad.proofs.LawLemmas.{cells_lie_inside, equal_by_plane, trimmed_by_cells, trimmed_is_fixed, trimming_keeps_cells, trimming_stops}
use Rattle.life_pieces.specs.Pieces.{square_from}
use Rattle.life_pieces.specs.Pieces.{IsPiece, step_ahead}
use Rattle.life_pieces.proofs.NeedLemmas.{depth-square, own-part, piece-is, square-piece}
use Rattle.life_pieces.proofs.PieceLemmas.{IsPiece-moved}
use Rattle.life_pieces.proofs.RootLemmas.{cells-of_root}
use Rattle.life_pieces.proofs.NeedLemmas.{full-square}
use Rattle.life_slide.specs.Pieces.{cells_from, IsNearMiddle, plane_from, root_from, side_origin, side_start}
use Rattle.life_slide.proofs.QuarterLemmas.{AreInQuarter, corner-is, corner-part, corner_square, far-from-origin, far_end, middle_start, quarter-inside, quarter_start, side-begins, side-in-quarter}

-- ---- from another origin

abbrev from : (ℤ → ℤ → ℕ) → ℤ → ℤ → ℤ → ℤ → ℕ
from f a b x y = f (x +ℤ a) (y +ℤ b)

pub piece-from : (f : ℤ → ℤ → ℕ) (a b : ℤ) (s : Tree) (x y : ℤ) → IsPiece f (x +ℤ a) (y +ℤ b) s → IsPiece (from f a b) x y s
piece-from f a b (point s) x y h = h
piece-from f a b (quad p q r s) x y h =
    let d = pos (2 ^ depth p) in
    let ex : (x +ℤ a) +ℤ d ≡ (x +ℤ d) +ℤ a = omega (arith, ints) in
    let ey : (y +ℤ b) +ℤ d ≡ (y +ℤ d) +ℤ b = omega (arith, ints) in (
      piece-from f a b p x y h.0,
      piece-from f a b q (x +ℤ d) y (IsPiece-moved f _ _ _ _ q ex refl h.1),
      piece-from f a b r x (y +ℤ d) (IsPiece-moved f _ _ _ _ r refl ey h.2),
      piece-from f a b s (x +ℤ d) (y +ℤ d) (IsPiece-moved f _ _ _ _ s ex ey h.3),
    )

pub square-from : (f : ℤ → ℤ → ℕ) (a b : ℤ) (k : ℕ) (x y : ℤ) → square_from f k (x +ℤ a) (y +ℤ b) ≡ square_from (from f a b) k x y
unfolding square_from
square-from f a b zero x y = refl
square-from f a b (suc k) x y =
    let d = 2 ^ k in
    let ex : step_ahead (x +ℤ a) d ≡ step_ahead x d +ℤ a = omega (arith, ints) in
    let ey : step_ahead (y +ℤ b) d ≡ step_ahead y d +ℤ b = omega (arith, ints) in
    same_quads
    (square-from f a b k x y)
    (ap (λ u. square_from f k u (y +ℤ b)) ex ∙ square-from f a b k (step_ahead x d) y)
    (ap (λ v. square_from f k (x +ℤ a) v) ey ∙ square-from f a b k x (step_ahead y d))
    ((λ i. square_from f k (ex i) (ey i)) ∙ square-from f a b k (step_ahead x d) (step_ahead y d))

-- ---- squares of planes without states above 255

one-below : (v w : Bool) (p q r s : ℕ) → p < 256 → q < 256 → r < 256 → s < 256 → (if v then (if w then p else q) else (if w then r else s)) < 256
one-below true true p q r s e f g h = e
one-below true false p q r s e f g h = f
one-below false true p q r s e f g h = g
one-below false false p q r s e f g h = h

state-below : (t : Tree) → IsFull t → (i j : ℕ) → state_at t i j < 256
state-below (point s) h i j = h
state-below (quad a b c d) h i j =
    one-below (nat_lt j (2 ^ depth a)) (nat_lt i (2 ^ depth a)) _ _ _ _ (state-below a h.0 i j) (state-below b h.1 (i - 2 ^ depth a) j)
    (state-below c h.2 i (j - 2 ^ depth a)) (state-below d h.3 (i - 2 ^ depth a) (j - 2 ^ depth a))

below-or-none : (b : Bool) (n : ℕ) → n < 256 → (if b then n else 0) < 256
below-or-none true n l = l
below-or-none false n l = omega arith

pub cell-below : (t : Tree) → IsFull t → (x y : ℤ) → tree_cell t x y < 256
cell-below t full x y = below-or-none _ _ (state-below t full _ _)

-- the square about the middle has the plane's cells, where all others are 0
pub centre-cells : (f : ℤ → ℤ → ℕ) → ((x y : ℤ) → f x y < 256) → (k : ℕ) → ((x y : ℤ) → (Inside (2 ^ k) x y → ⊥) → f x y ≡ 0) → (x y : ℤ)
    → tree_cell (square_from f (suc k) (neg_ℤ (pos (2 ^ k))) (neg_ℤ (pos (2 ^ k)))) x y ≡ f x y
centre-cells f below k outside =
    let c = neg_ℤ (pos (2 ^ k)) in
    let r = square_from f (suc k) c c in
    let level : depth r ≡ suc k = depth-square f (suc k) c c in
    let half : half_side r ≡ 2 ^ k = ap (λ n. 2 ^ n) (omega (arith, level)) in
    cells-of_root f r c (full-square f below (suc k) c c) (omega (arith, level)) (ap (λ n. neg_ℤ (pos n)) (sym half)) (square-piece f (suc k) c c)
    (λ x y apart. outside x y (λ i. apart (subst (λ n. Inside n x y) (sym half) i)))

-- a square with a cell outside of the one about the middle with half its side isn't trimmed
pub trim-reach : (s : Tree) → IsFull s → (m : ℕ) → 1 ≤ m → (n : ℕ) → depth s ≡ suc n → (x y : ℤ) → tree_cell s x y ≢ 0
    → (Inside (2 ^ (n - 1)) x y → ⊥) → trimmed_square s m ≡ s
trim-reach s full m positive n level x y some far =
    equal_by_plane r s (trimmed_is_fixed s m full positive).0 full (omega (arith, lower, higher, level)) keeps
  where
    r : Tree
    r = trimmed_square s m

    keeps : (u v : ℤ) → tree_cell r u v ≡ tree_cell s u v
    keeps = trimming_keeps_cells s m full positive

    lower : depth r ≤ depth s
    lower = (trimming_stops s m full positive).2

    here : (neg_ℤ (pos (half_side r)) ≤ℤ x) × (x <ℤ pos (half_side r)) × (neg_ℤ (pos (half_side r)) ≤ℤ y) × (y <ℤ pos (half_side r))
    here = cells_lie_inside r x y (λ e. some (sym (keeps x y) ∙ e))

    not-low : depth r ≤ n → ⊥
    not-low l =
        let less : half_side r ≤ 2 ^ (n - 1) = pow_mono {i = depth r - 1} {j = n - 1} (omega (arith, l)) in
        let w = here.0 in
        let e = here.1 in
        let t = here.2 in
        let b = here.3 in
        far (record {
          west = omega (arith, ints, less, w);
          east = omega (arith, ints, less, e);
          north = omega (arith, ints, less, t);
          south = omega (arith, ints, less, b);
        })

    higher : n < depth r
    higher = above (cases_lt n (depth r))
      where
        above : (n < depth r) ⊎ (depth r ≤ n) → n < depth r
        above (inl l) = l
        above (inr l) = absurd (not-low l)

-- ---- the least box with a corner at the middle

-- a square of level j is the quarter of one of the least level, or the box in its corner reaches into its farther half
abbrev pub IsTight : Bounds → (j least : ℕ) → Type 0
IsTight box j least =
    (suc j ≡ least) ⊎ ((box.left +ℤ pos (2 ^ (j - 1))) ≤ℤ box.right) ⊎ ((box.top +ℤ pos (2 ^ (j - 1))) ≤ℤ box.bottom)

-- the level of a square with a side up to twice as long as a number below the side of another one
pub level-fits : (j k n : ℕ) → 2 ^ (j - 1) ≤ n → n < 2 ^ k → j ≤ k
level-fits j k n low high = by (cases_lt k j)
  where
    by : (k < j) ⊎ (j ≤ k) → j ≤ k
    by (inl l) =
        let more : 2 ^ k ≤ 2 ^ (j - 1) = pow_mono {i = k} {j = j - 1} (omega (arith, l)) in
        absurd (omega (arith, more, low, high))
    by (inr l) = l

module _ (t : Tree) (box : Bounds) (least : IsBoundingBoxOfTree t box) (high : 1 ≤ depth t) where
  abbrev k : ℕ
  k = depth t

  pub column-near : IsNearMiddle k box.left
  column-near =
      let left = cells_lie_inside t _ _ least.at_left.1 in
      let w = left.0 in
      let e = left.1 in
      record { low = omega (arith, ints, w); high = omega (arith, ints, e) }

  pub row-near : IsNearMiddle k box.top
  row-near =
      let top = cells_lie_inside t _ _ least.at_top.1 in
      let n = top.2 in
      let s = top.3 in
      record { low = omega (arith, ints, n); high = omega (arith, ints, s) }

  -- so does the square of the box
  side-near : (last : Bool) (l h : ℤ) (j : ℕ) → j ≤ k → neg_ℤ (pos (half_side t)) ≤ℤ l → l ≤ℤ h → h <ℤ pos (half_side t)
      → IsNearMiddle k (side_start last l h j)
  side-near false l h j le w order e = record { low = omega (arith, ints, w); high = omega (arith, ints, order, e) }
  side-near true l h j le w order e =
      let side : 2 ^ j ≤ 2 ^ k = pow_mono {i = j} {j = k} le in
      let some : 1 ≤ 2 ^ j = pow_mono {i = 0} {j = j} (omega arith) in
      let twice = halves k high in
      record { low = omega (arith, ints, w, order, side, twice); high = omega (arith, ints, e, some) }

  pub column-starts : (last : Bool) (j : ℕ) → j ≤ k → IsNearMiddle k (side_start last box.left box.right j)
  column-starts last j le =
      let inside = least.inside _ _ least.at_left.1 in
      side-near last box.left box.right j le (cells_lie_inside t _ _ least.at_left.1).0 inside.1 (cells_lie_inside t _ _ least.at_right.1).1

  pub row-starts : (last : Bool) (j : ℕ) → j ≤ k → IsNearMiddle k (side_start last box.top box.bottom j)
  row-starts last j le =
      let inside = least.inside _ _ least.at_top.1 in
      side-near last box.top box.bottom j le (cells_lie_inside t _ _ least.at_top.1).2 inside.3 (cells_lie_inside t _ _ least.at_bottom.1).3

  half-low : depth t ≤ 62 → half_side t ≤ 2 ^ 61
  half-low low = pow_mono {i = depth t - 1} {j = 61} (omega (arith, low))

  -- the sides of the box lie on the plane
  pub record OnPlane : Type 0 where
    pub west : neg_ℤ (pos (2 ^ 61)) ≤ℤ box.left
    pub columns : box.left ≤ℤ box.right
    pub east : box.right <ℤ pos (2 ^ 61)
    pub north : neg_ℤ (pos (2 ^ 61)) ≤ℤ box.top
    pub rows : box.top ≤ℤ box.bottom
    pub south : box.bottom <ℤ pos (2 ^ 61)

  pub on-plane : depth t ≤ 62 → OnPlane
  on-plane low =
      let half = half-low low in
      let w = (cells_lie_inside t _ _ least.at_left.1).0 in
      let e = (cells_lie_inside t _ _ least.at_right.1).1 in
      let n = (cells_lie_inside t _ _ least.at_top.1).2 in
      let s = (cells_lie_inside t _ _ least.at_bottom.1).3 in
      let across = least.inside _ _ least.at_left.1 in
      let down = least.inside _ _ least.at_top.1 in
      let a = across.0 in
      let b = across.1 in
      let c = down.2 in
      let d = down.3 in
      record {
        west = omega (arith, ints, half, w);
        columns = omega (arith, ints, a, b);
        east = omega (arith, ints, half, e);
        north = omega (arith, ints, half, n);
        rows = omega (arith, ints, c, d);
        south = omega (arith, ints, half, s);
      }

  -- the box is shorter than the square
  pub columns-inside : (n : ℕ) → box.left +ℤ pos n ≡ box.right → n < 2 ^ depth t
  columns-inside n e =
      let w = (cells_lie_inside t _ _ least.at_left.1).0 in
      let l = (cells_lie_inside t _ _ least.at_right.1).1 in
      let twice = halves (depth t) high in
      omega (arith, ints, e, w, l, twice)

  pub rows-inside : (n : ℕ) → box.top +ℤ pos n ≡ box.bottom → n < 2 ^ depth t
  rows-inside n e =
      let w = (cells_lie_inside t _ _ least.at_top.1).2 in
      let l = (cells_lie_inside t _ _ least.at_bottom.1).3 in
      let twice = halves (depth t) high in
      omega (arith, ints, e, w, l, twice)

  -- what the code computes with is the number
  pub left-read : depth t ≤ 62 → to_z w64 (of_z w64 box.left) ≡ box.left
  left-read low = let p = on-plane low in let a = p.west in let b = p.columns in let c = p.east in omega (arith, ints, a, b, c)

  pub right-read : depth t ≤ 62 → to_z w64 (of_z w64 box.right) ≡ box.right
  right-read low = let p = on-plane low in let a = p.west in let b = p.columns in let c = p.east in omega (arith, ints, a, b, c)

  pub top-read : depth t ≤ 62 → to_z w64 (of_z w64 box.top) ≡ box.top
  top-read low = let p = on-plane low in let a = p.north in let b = p.rows in let c = p.south in omega (arith, ints, a, b, c)

  pub bottom-read : depth t ≤ 62 → to_z w64 (of_z w64 box.bottom) ≡ box.bottom
  bottom-read low = let p = on-plane low in let a = p.north in let b = p.rows in let c = p.south in omega (arith, ints, a, b, c)

  -- a cell at the end of each side that is farther from its origin
  far-column : (last : Bool) → (y : ℤ) × (tree_cell t (far_end last box.left box.right) y ≢ 0)
  far-column false = least.at_right
  far-column true = least.at_left

  far-row : (last : Bool) → (x : ℤ) × (tree_cell t x (far_end last box.top box.bottom) ≢ 0)
  far-row false = least.at_bottom
  far-row true = least.at_top

  -- a square of this level has a side as long as the box, which is moved into a corner of it
  module _ (a b : Bool) (j : ℕ) (wide : box.right <ℤ (box.left +ℤ pos (2 ^ j))) (tall : box.bottom <ℤ (box.top +ℤ pos (2 ^ j))) where
    abbrev ox : ℤ
    ox = side_origin a box.left box.right

    abbrev oy : ℤ
    oy = side_origin b box.top box.bottom

    abbrev g : ℤ → ℤ → ℕ
    g = cells_from t ox oy

    -- where a cell goes
    goes : AreInQuarter g (not a) (not b) j
    goes x y some =
        let in-box = least.inside _ _ some in
        let column = side-in-quarter a box.left box.right j wide x in-box.0 in-box.1 in
        let row = side-in-quarter b box.top box.bottom j tall y in-box.2 in-box.3 in
        (column.0, column.1, row.0, row.1)

    outside-zero : (x y : ℤ) → (Inside (2 ^ j) x y → ⊥) → g x y ≡ 0
    outside-zero x y apart = zero_unless _ (λ some.
        let at = goes x y some in
        let column = quarter-inside (not a) j x at.0 at.1 in
        let row = quarter-inside (not b) j y at.2 at.3 in
        apart (record { west = column.0; east = column.1; north = row.0; south = row.1 }))

    -- where the square of the box begins
    abbrev sx : ℤ
    sx = side_start a box.left box.right j

    abbrev sy : ℤ
    sy = side_start b box.top box.bottom j

    -- that square is a quarter of the one of the moved cells
    quarter-is : (inner : Tree) → IsFull inner → depth inner ≡ j → IsPiece (tree_cell t) sx sy inner
        → corner_square (not a) (not b) inner (blank j) ≡ square_from g (suc j) (middle_start j) (middle_start j)
    quarter-is inner full level piece =
        corner-is g j inner full level (not a) (not b) goes
        (piece-from (tree_cell t) ox oy inner _ _
        (IsPiece-moved (tree_cell t) _ _ _ _ inner (side-begins a box.left box.right j) (side-begins b box.top box.bottom j) piece))

    -- it is the square from the other origin
    inner-square : square_from (tree_cell t) j sx sy ≡ square_from g j (quarter_start (not a) j) (quarter_start (not b) j)
    inner-square =
        let ex = side-begins a box.left box.right j in
        let ey = side-begins b box.top box.bottom j in
        (λ i. square_from (tree_cell t) j (ex i) (ey i)) ∙ square-from (tree_cell t) ox oy j _ _

    -- ---- on the plane, from this level on

    module _ (full : IsFull t) (low : j < MAX_LEVEL) (m : ℕ) (positive : 1 ≤ m) (le : m ≤ suc j) where
      below : (x y : ℤ) → g x y < 256
      below x y = cell-below t full _ _

      abbrev root : Tree
      root = square_from g (suc j) (middle_start j) (middle_start j)

      full-root : IsFull root
      full-root = full-square g below (suc j) _ _

      deep-root : depth root ≡ suc j
      deep-root = depth-square g (suc j) _ _

      abbrev plane : Tree
      plane = plane_from t ox oy

      -- the plane of the moved cells, trimmed, is their square one level higher, trimmed
      root-trimmed : trimmed_square root m ≡ root_from t ox oy m
      root-trimmed =
          let side : 2 ^ j ≤ 2 ^ 61 = pow_mono {i = j} {j = 61} (omega (arith, low)) in
          let higher : (x y : ℤ) → Inside (2 ^ j) x y → Inside (2 ^ 61) x y = (λ x y i.
          let w = i.west in
          let e = i.east in
          let n = i.north in
          let s = i.south in
          record {
            west = omega (arith, ints, side, w);
            east = omega (arith, ints, side, e);
            north = omega (arith, ints, side, n);
            south = omega (arith, ints, side, s);
          }) in
          let deep-plane : depth plane ≡ 62 = depth-square g 62 _ _ in
          (trimmed_by_cells root plane m full-root (full-square g below MAX_LEVEL _ _) positive (omega (arith, deep-root, le))
          (omega (arith, deep-plane, low, le))).1
          (λ x y. centre-cells g below j outside-zero x y
          ∙ sym (centre-cells g below 61 (λ u v apart. outside-zero u v (λ i. apart (higher u v i))) x y))

      -- a cell of the box, from the other origin
      moved-cell : (x y : ℤ) → tree_cell t x y ≢ 0 → tree_cell root (x +ℤ neg_ℤ ox) (y +ℤ neg_ℤ oy) ≢ 0
      moved-cell x y some e =
          let ex : (x +ℤ neg_ℤ ox) +ℤ ox ≡ x = omega (arith, ints) in
          let ey : (y +ℤ neg_ℤ oy) +ℤ oy ≡ y = omega (arith, ints) in
          some (sym (λ i. tree_cell t (ex i) (ey i)) ∙ sym (centre-cells g below j outside-zero _ _) ∙ e)

      root-still : IsTight box j m → trimmed_square root m ≡ root
      root-still (inl e) = (trimming_stops root m full-root positive).1 (omega (arith, deep-root, e))
      root-still (inr (inl l)) =
          let cell = far-column a in
          trim-reach root full-root m positive j deep-root _ _ (moved-cell _ _ cell.1)
          (λ i. far-from-origin a box.left box.right (2 ^ (j - 1)) l i.west i.east)
      root-still (inr (inr l)) =
          let cell = far-row b in
          trim-reach root full-root m positive j deep-root _ _ (moved-cell _ _ cell.1)
          (λ i. far-from-origin b box.top box.bottom (2 ^ (j - 1)) l i.north i.south)

      root-is : IsTight box j m → root ≡ root_from t ox oy m
      root-is tight = sym (root-still tight) ∙ root-trimmed

      pub joined-root : IsTight box j m → (inner : Tree) → IsFull inner → depth inner ≡ j → IsPiece (tree_cell t) sx sy inner
          → corner_square (not a) (not b) inner (blank j) ≡ root_from t ox oy m
      joined-root tight inner whole level piece = quarter-is inner whole level piece ∙ root-is tight

      -- the root itself, and a part of the square of the box
      pub own-root : IsTight box j m → (P : Tree → Type 0) (inner : Tree) → IsFull inner → depth inner ≡ j → IsPiece (tree_cell t) sx sy inner
          → P (corner_square (not a) (not b) inner (blank j)) → SomePart P (root_from t ox oy m)
      own-root tight P inner whole level piece p =
          subst (SomePart P) (root-is tight) (own-part P g j _ _ _ (quarter-is inner whole level piece) p)

      pub inner-part : IsTight box j m → (P : Tree → Type 0) → SomePart P (square_from (tree_cell t) j sx sy) → SomePart P (root_from t ox oy m)
      inner-part tight P s =
          subst (SomePart P) (root-is tight) (corner-part P g j (not a) (not b) (subst (SomePart P) inner-square s))

-- the square of the plane that begins at another place
pub plane-is : (t r : Tree) (a b x0 y0 : ℤ) → IsFull r → depth r ≡ 62 → x0 ≡ neg_ℤ (pos (2 ^ 61)) +ℤ neg_ℤ a → y0 ≡ neg_ℤ (pos (2 ^ 61)) +ℤ neg_ℤ b
    → IsPiece (tree_cell t) x0 y0 r → r ≡ plane_from t (neg_ℤ a) (neg_ℤ b)
plane-is t r a b x0 y0 full level ex ey piece =
    let c = neg_ℤ (pos (2 ^ 61)) in
    piece-is (cells_from t (neg_ℤ a) (neg_ℤ b)) 62 c c r full level
    (piece-from (tree_cell t) (neg_ℤ a) (neg_ℤ b) r c c (IsPiece-moved (tree_cell t) _ _ _ _ r ex ey piece))

pub plane-square : (t : Tree) (a b x0 y0 : ℤ) → x0 ≡ neg_ℤ (pos (2 ^ 61)) +ℤ neg_ℤ a → y0 ≡ neg_ℤ (pos (2 ^ 61)) +ℤ neg_ℤ b
    → square_from (tree_cell t) 62 x0 y0 ≡ plane_from t (neg_ℤ a) (neg_ℤ b)
plane-square t a b x0 y0 ex ey = (λ i. square_from (tree_cell t) 62 (ex i) (ey i)) ∙ square-from (tree_cell t) (neg_ℤ a) (neg_ℤ b) 62 _ _
