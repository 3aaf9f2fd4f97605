-- The plane of the moved cells of a square, and its root.
use Rattle.std.proofs.Common.{◌≡◌, ◌≢◌, ◌⊎◌, ℕ, zero, suc, ◌^◌, ◌<◌, ◌≤◌, true, inl, inr, refl, sym, ◌∙◌, ap, subst, ℤ, pos, neg_ℤ, ◌+ℤ◌, ◌≤ℤ◌, ◌<ℤ◌, arith, pow_mono}
use Rattle.std.proofs.lemmas.Int.{ints}
use Rattle.std.proofs.lemmas.Bool.{cases_lt}
use Rattle.life_base.specs.Tree.{Tree, depth, blank, tree_cell, is_blank_tree, IsFull}
use Rattle.life_base.specs.declared.bounds.Bounds.{Bounds}
use Rattle.life_base.specs.declared.cell.TheConstants.{MAX_LEVEL}
use Rattle.life_base.specs.declared.rule.Rule.{Rule}
use Rattle.life_base.proofs.Squares.{depth-blank, full-blank, is_blank-blank, same_quads}
use Rattle.life_base.proofs.Basics.{halves}
use Rattle.life_quad.specs.Cells as square
use Rattle.life_quad.specs.Moves.{trimmed_square}
use Rattle.life_quad.specs.Refused.{SomePart}
use Rattle.life_quad.proofs.LawLemmas.{cells_lie_inside, trimmed_by_cells, trimming_stops}
use Rattle.life_pieces.specs.Pieces.{square_from}
use Rattle.life_pieces.proofs.NeedLemmas.{depth-square}
use Rattle.life_pieces.proofs.NeedLemmas.{full-square}
use Rattle.life_pattern.specs.Universe.{Universe, IsSame, IsBlankOutside, centred_square, corner, least_level, square_universe, whole}
use Rattle.life_pattern.specs.Universe as canon
use Rattle.life_slide.specs.Pieces.{cells_from, plane_from, root_from}
use Rattle.life_slide.proofs.MovedLemmas.{cell-below, centre-cells, trim-reach}
use Rattle.life_forms.specs.Cells.{IsWay}
use Rattle.life_forms.specs.Forms.{IsInPlace, IsMoved, at_edge, at_zero}
use Rattle.life_forms.specs.Needed.{IsMovedRoot, SomeOfMovedForm, SomeOfMovedRoot}
use Rattle.life_forms.proofs.PatternFacts.{plane-moved, shift-up-to}
use Rattle.life_forms.proofs.PlaneFacts.{blank-cell, box-of-square, form-outside, high-end, moved-same, outside-blank, way-moved, way-of-box}
use Rattle.life_forms.proofs.ShiftFacts.{forms-of-shifts, same-refl, shifted, still}
use Rattle.life_pattern.proofs.Sameness.{same-is_one}

-- ---- the square of the whole plane

-- two definitions of a square of a plane
pub square-same : (f : ℤ → ℤ → ℕ) (k : ℕ) (x y : ℤ) → square_from f k x y ≡ canon.square f k x y
unfolding square_from canon.square
square-same f zero x y = refl
square-same f (suc k) x y =
    same_quads (square-same f k x y) (square-same f k _ y) (square-same f k x _) (square-same f k _ _)

pub centred-is : (f : ℤ → ℤ → ℕ) → square_from f 62 (neg_ℤ (pos (2 ^ 61))) (neg_ℤ (pos (2 ^ 61))) ≡ centred_square f MAX_LEVEL
unfolding centred_square corner
centred-is f = square-same f 62 _ _

module _ (f : ℤ → ℤ → ℕ) (below : (x y : ℤ) → f x y < 256) where
  pub full-centred : IsFull (centred_square f MAX_LEVEL)
  full-centred = subst IsFull (centred-is f) (full-square f below 62 _ _)

  pub depth-centred : depth (centred_square f MAX_LEVEL) ≡ 62
  depth-centred = subst (λ t. depth t ≡ 62) (centred-is f) (depth-square f 62 _ _)

  pub cells-centred : IsBlankOutside MAX_LEVEL f → (x y : ℤ) → tree_cell (centred_square f MAX_LEVEL) x y ≡ f x y
  unfolding corner
  cells-centred outside x y =
      subst (λ t. tree_cell t x y ≡ f x y) (centred-is f)
      (centre-cells f below 61 (λ u v apart. outside u v (λ i.
      let w = i.0.0 in
      let e = i.0.1 in
      let n = i.1.0 in
      let s = i.1.1 in
      apart (record {
        west = omega (arith, ints, w);
        east = omega (arith, ints, e);
        north = omega (arith, ints, n);
        south = omega (arith, ints, s);
      }))) x y)

-- a square is trimmed as that of the whole plane with its cells
module _ (t : Tree) (full : IsFull t) (low : depth t ≤ MAX_LEVEL) (m : ℕ) (positive : 1 ≤ m) (high : m ≤ depth t) where
  abbrev plane-of : Tree
  plane-of = centred_square (tree_cell t) MAX_LEVEL

  below : (x y : ℤ) → tree_cell t x y < 256
  below = cell-below t full

  deep : depth plane-of ≡ 62
  deep = depth-centred (tree_cell t) below

  pub trimmed-whole : trimmed_square t m ≡ trimmed_square (centred_square (tree_cell t) MAX_LEVEL) m
  trimmed-whole =
      (trimmed_by_cells t plane-of m full (full-centred (tree_cell t) below) positive high (omega (arith, deep, low, high))).1
      (λ x y. sym (cells-centred (tree_cell t) below (outside-blank t low) x y))

-- ---- the forms

-- a blank square is in its place
blank-moved : (t : Tree) → is_blank_tree t ≡ true → (rule : Rule) (generation : ℕ)
    → IsMoved MAX_LEVEL (square_universe rule generation t) (square_universe rule generation t)
blank-moved t e rule generation =
    let u = square_universe rule generation t in
    record { shift = still u u (same-refl u); form = λ box least. absurd (least.at_left.1 (blank-cell t e _ _)) }

module _ (t : Tree) (none : is_blank_tree t ≡ true) (full : IsFull t) (low : depth t ≤ MAX_LEVEL) (m : ℕ) (positive : 1 ≤ m) (high : m ≤ depth t) (rule : Rule)
    (generation : ℕ) where
  -- the blank square of the least level is the root
  pub blank-root : (root : Tree) → root ≡ blank m → IsMovedRoot (square_universe rule generation t) m root
  blank-root root is =
      let deep : depth (blank m) ≡ m = depth-blank m in
      let still = (trimming_stops (blank m) m (full-blank m) positive).1 (omega (arith, deep)) in
      let same = (trimmed_by_cells (blank m) t m (full-blank m) full positive (omega (arith, deep)) high).1
      (λ x y. blank-cell (blank m) (is_blank-blank m) x y ∙ sym (blank-cell t none x y)) in
      record {
        form = square_universe rule generation t;
        moved = blank-moved t none rule generation;
        square = is ∙ sym still ∙ same ∙ trimmed-whole t full low m positive high;
      }

back : (z : ℤ) → neg_ℤ (neg_ℤ z) ≡ z
back z = omega (arith, ints)

-- a box that fits into a quarter of the plane
module _ (t : Tree) (box : Bounds) (least : square.IsBoundingBoxOfTree t box) (columns : box.right <ℤ (box.left +ℤ pos (2 ^ 61)))
    (rows : box.bottom <ℤ (box.top +ℤ pos (2 ^ 61))) (rule : Rule) (generation : ℕ) where
  abbrev u : Universe
  u = square_universe rule generation t

  abbrev form : Universe
  form = record { rule = rule; generation = generation; cell = cells_from t box.left box.top }

  way : IsWay (tree_cell t) (neg_ℤ box.left) (neg_ℤ box.top)
  way =
      let e = high-end in
      way-of-box t box _ _ least (at_zero (omega (arith, ints)) (omega (arith, ints, e, columns)))
      (at_zero (omega (arith, ints)) (omega (arith, ints, e, rows)))

  form-moved : IsMoved MAX_LEVEL u form
  form-moved =
      let ex = back box.left in
      let ey = back box.top in
      moved-same MAX_LEVEL u (shifted u (neg_ℤ box.left) (neg_ℤ box.top)) form (way-moved u _ _ way)
      (record { rule = refl; generation = refl; cells = λ x y i. tree_cell t (x +ℤ ex i) (y +ℤ ey i) })

  pub middle-root : (m : ℕ) (root : Tree) → root ≡ root_from t box.left box.top m → IsMovedRoot u m root
  middle-root m root is = record { form = form; moved = form-moved; square = is ∙ ap (λ p. trimmed_square p m) (centred-is _) }

  pub middle-needed : (P : Tree → Type 0) (m : ℕ) → SomePart P (root_from t box.left box.top m) → SomeOfMovedRoot P u m
  middle-needed P m h = (form, form-moved, subst (λ p. SomePart P (trimmed_square p m)) (centred-is _) h)

-- a side that doesn't fit into half of the plane ends far from its middle
far-end : (low high : ℤ) → IsInPlace MAX_LEVEL low high → (low +ℤ pos (2 ^ 61)) ≤ℤ high → pos (2 ^ 60) ≤ℤ high
far-end low high (at_zero first less) long = let e = high-end in absurd (omega (arith, ints, e, first, less, long))
far-end low high (at_edge before end) long = let e = high-end in omega (arith, ints, e, end)

-- a box that doesn't
module _ (t : Tree) (box : Bounds) (least : square.IsBoundingBoxOfTree t box)
    (long : ((box.left +ℤ pos (2 ^ 61)) ≤ℤ box.right) ⊎ ((box.top +ℤ pos (2 ^ 61)) ≤ℤ box.bottom)) (full : IsFull t) (low : depth t ≤ MAX_LEVEL) where
  wide-level : (n : ℕ) → n ≤ 62 → 2 ^ 61 < 2 ^ n → n ≡ 62
  wide-level n le more = by (cases_lt n 62)
    where
      by : (n < 62) ⊎ (62 ≤ n) → n ≡ 62
      by (inl l) = let short : 2 ^ n ≤ 2 ^ 61 = pow_mono {i = n} {j = 61} (omega (arith, l)) in absurd (omega (arith, short, more))
      by (inr l) = omega (arith, le, l)

  beyond : 1 ≤ depth t → ((box.left +ℤ pos (2 ^ 61)) ≤ℤ box.right) ⊎ ((box.top +ℤ pos (2 ^ 61)) ≤ℤ box.bottom) → 2 ^ 61 < 2 ^ depth t
  beyond high (inl l) =
      let w = (cells_lie_inside t _ _ least.at_left.1).0 in
      let e = (cells_lie_inside t _ _ least.at_right.1).1 in
      let twice = halves (depth t) high in
      omega (arith, ints, l, w, e, twice)
  beyond high (inr l) =
      let w = (cells_lie_inside t _ _ least.at_top.1).2 in
      let e = (cells_lie_inside t _ _ least.at_bottom.1).3 in
      let twice = halves (depth t) high in
      omega (arith, ints, l, w, e, twice)

  -- the square is that of the whole plane
  pub is-whole : 1 ≤ depth t → depth t ≡ MAX_LEVEL
  is-whole high = wide-level (depth t) low (beyond high long)

  module _ (a b : ℤ) (way : IsWay (tree_cell t) a b) (rule : Rule) (generation : ℕ) (m : ℕ) (positive : 1 ≤ m) where
    abbrev v : Universe
    v = square_universe rule generation t

    abbrev placed : Universe
    placed = shifted v a b

    placed-moved : IsMoved MAX_LEVEL v placed
    placed-moved = way-moved v a b way

    placed-states : (x y : ℤ) → placed.cell x y < 256
    placed-states x y = cell-below t full _ _

    abbrev plane : Tree
    plane = centred_square placed.cell MAX_LEVEL

    -- a cell in its place
    there : (x y : ℤ) → tree_cell t x y ≢ 0 → tree_cell plane (x +ℤ a) (y +ℤ b) ≢ 0
    there x y some e =
        let cells = cells-centred placed.cell placed-states (form-outside t rule generation placed low placed-moved) (x +ℤ a) (y +ℤ b) in
        let ex : (x +ℤ a) +ℤ neg_ℤ a ≡ x = omega (arith, ints) in
        let ey : (y +ℤ b) +ℤ neg_ℤ b ≡ y = omega (arith, ints) in
        some (sym (λ i. tree_cell t (ex i) (ey i)) ∙ sym cells ∙ e)

    plane-still : ((box.left +ℤ pos (2 ^ 61)) ≤ℤ box.right) ⊎ ((box.top +ℤ pos (2 ^ 61)) ≤ℤ box.bottom) → trimmed_square plane m ≡ plane
    plane-still (inl l) =
        let place = (way box (box-of-square t box least)).0 in
        let far = far-end _ _ place (omega (arith, ints, l)) in
        trim-reach plane (full-centred placed.cell placed-states) m positive 61 (depth-centred placed.cell placed-states) _ _ (there _ _ least.at_right.1)
        (λ i. let e = i.east in omega (arith, ints, far, e))
    plane-still (inr l) =
        let place = (way box (box-of-square t box least)).1 in
        let far = far-end _ _ place (omega (arith, ints, l)) in
        trim-reach plane (full-centred placed.cell placed-states) m positive 61 (depth-centred placed.cell placed-states) _ _ (there _ _ least.at_bottom.1)
        (λ i. let e = i.south in omega (arith, ints, far, e))

    pub plane-root : (root : Tree) → root ≡ plane_from t (neg_ℤ a) (neg_ℤ b) → IsMovedRoot v m root
    plane-root root is = record { form = placed; moved = placed-moved; square = is ∙ centred-is _ ∙ sym (plane-still long) }

    pub plane-needed : (P : Tree → Type 0) → SomePart P (plane_from t (neg_ℤ a) (neg_ℤ b)) → SomeOfMovedRoot P v m
    plane-needed P h = (placed, placed-moved, subst (SomePart P) (centred-is _ ∙ sym (plane-still long)) h)

-- ---- the root is that of a pattern

module _ (t : Tree) (full : IsFull t) (low : depth t ≤ MAX_LEVEL) (rule : Rule) (generation : ℕ) (root : Tree)
    (is : IsMovedRoot (square_universe rule generation t) (least_level rule) root) where
  abbrev w : Universe
  w = is.form

  small : (n : ℕ) → n ≤ 255 → n < 256
  small n h = omega (arith, h)

  most : (n : ℕ) → n < 256 → n ≤ 255
  most n h = omega (arith, h)

  pub states : (x y : ℤ) → w.cell x y < 256
  states x y = small _ (shift-up-to 255 (square_universe rule generation t) w is.moved.shift (λ u v. most _ (cell-below t full u v)) x y)

  plane-same : IsSame w (square_universe rule generation (centred_square w.cell MAX_LEVEL))
  plane-same = record {
    rule = sym is.moved.shift.rule;
    generation = sym is.moved.shift.generation;
    cells = λ x y. sym (cells-centred w.cell states (form-outside t rule generation w low is.moved) x y);
  }

  pub root-moved : IsMoved MAX_LEVEL (square_universe rule generation t) (square_universe rule generation root)
  root-moved =
      plane-moved rule generation root (centred_square w.cell MAX_LEVEL) (square_universe rule generation t) is.square (full-centred w.cell states)
      (moved-same MAX_LEVEL _ w _ is.moved plane-same)

-- ---- one root

-- each moved form of a square has the root that is found
pub root-of-form : (t : Tree) → depth t ≤ MAX_LEVEL → (rule : Rule) (generation : ℕ) (root : Tree)
    → IsMovedRoot (square_universe rule generation t) (least_level rule) root → (v : Universe) → IsMoved MAX_LEVEL (square_universe rule generation t) v
    → root ≡ whole MAX_LEVEL v
unfolding whole
root-of-form t low rule generation root is v moved =
    let u = square_universe rule generation t in
    let same = same-is_one is.form v (forms-of-shifts MAX_LEVEL u u is.form v (outside-blank t low) is.moved moved (still u u (same-refl u))) in
    is.square ∙ (λ i. trimmed_square (centred_square (same i).cell MAX_LEVEL) (least_level rule))
    ∙ ap (λ r. trimmed_square (centred_square v.cell MAX_LEVEL) (least_level r)) moved.shift.rule

pub form-of-root : (P : Tree → Type 0) (u : Universe) → SomeOfMovedRoot P u (least_level u.rule) → SomeOfMovedForm P u
unfolding whole
form-of-root P u (v, moved, some) =
    (v, moved, subst (λ r. SomePart P (trimmed_square (centred_square v.cell MAX_LEVEL) (least_level r))) moved.shift.rule some)
