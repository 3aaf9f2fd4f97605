-- Squares in the middle of the plane.
use Rattle.std.proofs.Common.{◌≡◌, ◌≢◌, ℕ, ◌-◌, ◌^◌, ◌≤◌, ℤ, pos, neg_ℤ, ◌+ℤ◌, ◌≤ℤ◌, ◌<ℤ◌, sym, ◌∙◌, ap, ap₂, subst, arith}
use Rattle.std.proofs.lemmas.Int.{ints}
use Rattle.life_base.specs.Tree.{Tree, depth, half_side, tree_cell, IsFull}
use Rattle.life_base.specs.declared.bounds.Bounds.{Bounds}
use Rattle.life_base.proofs.Squares.{Inside}
use Rattle.life_base.proofs.Basics.{zero_unless}
use Rattle.life_quad.specs.Cells.{IsBoundingBoxOfTree}
use Rattle.life_quad.specs.Moves.{trimmed_square}
use Rattle.life_quad.proofs.LawLemmas.{cells_lie_inside, trimmed_by_cells, trimmed_is_fixed, trimming_keeps_cells, trimming_stops}
use Rattle.life_pieces.specs.Pieces.{IsPiece}
use Rattle.life_pieces.proofs.RootLemmas.{cells-of_root, corner}
use Rattle.life_later.specs.Margins.{IsBoxOnPlane}
use Rattle.life_slide.specs.Pieces.{IsNearMiddle}
use Rattle.life_slide.proofs.MovedLemmas.{piece-from}
use Rattle.life_phases.specs.Middle.{AreAsLarge, IsAsLargeAs, IsInMiddle, IsMovedBy, IsMiddleSide, IsSquareInMiddle, IsMiddleWay, NoShift}
use Rattle.life_phases.specs.declared.middle.Shift.{Shift}
use Rattle.life_phases.proofs.ShiftLemmas.{from, moved-back}

-- ---- boxes

-- a side in the middle that is moved to the middle stays
side-stays : (low high low2 high2 a : ℤ) → low2 ≡ low +ℤ a → high2 ≡ high +ℤ a → IsMiddleSide low high → IsMiddleSide low2 high2 → a ≡ pos 0
side-stays low high low2 high2 a e f one two =
    let u = one.low_end in
    let v = one.high_end in
    let w = two.low_end in
    let z = two.high_end in
    omega (arith, ints, e, f, u, v, w, z)

-- the box of the cells that aren't 0
record IsBoxAround (cells : ℤ → ℤ → ℕ) (box : Bounds) : Type 0 where
  inside : (x y : ℤ) → cells x y ≢ 0 → (box.left ≤ℤ x) × (x ≤ℤ box.right) × (box.top ≤ℤ y) × (y ≤ℤ box.bottom)
  at_left : (y : ℤ) × (cells box.left y ≢ 0)
  at_right : (y : ℤ) × (cells box.right y ≢ 0)
  at_top : (x : ℤ) × (cells x box.top ≢ 0)
  at_bottom : (x : ℤ) × (cells x box.bottom ≢ 0)

around-middle : (cells : ℤ → ℤ → ℕ) (h : IsInMiddle cells) → IsBoxAround cells h.box
around-middle cells h = record { inside = h.inside; at_left = h.at_left; at_right = h.at_right; at_top = h.at_top; at_bottom = h.at_bottom }

around-tree : (t : Tree) (box : Bounds) → IsBoundingBoxOfTree t box → IsBoxAround (tree_cell t) box
around-tree t box h = record { inside = h.inside; at_left = h.at_left; at_right = h.at_right; at_top = h.at_top; at_bottom = h.at_bottom }

-- the box of a pattern that is moved is moved as far
module _ (f g : ℤ → ℤ → ℕ) (p q : Bounds) (first : IsBoxAround f p) (second : IsBoxAround g q) (a b : ℤ) (moved : IsMovedBy a b f g) where
  ahead : (x y : ℤ) → f x y ≢ 0 → (q.left ≤ℤ (x +ℤ a)) × ((x +ℤ a) ≤ℤ q.right) × (q.top ≤ℤ (y +ℤ b)) × ((y +ℤ b) ≤ℤ q.bottom)
  ahead x y some = second.inside _ _ (λ none. some (sym (moved.cells x y) ∙ none))

  behind : (x y : ℤ) → g x y ≢ 0
      → (p.left ≤ℤ (x +ℤ neg_ℤ a)) × ((x +ℤ neg_ℤ a) ≤ℤ p.right) × (p.top ≤ℤ (y +ℤ neg_ℤ b)) × ((y +ℤ neg_ℤ b) ≤ℤ p.bottom)
  behind x y some = first.inside _ _ (λ none. some (sym ((moved-back a b f g moved).cells x y) ∙ none))

  left-moves : q.left ≡ p.left +ℤ a
  left-moves =
      let u = (ahead _ _ first.at_left.1).0 in
      let v = (behind _ _ second.at_left.1).0 in
      omega (arith, ints, u, v)

  right-moves : q.right ≡ p.right +ℤ a
  right-moves =
      let u = (ahead _ _ first.at_right.1).1 in
      let v = (behind _ _ second.at_right.1).1 in
      omega (arith, ints, u, v)

  top-moves : q.top ≡ p.top +ℤ b
  top-moves =
      let u = (ahead _ _ first.at_top.1).2 in
      let v = (behind _ _ second.at_top.1).2 in
      omega (arith, ints, u, v)

  bottom-moves : q.bottom ≡ p.bottom +ℤ b
  bottom-moves =
      let u = (ahead _ _ first.at_bottom.1).3 in
      let v = (behind _ _ second.at_bottom.1).3 in
      omega (arith, ints, u, v)

  as-large : AreAsLarge p q
  as-large =
      let l = left-moves in
      let r = right-moves in
      let t = top-moves in
      let d = bottom-moves in
      record { columns = omega (arith, ints, l, r); rows = omega (arith, ints, t, d) }

pub moved-as-large : (s t : Tree) (box : Bounds) (a b : ℤ) → IsBoundingBoxOfTree s box → IsMovedBy a b (tree_cell s) (tree_cell t) → IsAsLargeAs box t
moved-as-large s t box a b is moved other there =
    as-large (tree_cell s) (tree_cell t) box other (around-tree s box is) (around-tree t other there) a b moved

-- a square whose box isn't as large as that of the first one isn't the first one, moved
pub other-size : (s t : Tree) (outline found : Bounds) → IsSquareInMiddle s → IsAsLargeAs outline s → IsBoundingBoxOfTree t found
    → ¬ (AreAsLarge outline found) → NoShift (tree_cell s) (tree_cell t)
other-size s t outline found first size is other a b moved =
    let m = first.middle in
    let o = size m.box (record { inside = m.inside; at_left = m.at_left; at_right = m.at_right; at_top = m.at_top; at_bottom = m.at_bottom }) in
    let h = as-large (tree_cell s) (tree_cell t) m.box found (around-middle (tree_cell s) m) (around-tree t found is) a b moved in
    let oc = o.columns in
    let or = o.rows in
    let hc = h.columns in
    let hr = h.rows in
    other (record { columns = omega (arith, ints, oc, hc); rows = omega (arith, ints, or, hr) })

-- two patterns in the middle, of which one is the other one, moved, are the same
module _ (f g : ℤ → ℤ → ℕ) (first : IsInMiddle f) (second : IsInMiddle g) (a b : ℤ) (moved : IsMovedBy a b f g) where
  one : IsBoxAround f first.box
  one = around-middle f first

  two : IsBoxAround g second.box
  two = around-middle g second

  columns-stay : a ≡ pos 0
  columns-stay =
      side-stays _ _ _ _ a (left-moves f g _ _ one two a b moved) (right-moves f g _ _ one two a b moved) first.across second.across

  rows-stay : b ≡ pos 0
  rows-stay =
      side-stays _ _ _ _ b (top-moves f g _ _ one two a b moved) (bottom-moves f g _ _ one two a b moved) first.down second.down

  pub same-pattern : (x y : ℤ) → g x y ≡ f x y
  same-pattern x y =
      let ea = columns-stay in
      let eb = rows-stay in
      let ex : x ≡ x +ℤ a = omega (arith, ints, ea) in
      let ey : y ≡ y +ℤ b = omega (arith, ints, eb) in
      ap₂ g ex ey ∙ moved.cells x y

-- so are their squares
pub same-middle : (s t : Tree) → IsSquareInMiddle s → IsSquareInMiddle t → (a b : ℤ) → IsMovedBy a b (tree_cell s) (tree_cell t) → IsFull s → IsFull t → s ≡ t
same-middle s t first second a b moved fs ft =
    sym first.trimmed
    ∙ (trimmed_by_cells s t 3 fs ft (omega arith) first.low second.low).1
    (λ x y. sym (same-pattern (tree_cell s) (tree_cell t) first.middle second.middle a b moved x y))
    ∙ second.trimmed

-- ---- moved to the middle

-- a moved side is within the square that it was in
side-inside : (low high a u : ℤ) (h : ℕ) → IsMiddleSide (low +ℤ a) (high +ℤ a) → neg_ℤ (pos h) ≤ℤ low → high <ℤ pos h → low ≤ℤ (u +ℤ neg_ℤ a)
    → (u +ℤ neg_ℤ a) ≤ℤ high → (neg_ℤ (pos h) ≤ℤ u) × (u <ℤ pos h)
side-inside low high a u h m west east l r =
    let v = m.low_end in
    let w = m.high_end in (
      omega (arith, ints, v, w, west, east, l, r),
      omega (arith, ints, v, w, west, east, l, r),
    )

-- where it is cut out of the square
side-near : (low high a : ℤ) (k : ℕ) → IsMiddleSide (low +ℤ a) (high +ℤ a) → neg_ℤ (pos (2 ^ (k - 1))) ≤ℤ low → low ≤ℤ high → high <ℤ pos (2 ^ (k - 1))
    → IsNearMiddle k (neg_ℤ (pos (2 ^ (k - 1))) +ℤ neg_ℤ a)
side-near low high a k m west order east =
    let v = m.low_end in
    let w = m.high_end in
    record { low = omega (arith, ints, v, w, west, order, east); high = omega (arith, ints, v, w, west, order, east) }

-- it moves by no more than half of the plane
side-way : (low high a : ℤ) → IsMiddleSide (low +ℤ a) (high +ℤ a) → neg_ℤ (pos (2 ^ 61)) ≤ℤ low → low ≤ℤ high → high <ℤ pos (2 ^ 61)
    → (neg_ℤ (pos (2 ^ 61)) ≤ℤ a) × (a ≤ℤ pos (2 ^ 61))
side-way low high a m west order east =
    let v = m.low_end in
    let w = m.high_end in
    (omega (arith, ints, v, w, west, order, east), omega (arith, ints, v, w, west, order, east))

pub columns-order : (t : Tree) (box : Bounds) → IsBoundingBoxOfTree t box → box.left ≤ℤ box.right
columns-order t box is = (is.inside _ _ is.at_left.1).1

pub rows-order : (t : Tree) (box : Bounds) → IsBoundingBoxOfTree t box → box.top ≤ℤ box.bottom
rows-order t box is = (is.inside _ _ is.at_top.1).3

pub columns-way : (t : Tree) (box : Bounds) (way : Shift) → IsBoundingBoxOfTree t box → IsBoxOnPlane box → IsMiddleWay box way
    → (neg_ℤ (pos (2 ^ 61)) ≤ℤ way.columns) × (way.columns ≤ℤ pos (2 ^ 61))
columns-way t box way is plane middle = side-way _ _ _ middle.across plane.left.from (columns-order t box is) plane.right.to

pub rows-way : (t : Tree) (box : Bounds) (way : Shift) → IsBoundingBoxOfTree t box → IsBoxOnPlane box → IsMiddleWay box way
    → (neg_ℤ (pos (2 ^ 61)) ≤ℤ way.rows) × (way.rows ≤ℤ pos (2 ^ 61))
rows-way t box way is plane middle = side-way _ _ _ middle.down plane.top.from (rows-order t box is) plane.bottom.to

module _ (t : Tree) (box : Bounds) (is : IsBoundingBoxOfTree t box) (way : Shift) (middle : IsMiddleWay box way) where
  abbrev a : ℤ
  a = way.columns

  abbrev b : ℤ
  b = way.rows

  pub column-near : IsNearMiddle (depth t) (corner t +ℤ neg_ℤ a)
  column-near =
      let w = (cells_lie_inside t _ _ is.at_left.1).0 in
      let e = (cells_lie_inside t _ _ is.at_right.1).1 in
      let i = (is.inside _ _ is.at_left.1).1 in
      side-near box.left box.right a (depth t) middle.across w i e

  pub row-near : IsNearMiddle (depth t) (corner t +ℤ neg_ℤ b)
  row-near =
      let n = (cells_lie_inside t _ _ is.at_top.1).2 in
      let s = (cells_lie_inside t _ _ is.at_bottom.1).3 in
      let i = (is.inside _ _ is.at_top.1).3 in
      side-near box.top box.bottom b (depth t) middle.down n i s

  -- the moved cells stay in the square
  outside-zero : (x y : ℤ) → (Inside (half_side t) x y → ⊥) → from (tree_cell t) (neg_ℤ a) (neg_ℤ b) x y ≡ 0
  outside-zero x y apart = zero_unless _ (λ some.
      let i = is.inside _ _ some in
      let w = (cells_lie_inside t _ _ is.at_left.1).0 in
      let e = (cells_lie_inside t _ _ is.at_right.1).1 in
      let n = (cells_lie_inside t _ _ is.at_top.1).2 in
      let s = (cells_lie_inside t _ _ is.at_bottom.1).3 in
      let c = side-inside box.left box.right a x (half_side t) middle.across w e i.0 i.1 in
      let r = side-inside box.top box.bottom b y (half_side t) middle.down n s i.2 i.3 in
      apart (record { west = c.0; east = c.1; north = r.0; south = r.1 }))

  module _ (r : Tree) (full : IsFull r) (level : depth r ≡ depth t) (low : 3 ≤ depth t)
      (piece : IsPiece (tree_cell t) (corner t +ℤ neg_ℤ a) (corner t +ℤ neg_ℤ b) r) where
    cells-moved : (x y : ℤ) → tree_cell r x y ≡ tree_cell t (x +ℤ neg_ℤ a) (y +ℤ neg_ℤ b)
    cells-moved =
        let same : half_side r ≡ half_side t = ap (λ k. 2 ^ (k - 1)) level in
        cells-of_root (from (tree_cell t) (neg_ℤ a) (neg_ℤ b)) r (corner t) full (omega (arith, level, low)) (ap (λ n. neg_ℤ (pos n)) (sym same))
        (piece-from (tree_cell t) (neg_ℤ a) (neg_ℤ b) r (corner t) (corner t) piece)
        (λ x y apart. outside-zero x y (λ i. apart (subst (λ n. Inside n x y) (sym same) i)))

    module _ (u : Tree) (trimmed : u ≡ trimmed_square r 3) where
      cells-trimmed : (x y : ℤ) → tree_cell u x y ≡ tree_cell t (x +ℤ neg_ℤ a) (y +ℤ neg_ℤ b)
      cells-trimmed x y = ap (λ s. tree_cell s x y) trimmed ∙ trimming_keeps_cells r 3 full (omega arith) x y ∙ cells-moved x y

      pub middle-moved : IsMovedBy a b (tree_cell t) (tree_cell u)
      middle-moved =
          let back : (x c : ℤ) → (x +ℤ c) +ℤ neg_ℤ c ≡ x = (λ x c. omega (arith, ints)) in
          record { cells = λ x y. cells-trimmed _ _ ∙ ap₂ (tree_cell t) (back x a) (back y b) }

      in-box : (x y : ℤ)
          → (box.left ≤ℤ (x +ℤ neg_ℤ a)) × ((x +ℤ neg_ℤ a) ≤ℤ box.right) × (box.top ≤ℤ (y +ℤ neg_ℤ b)) × ((y +ℤ neg_ℤ b) ≤ℤ box.bottom)
          → ((box.left +ℤ a) ≤ℤ x) × (x ≤ℤ (box.right +ℤ a)) × ((box.top +ℤ b) ≤ℤ y) × (y ≤ℤ (box.bottom +ℤ b))
      in-box x y (l, r, o, p) = (omega (arith, ints), omega (arith, ints), omega (arith, ints), omega (arith, ints))

      pub middle-square : IsSquareInMiddle u
      middle-square =
          let m = middle-moved in
          record {
            low = subst (λ s. 3 ≤ depth s) (sym trimmed) ((trimming_stops r 3 full (omega arith)).0 (omega (arith, level, low)));
            trimmed = ap (λ s. trimmed_square s 3) trimmed ∙ (trimmed_is_fixed r 3 full (omega arith)).1 ∙ sym trimmed;
            middle = record {
              box = record { left = box.left +ℤ a; top = box.top +ℤ b; right = box.right +ℤ a; bottom = box.bottom +ℤ b };
              inside = λ x y some. in-box x y (is.inside _ _ (λ none. some (cells-trimmed x y ∙ none)));
              at_left = (is.at_left.0 +ℤ b, λ none. is.at_left.1 (sym (m.cells _ _) ∙ none));
              at_right = (is.at_right.0 +ℤ b, λ none. is.at_right.1 (sym (m.cells _ _) ∙ none));
              at_top = (is.at_top.0 +ℤ a, λ none. is.at_top.1 (sym (m.cells _ _) ∙ none));
              at_bottom = (is.at_bottom.0 +ℤ a, λ none. is.at_bottom.1 (sym (m.cells _ _) ∙ none));
              across = middle.across;
              down = middle.down;
            };
          }
