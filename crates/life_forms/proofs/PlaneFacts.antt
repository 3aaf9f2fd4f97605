-- The cells of a square of the plane, and their way into their place.
use Rattle.std.proofs.Common.{◌≡◌, ◌≢◌, ℕ, ◌-◌, ◌≤◌, ◌^◌, Bool, true, false, refl, ap, ℤ, pos, neg_ℤ, ◌+ℤ◌, ◌≤ℤ◌, arith, pow_mono, List, if◌then◌else◌, to_z, of_z, w64}
use Rattle.std.proofs.lemmas.Int.{ints}
use Rattle.life_base.specs.Tree.{Tree, depth, tree_cell, half_side, is_blank_tree, state_at, point, quad}
use Rattle.life_base.specs.declared.bounds.Bounds.{Bounds}
use Rattle.life_base.specs.declared.cell.Cell.{Cell}
use Rattle.life_base.specs.declared.cell.TheConstants.{MAX_LEVEL}
use Rattle.life_base.specs.declared.rule.Rule.{Rule}
use Rattle.life_quad.specs.Cells as quad
use Rattle.life_quad.proofs.LawLemmas.{cells_lie_inside}
use Rattle.std.proofs.lemmas.Bool.{and_parts}
use Rattle.life_writer.specs.Texts.{IsBoundingBox, IsOrdered, AreCellsOf}
use Rattle.life_pattern.specs.Universe.{Universe, IsSame, IsWithin, IsBlankOutside, corner, square_universe}
use Rattle.life_forms.specs.Forms.{IsInPlace, plane_end, IsMoved}
use Rattle.life_forms.specs.Cells.{IsWay}
use Rattle.life_forms.proofs.ShiftFacts.{box-shifted, shift-sym, shift-of, shifted, still, shift-trans, in-place-at, moved-seen, has-box, one-box, there-and-back}
use Rattle.life_pattern.proofs.Sameness.{same-sym}
use Rattle.life_base.proofs.Basics.{plus_zero, zero_unless}

-- the plane's ends
pub low-end : corner MAX_LEVEL ≡ neg_ℤ (pos (2 ^ 61))
unfolding corner
low-end = refl

pub high-end : plane_end MAX_LEVEL ≡ pos (2 ^ 61)
unfolding corner
high-end = refl

-- cells of a square of the plane lie on it
pub lies-within : (t : Tree) → depth t ≤ MAX_LEVEL → (x y : ℤ) → tree_cell t x y ≢ 0 → IsWithin MAX_LEVEL x × IsWithin MAX_LEVEL y
lies-within t low x y some =
    let l = low-end in
    let e = high-end in
    let inside = cells_lie_inside t x y some in
    let up : depth t - 1 ≤ 61 = omega arith in
    let half : half_side t ≤ 2 ^ 61 = pow_mono {i = depth t - 1} {j = 61} up in
    ((omega (arith, ints), omega (arith, ints)), (omega (arith, ints), omega (arith, ints)))

pub outside-blank : (t : Tree) → depth t ≤ MAX_LEVEL → IsBlankOutside MAX_LEVEL (tree_cell t)
outside-blank t low x y out = zero_unless _ (λ some. out (lies-within t low x y some))

-- ---- blank squares

choice : (p q : Bool) (a b c d : ℕ) → a ≡ 0 → b ≡ 0 → c ≡ 0 → d ≡ 0 → (if p then (if q then a else b) else (if q then c else d)) ≡ 0
choice true true a b c d e f g h = e
choice true false a b c d e f g h = f
choice false true a b c d e f g h = g
choice false false a b c d e f g h = h

blank-state : (t : Tree) → is_blank_tree t ≡ true → (column row : ℕ) → state_at t column row ≡ 0
blank-state (point s) e column row = grind (arith, e)
blank-state (quad nw ne sw se) e column row =
    let one = and_parts _ _ e in
    let two = and_parts _ _ one.0 in
    let three = and_parts _ _ two.0 in
    choice _ _ _ _ _ _ (blank-state nw three.0 _ _) (blank-state ne three.1 _ _) (blank-state sw two.1 _ _) (blank-state se one.1 _ _)

pick : (p : Bool) (n : ℕ) → n ≡ 0 → (if p then n else 0) ≡ 0
pick true n e = e
pick false n e = refl

pub blank-cell : (t : Tree) → is_blank_tree t ≡ true → (x y : ℤ) → tree_cell t x y ≡ 0
blank-cell t e x y = pick _ _ (blank-state t e _ _)

-- ---- boxes of squares

pub box-of-square : (t : Tree) (box : Bounds) → quad.IsBoundingBoxOfTree t box → IsBoundingBox (tree_cell t) box
box-of-square t box least = record {
  inside = least.inside;
  at_left = least.at_left;
  at_right = least.at_right;
  at_top = least.at_top;
  at_bottom = least.at_bottom;
}

ordered : (low high : ℤ) → low ≤ℤ high → IsWithin MAX_LEVEL low → IsWithin MAX_LEVEL high → IsOrdered low high
ordered low high h a b =
    let l = low-end in
    let e = high-end in
    record { least = omega (arith, ints); order = h; most = omega (arith, ints) }

pub columns-ordered : (t : Tree) (box : Bounds) → depth t ≤ MAX_LEVEL → quad.IsBoundingBoxOfTree t box → IsOrdered box.left box.right
columns-ordered t box low least =
    let inside = least.inside _ _ least.at_left.1 in
    ordered _ _ inside.1 (lies-within t low _ _ least.at_left.1).0 (lies-within t low _ _ least.at_right.1).0

pub rows-ordered : (t : Tree) (box : Bounds) → depth t ≤ MAX_LEVEL → quad.IsBoundingBoxOfTree t box → IsOrdered box.top box.bottom
rows-ordered t box low least =
    let inside = least.inside _ _ least.at_top.1 in
    ordered _ _ inside.3 (lies-within t low _ _ least.at_top.1).1 (lies-within t low _ _ least.at_bottom.1).1

pub ordered-read : (low high : ℤ) → IsOrdered low high → IsOrdered (to_z w64 (of_z w64 low)) (to_z w64 (of_z w64 high))
ordered-read low high h =
    let a = h.least in
    let b = h.order in
    let c = h.most in
    record { least = omega (arith, ints); order = omega (arith, ints); most = omega (arith, ints) }

-- the way of one least box is that of all
pub way-of-box : (t : Tree) (found : Bounds) (a b : ℤ) → quad.IsBoundingBoxOfTree t found
    → IsInPlace MAX_LEVEL (found.left +ℤ a) (found.right +ℤ a) → IsInPlace MAX_LEVEL (found.top +ℤ b) (found.bottom +ℤ b) → IsWay (tree_cell t) a b
way-of-box t found a b is columns rows box least =
    let one = one-box _ _ _ (box-of-square t found is) least in (
      in-place-at MAX_LEVEL _ _ _ _ (ap (λ (k : ℤ). k +ℤ a) one.left) (ap (λ (k : ℤ). k +ℤ a) one.right) columns,
      in-place-at MAX_LEVEL _ _ _ _ (ap (λ (k : ℤ). k +ℤ b) one.top) (ap (λ (k : ℤ). k +ℤ b) one.bottom) rows,
    )

-- ---- moved by such a way

pub way-moved : (u : Universe) (a b : ℤ) → IsWay u.cell a b → IsMoved MAX_LEVEL u (shifted u a b)
unfolding shift-sym shift-of
way-moved u a b way = record {
  shift = shift-of u a b;
  form = λ other least.
      let place = way _ (box-shifted (shifted u a b) u (shift-sym _ _ (shift-of u a b)) other least) in (
        in-place-at MAX_LEVEL _ _ _ _ (there-and-back _ a) (there-and-back _ a) place.0,
        in-place-at MAX_LEVEL _ _ _ _ (there-and-back _ b) (there-and-back _ b) place.1,
      );
}

pub moved-same : (top : ℕ) (u v w : Universe) → IsMoved top u v → IsSame v w → IsMoved top u w
unfolding still
moved-same top u v w moved same = record {
  shift = shift-trans u v w moved.shift (still v w same);
  form = λ box least.
      let place = moved.form _ (box-shifted w v (still w v (same-sym v w same)) box least) in
      (in-place-at top _ _ _ _ (plus_zero _) (plus_zero _) place.0, in-place-at top _ _ _ _ (plus_zero _) (plus_zero _) place.1);
}

-- a form of a square of the plane is on the plane
pub form-outside : (t : Tree) (rule : Rule) (generation : ℕ) (v : Universe) → depth t ≤ MAX_LEVEL → IsMoved MAX_LEVEL (square_universe rule generation t) v
    → IsBlankOutside MAX_LEVEL v.cell
form-outside t rule generation v low moved x y out =
    let u = square_universe rule generation t in
    let before = outside-blank t low in
    zero_unless _ (λ some. out (moved-seen MAX_LEVEL u v moved before (has-box MAX_LEVEL u before) x y some))

pub are-cells : (t : Tree) (cells : List Cell) → quad.IsCellList t cells → AreCellsOf (tree_cell t) cells
are-cells t cells list = record { in_order = list.in_order; true_cells = list.true_cells; all_cells = list.all_cells }
