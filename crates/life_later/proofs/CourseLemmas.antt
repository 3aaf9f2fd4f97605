-- The leaps of a course, one after another.
use Rattle.std.proofs.Common.{◌≡◌, ℕ, ◌+◌, ◌-◌, ◌^◌, ◌<◌, ◌≤◌, false, true, ℤ, sym, ◌∙◌, ap, subst, arith}
use Rattle.std.proofs.lemmas.Int.{ints, by_lt_z}
use Rattle.life_base.specs.Sets.{OuterTotalistic}
use Rattle.life_base.specs.Tree.{Tree, depth, half_side, is_blank_tree, tree_cell, IsFull}
use Rattle.life_base.proofs.Basics.{halves}
use Rattle.life_base.proofs.Squares.{blank_is}
use Rattle.life_pieces.proofs.PieceLemmas.{zero-of_blank}
use Rattle.life_pieces.proofs.RootLemmas.{alone-root, corner, piece-of_root}
use Rattle.life_base.specs.declared.bounds.Bounds.{Bounds}
use Rattle.std.proofs.Math.Pow.{pow_mono}
use Rattle.life_base.specs.Rules.{has_digit}
use Rattle.life_pieces.specs.Pieces.{IsPiece, step_ahead}
use Rattle.life_quad.proofs.LawLemmas.{cells_lie_inside}
use Rattle.life_quad.specs.Cells.{IsBoundingBoxOfTree}
use Rattle.life_leap.specs.After.{after}
use Rattle.life_leap.specs.Leaps.{HasPlaneMargin}
use Rattle.life_leap.proofs.AfterLemmas.{after-adds, after-none, after-binary, zero-later}
use Rattle.life_later.specs.Margins.{IsBoxOnPlane, IsPlaneMargin}

pub none-later : (rule : OuterTotalistic) (t : Tree) (x y : ℤ) → tree_cell t x y ≡ after rule 0 (tree_cell t) x y
none-later rule t x y = ap (λ (f : ℤ → ℤ → ℕ). f x y) (sym (after-none rule (tree_cell t)))

-- two courses after one another
pub then-later : (rule : OuterTotalistic) (m n : ℕ) (t u v : Tree) → ((x y : ℤ) → tree_cell u x y ≡ after rule m (tree_cell t) x y)
    → ((x y : ℤ) → tree_cell v x y ≡ after rule n (tree_cell u) x y) → (x y : ℤ) → tree_cell v x y ≡ after rule (n + m) (tree_cell t) x y
then-later rule m n t u v first second x y =
    let same : tree_cell u ≡ after rule m (tree_cell t) = (λ i z w. first z w i) in
    second x y ∙ ap (λ (f : ℤ → ℤ → ℕ). after rule n f x y) same ∙ ap (λ (f : ℤ → ℤ → ℕ). f x y) (sym (after-adds rule n m (tree_cell t)))

pub binary-later : (rule : OuterTotalistic) (m : ℕ) (t u : Tree) → ((x y : ℤ) → tree_cell t x y < 2)
    → ((x y : ℤ) → tree_cell u x y ≡ after rule m (tree_cell t) x y) → (x y : ℤ) → tree_cell u x y < 2
binary-later rule m t u binary h x y = subst (λ n. n < 2) (sym (h x y)) (after-binary rule m (tree_cell t) binary x y)

pub margin-of_box : (t : Tree) (box : Bounds) (margin n : ℕ) → IsBoundingBoxOfTree t box → IsPlaneMargin box margin → n ≤ margin → HasPlaneMargin n t
margin-of_box t box margin n inside free few x y some =
    let i = inside.inside x y some in
    let a = i.0 in
    let b = i.1 in
    let c = i.2 in
    let d = i.3 in
    let l = free.left in
    let r = free.right in
    let u = free.top in
    let v = free.bottom in
    (omega (arith, ints, few, a, l), omega (arith, ints, few, b, r), omega (arith, ints, few, c, u), omega (arith, ints, few, d, v))

-- the box of a square's cells is on the plane
pub box-on_plane : (t : Tree) (box : Bounds) → 1 ≤ depth t → depth t ≤ 62 → IsBoundingBoxOfTree t box → IsBoxOnPlane box
box-on_plane t box low high h =
    let half : half_side t ≤ 2 ^ 61 = pow_mono {i = depth t - 1} {j = 61} (omega (arith, high)) in
    let l = cells_lie_inside t _ _ h.at_left.1 in
    let r = cells_lie_inside t _ _ h.at_right.1 in
    let u = cells_lie_inside t _ _ h.at_top.1 in
    let v = cells_lie_inside t _ _ h.at_bottom.1 in
    let a = l.0 in
    let b = l.1 in
    let c = r.0 in
    let d = r.1 in
    let e = u.2 in
    let f = u.3 in
    let i = v.2 in
    let j = v.3 in
    record {
      left = record { from = omega (arith, ints, half, a); to = omega (arith, ints, half, b) };
      top = record { from = omega (arith, ints, half, e); to = omega (arith, ints, half, f) };
      right = record { from = omega (arith, ints, half, c); to = omega (arith, ints, half, d) };
      bottom = record { from = omega (arith, ints, half, i); to = omega (arith, ints, half, j) };
    }

-- a plane without cells stays so
pub blank-later : (rule : OuterTotalistic) (n : ℕ) (t : Tree) → has_digit rule.sets.births 0 ≡ false → ((x y : ℤ) → tree_cell t x y ≡ 0) → (x y : ℤ)
    → tree_cell t x y ≡ after rule n (tree_cell t) x y
blank-later rule n t quiet none x y =
    let z = zero-later rule n (tree_cell t) x y (step_ahead x 1) (step_ahead y 1) quiet (record { zero_at = λ u v a b c d. none u v }) in
    none x y ∙ sym (z.zero_at x y (omega (arith, ints)) (omega (arith, ints)) (omega (arith, ints)) (omega (arith, ints)))

-- a blank square has no cell
pub blank-cells : (t : Tree) → IsFull t → 1 ≤ depth t → is_blank_tree t ≡ true → (x y : ℤ) → tree_cell t x y ≡ 0
blank-cells t full high none x y =
    let p = subst (IsPiece (tree_cell t) (corner t) (corner t)) (blank_is t full none) (piece-of_root t full high) in
    let z = zero-of_blank (tree_cell t) (depth t) (corner t) (corner t) p in
    let alone = alone-root t in
    let w = halves (depth t) high in
    by_lt_z x (corner t) (λ l. alone.west x y l)
    (λ a. by_lt_z y (corner t) (λ l. alone.north x y l)
    (λ b. by_lt_z x (step_ahead (corner t) (2 ^ depth t))
    (λ c. by_lt_z y (step_ahead (corner t) (2 ^ depth t)) (λ d. z.zero_at x y a c b d) (λ l. alone.south x y (omega (arith, ints, w, l))))
    (λ l. alone.east x y (omega (arith, ints, w, l)))))
