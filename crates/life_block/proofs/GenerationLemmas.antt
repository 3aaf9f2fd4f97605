-- A generation under a B/S rule: its cells, and that it isn't refused.
use Rattle.std.proofs.Common.{◌≡◌, ℕ, ◌-◌, ◌^◌, ◌<◌, ◌≤◌, Bool, true, false, not, inr, ℤ, pos, neg_ℤ, ◌<ℤ◌, Option, Some, None, MatchOption, refl, sym, ◌∙◌, ap, subst, arith}
use Rattle.life_base.specs.declared.bounds.Bounds.{Bounds}
use Rattle.life_quad.specs.Cells.{population, IsBoundingBoxOfTree}
use Rattle.std.proofs.lemmas.Int.{ints}
use Rattle.std.proofs.Math.Pow.{pow_mono}
use Rattle.life_base.specs.Sets.{OuterTotalistic}
use Rattle.life_base.specs.Tree.{Tree, depth, half_side, tree_cell}
use Rattle.life_base.specs.declared.cell.TheConstants.{MAX_LEVEL}
use Rattle.life_base.proofs.Squares.{Inside}
use Rattle.life_strip.specs.Given.{IsRunOnPlane}
use Rattle.life_table.specs.Meaning.{Becomes, Ambiguous}
use Rattle.life_next.specs.Generation.{one_after, next_life}
use Rattle.life_sweep.specs.Generation.{LifeAnswersAt, LifeAnswers}
use Rattle.life_block.specs.Needed.{HasClearEdge}
use Rattle.life_sweep.specs.Refused.{HasStateFrom, SomeAmbiguous, GenerationRefusal}
use Rattle.life_sweep.specs.Sweep.{IsLeft}
use Rattle.life_pieces.proofs.RootLemmas.{cell-outside}

pub same-state : (a b : ℕ) → Becomes a ≡ Becomes b → a ≡ b
same-state a b e = cc

pub one-state : (a line : ℕ) → Ambiguous line ≡ Becomes a → ⊥
one-state a line e = cc

below-two : (n : ℕ) → n < 2 → 2 ≤ n → ⊥
below-two n a b = omega (arith, a, b)

-- a cell of a square of the greatest level at most is on the plane
pub on-plane : (t : Tree) (x y : ℤ) → depth t ≤ MAX_LEVEL → Inside (half_side t) x y → IsRunOnPlane x y 1
on-plane t x y low i =
    let small : 2 ^ (depth t - 1) ≤ 2 ^ 61 = pow_mono {i = depth t - 1} {j = 61} (omega (arith, low)) in
    record {
      west = omega (arith, ints, small, i.west);
      east = omega (arith, ints, small, i.east);
      north = omega (arith, ints, small, i.north);
      south = omega (arith, ints, small, i.south);
    }

-- where the next states are those of a square of the plane
pub accepted : LifeAnswersAt → (rule : OuterTotalistic) (t r : Tree) (most : ℕ) → ((x y : ℤ) → tree_cell t x y < 2) → population t ≤ most → depth r ≤ MAX_LEVEL
    → ((x y : ℤ) → tree_cell r x y ≡ next_life rule (tree_cell t) x y) → GenerationRefusal (LifeAnswers rule) 2 most t None
accepted law rule t r most states few low next = inr (many, inr (beyond, inr (ambiguous, inr (left, refl))))
  where
    many : ¬ (most < population t)
    many l = omega (arith, l, few)

    beyond : ¬ (HasStateFrom 2 (tree_cell t))
    beyond h = below-two (tree_cell t h.0 h.1) (states h.0 h.1) h.2

    ambiguous : ¬ (SomeAmbiguous (LifeAnswers rule) (tree_cell t))
    ambiguous h = one-state (next_life rule (tree_cell t) h.0 h.1) h.2 ((law rule (tree_cell t) h.0 h.1 (Ambiguous h.2)).0 h.3)

    left : ¬ (IsLeft (LifeAnswers rule) (tree_cell t))
    left h =
        h.nonzero (same-state h.next (next_life rule (tree_cell t) h.x h.y) ((law rule (tree_cell t) h.x h.y (Becomes h.next)).0 h.answer) ∙ sym (next h.x h.y)
        ∙ cell-outside r h.x h.y (λ i. h.outside (on-plane r h.x h.y low i)))

pub not-false : (b : Bool) → not b ≡ false → b ≡ true
not-false true e = refl
not-false false e = sym e

-- a least box within the plane without its edge
pub clear-edge : (t : Tree) {found : Option Bounds} {box : Bounds} (A : Type 0) → depth t ≡ MAX_LEVEL → found ≡ Some box
    → MatchOption found A (λ b. IsBoundingBoxOfTree t b) → neg_ℤ (pos (2 ^ 61)) <ℤ box.left → one_after box.right <ℤ pos (2 ^ 61)
    → neg_ℤ (pos (2 ^ 61)) <ℤ box.top
    → one_after box.bottom <ℤ pos (2 ^ 61) → HasClearEdge t
clear-edge t A whole is least west east north south x y n =
    let half : half_side t ≡ 2 ^ 61 = ap (λ k. 2 ^ (k - 1)) whole in
    let box = subst (λ o. MatchOption o A (λ b. IsBoundingBoxOfTree t b)) is least in
    let i = box.inside x y n in
    let a = i.0 in
    let b = i.1 in
    let c = i.2 in
    let d = i.3 in (
      omega (arith, ints, half, west, a),
      omega (arith, ints, half, east, b),
      omega (arith, ints, half, north, c),
      omega (arith, ints, half, south, d),
    )
