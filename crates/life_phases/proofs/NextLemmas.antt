-- The square of the next generation: it is on the plane, and without blank outer parts.
use Rattle.std.proofs.Common.{◌≡◌, inl, inr, ◌-◌, ◌≤◌, ◌^◌, ℤ, List, ℕ, sym, ◌∙◌, ap, subst, arith, lit≤}
use Rattle.std.proofs.Math.Pow.{pow_mono}
use Rattle.std.proofs.lemmas.Int.{ints}
use Rattle.life_base.specs.Refusal.{fault_of}
use Rattle.life_base.specs.Sets.{OuterTotalistic}
use Rattle.life_base.specs.Tree.{Tree, depth, half_side, tree_cell, IsFull}
use Rattle.life_base.specs.declared.kind.Kind.{Kind}
use Rattle.life_quad.specs.Keeping.{IsShortageKind}
use Rattle.life_quad.specs.Moves.{trimmed_square}
use Rattle.life_quad.proofs.LawLemmas.{cells_lie_inside, trimmed_is_fixed, trimming_keeps_cells, trimming_stops}
use Rattle.life_leap.specs.After.{after}
use Rattle.life_leap.specs.Edge.{HasCellOutside}
use Rattle.life_later.specs.Course.{IsCourseFault, LeavesWithin}
use Rattle.life_later.proofs.StayLemmas.{edge-stays}

-- what is known of a trimmed square
pub record IsTrimmedTo (t u : Tree) : Type 0 where
  pub low : 3 ≤ depth u
  pub trimmed : trimmed_square u 3 ≡ u
  pub cells : (x y : ℤ) → tree_cell u x y ≡ tree_cell t x y

pub trimmed-to : (t u : Tree) → IsFull t → 3 ≤ depth t → u ≡ trimmed_square t 3 → IsTrimmedTo t u
trimmed-to t u full low e =
    let fixed = trimmed_is_fixed t 3 full (lit≤ tt) in
    let stops = trimming_stops t 3 full (lit≤ tt) in
    record {
      low = subst (λ s. 3 ≤ depth s) (sym e) (stops.0 low);
      trimmed = ap (λ s. trimmed_square s 3) e ∙ fixed.1 ∙ sym e;
      cells = λ x y. ap (λ s. tree_cell s x y) e ∙ trimming_keeps_cells t 3 full (lit≤ tt) x y;
    }

-- a square of at most the plane's level has its cells on the plane
none-outside : (t : Tree) → depth t ≤ 62 → ¬ (HasCellOutside (tree_cell t))
none-outside t high h =
    let half : half_side t ≤ 2 ^ 61 = pow_mono {i = depth t - 1} {j = 61} (omega (arith, high)) in
    let i = cells_lie_inside t _ _ h.nonzero in
    let a = i.0 in
    let b = i.1 in
    let c = i.2 in
    let d = i.3 in
    h.outside (
      record { from = omega (arith, ints, half, a); to = omega (arith, ints, half, b) },
      record { from = omega (arith, ints, half, c); to = omega (arith, ints, half, d) },
    )

pub small-stays : (rule : OuterTotalistic) (t u : Tree) → depth u ≤ 62 → ((x y : ℤ) → tree_cell u x y ≡ after rule 1 (tree_cell t) x y)
    → ¬ (LeavesWithin rule 1 (tree_cell t))
small-stays rule t u high later =
    let same : tree_cell u ≡ after rule 1 (tree_cell t) = (λ i x y. later x y i) in
    edge-stays rule (tree_cell t) (subst (λ cells. ¬ (HasCellOutside cells)) same (none-outside u high))

pub shortage-of_course : (rule : OuterTotalistic) (cells : ℤ → ℤ → ℕ) (stored : List Tree) (limit : ℕ) (kind : Kind) → IsShortageKind stored limit kind
    → IsCourseFault rule 1 cells stored limit (fault_of kind)
shortage-of_course rule cells stored limit kind (inl memory) = inl (inl (ap fault_of memory))
shortage-of_course rule cells stored limit kind (inr full) = inl (inr (ap fault_of full.0, full.1))
