-- The margin that a square has for a leap.
use Rattle.std.proofs.Common.{◌≡◌, ◌⊎◌, inl, inr, ℕ, ◌+◌, ◌-◌, ◌^◌, ◌<◌, ◌≤◌, ℤ, ◌∙◌, ap, arith}
use Rattle.std.proofs.lemmas.Int.{ints}
use Rattle.std.proofs.Math.Pow.{pow_mono}
use Rattle.life_base.specs.Sets.{OuterTotalistic}
use Rattle.life_base.specs.Tree.{Tree, depth, half_side, tree_cell}
use Rattle.life_base.proofs.Basics.{halves}
use Rattle.life_quad.proofs.LawLemmas.{cells_lie_inside}
use Rattle.life_leap.specs.After.{after}
use Rattle.life_leap.specs.Edge.{HasCellOutside}
use Rattle.life_leap.specs.Leaps.{HasPlaneMargin, HasMargin}

-- a square with the same cells has the same later generations
pub after-same : (rule : OuterTotalistic) (n : ℕ) (t u : Tree) → ((x y : ℤ) → tree_cell u x y ≡ tree_cell t x y) → (x y : ℤ)
    → after rule n (tree_cell u) x y ≡ after rule n (tree_cell t) x y
after-same rule n t u same x y = ap (λ (f : ℤ → ℤ → ℕ). after rule n f x y) (λ i v w. same v w i)

pub outside-same : (rule : OuterTotalistic) (n : ℕ) (t u : Tree) → ((x y : ℤ) → tree_cell u x y ≡ tree_cell t x y)
    → HasCellOutside (after rule n (tree_cell u)) → HasCellOutside (after rule n (tree_cell t))
outside-same rule n t u same h =
    record { x = h.x; y = h.y; outside = h.outside; nonzero = λ zero. h.nonzero (after-same rule n t u same h.x h.y ∙ zero) }

pub margin-grown : (pace : ℕ) (t u : Tree) → 1 ≤ depth t → ((x y : ℤ) → tree_cell u x y ≡ tree_cell t x y)
    → (depth u ≡ 62) ⊎ ((depth t < depth u) × (pace + 2 ≤ depth u)) → HasPlaneMargin (2 ^ pace) t → HasMargin (2 ^ pace) u
margin-grown pace t u high same (inl whole) margin x y some =
    let r = margin x y (λ none. some (same x y ∙ none)) in
    let h : half_side u ≡ 2 ^ 61 = ap (λ k. 2 ^ (k - 1)) whole in
    let a = r.0 in
    let b = r.1 in
    let c = r.2 in
    let d = r.3 in
    (omega (arith, ints, h, a), omega (arith, ints, h, b), omega (arith, ints, h, c), omega (arith, ints, h, d))
margin-grown pace t u high same (inr larger) margin x y some =
    let i = cells_lie_inside t x y (λ none. some (same x y ∙ none)) in
    let low = larger.0 in
    let slow = larger.1 in
    let p : half_side t ≤ 2 ^ (depth u - 1 - 1) = pow_mono {i = depth t - 1} {j = depth u - 1 - 1} (omega (arith, low, high)) in
    let q : 2 ^ pace ≤ 2 ^ (depth u - 1 - 1) = pow_mono {i = pace} {j = depth u - 1 - 1} (omega (arith, slow)) in
    let w = halves (depth u - 1) (omega (arith, low, high)) in
    let a = i.0 in
    let b = i.1 in
    let c = i.2 in
    let d = i.3 in
    (omega (arith, ints, p, q, w, a), omega (arith, ints, p, q, w, b), omega (arith, ints, p, q, w, c), omega (arith, ints, p, q, w, d))
