-- Squares in whose middle (0, 0) lies, and the cells of the plane.
use Rattle.std.proofs.Common.{◌≡◌, ℕ, zero, suc, ◌+◌, ◌-◌, ◌^◌, ◌<◌, ◌≤◌, Bool, true, false, cond, ◌&&◌, refl, ap, sym, ◌∙◌, subst, arith, ◌⊎◌, inl, inr, ℤ, pos, neg_ℤ, ◌+ℤ◌, ◌≤ℤ◌, ◌<ℤ◌, nat_lt, int_le, int_lt, unsigned_abs}
use Rattle.std.specs.List.{list_all}
use Rattle.std.proofs.Math.Bool.{and_assoc, and-true}
use Rattle.std.proofs.lemmas.Bool.{cond-true, cond-false}
use Rattle.std.proofs.lemmas.Bool.Decides.{nat_tests}
use Rattle.std.proofs.lemmas.Int.{ints}
use Rattle.life_base.specs.Tree.{Tree, point, quad, depth, state_at, half_side, tree_cell, IsFull, is_blank_tree as is_blank}
use Rattle.life_mc.specs.Squares.{HasStatesUpTo}
use Rattle.life_quad.proofs.TurningLemmas.{four-true}
use Rattle.life_quad.specs.Moves.{trim_up_to, can_trim, outer, inner, trimmed_square}
use Rattle.life_pattern.specs.Universe.{corner, centred_square, IsBlankOutside}
use Rattle.life_pattern.proofs.TreeWords.{HasDepth, point_depth, quad_depth, StatesBelow, middle, has_blank_border, trim_times, trimmed_to}
use Rattle.life_pattern.proofs.Trees.{depth_is, trees_equal, centred-depth, state_at-centred, trim_times-once, trim_times-stop, bool_cases}
use Rattle.life_base.proofs.Basics.{right_of_and, left_of_and, double}
use Rattle.life_quad.proofs.LawLemmas.{cannot_trim}

-- ---- full squares

depth-of : {k : ℕ} {t : Tree} → HasDepth (depth t) t → depth t ≡ k → HasDepth k t
depth-of {k} {t} h e = subst (λ n. HasDepth n t) e h

pub full-depth : (t : Tree) → IsFull t → HasDepth (depth t) t
full-depth (point s) f = point_depth
full-depth (quad a b c d) f =
    quad_depth (full-depth a f.0) (depth-of (full-depth b f.1) f.4) (depth-of (full-depth c f.2) f.5) (depth-of (full-depth d f.3) f.6)

pub below-upto : (s n : ℕ) → s ≤ n → s < suc n
below-upto s n h = omega arith

pub upto-below : (s n : ℕ) → s < suc n → s ≤ n
upto-below s n h = omega arith

pub states-below : (most : ℕ) (t : Tree) → HasStatesUpTo most t → StatesBelow (suc most) t
states-below most (point s) h = below-upto s most h
states-below most (quad a b c d) h = (states-below most a h.0, states-below most b h.1, states-below most c h.2, states-below most d h.3)

pub states-upto : (most : ℕ) (t : Tree) → StatesBelow (suc most) t → HasStatesUpTo most t
states-upto most (point s) h = upto-below s most h
states-upto most (quad a b c d) h = (states-upto most a h.0, states-upto most b h.1, states-upto most c h.2, states-upto most d h.3)

less-256 : (s bound : ℕ) → bound ≤ 256 → s < bound → s < 256
less-256 s bound l h = omega arith

pub depth-full : (bound : ℕ) → bound ≤ 256 → {k : ℕ} {t : Tree} → HasDepth k t → StatesBelow bound t → IsFull t
depth-full bound l (point_depth {state = s}) h = less-256 s bound l h
depth-full bound l (quad_depth p q r s) h = (
  depth-full bound l p h.0,
  depth-full bound l q h.1,
  depth-full bound l r h.2,
  depth-full bound l s h.3,
  depth_is q ∙ sym (depth_is p),
  depth_is r ∙ sym (depth_is p),
  depth_is s ∙ sym (depth_is p),
)

-- ---- trimming, by a count of steps

pub record IsTwoDeep (k : ℕ) (t : Tree) : Type 0 where
  pub border : list_all is_blank (outer t) ≡ has_blank_border t
  pub inner_is : inner t ≡ middle t
  pub inner_depth : HasDepth (suc k) (middle t)

pub two-deep : (k : ℕ) (t : Tree) → HasDepth (suc (suc k)) t → IsTwoDeep k t
two-deep k t (quad_depth (quad_depth {nw = a} {ne = b} {sw = c} {se = d} ha hb hc hd) (quad_depth {nw = e} {ne = f} {sw = g} {se = h} he hf hg hh)
    (quad_depth {nw = i} {ne = j} {sw = l} {se = m} hi hj hl hm) (quad_depth {nw = n} {ne = o} {sw = p} {se = q} hn ho hp hq)) =
    record {
      border = simp (and_assoc, and-true);
      inner_is = refl;
      inner_depth = quad_depth hd hg hj hn;
    }

pub can-by : (t : Tree) (m : ℕ) → m < depth t → can_trim t m ≡ list_all is_blank (outer t)
can-by t m h = let e : nat_lt m (depth t) ≡ true = grind (arith, nat_tests) in rw e refl

pub stop : (n : ℕ) (t : Tree) (m : ℕ) → can_trim t m ≡ false → trim_up_to n t m ≡ t
stop zero t m h = refl
stop (suc n) t m h = rw h refl

pub go : (n : ℕ) (t : Tree) (m : ℕ) → can_trim t m ≡ true → trim_up_to (suc n) t m ≡ trim_up_to n (inner t) m
go n t m h = rw h refl

-- enough steps with the test of the level are as many as the levels above the least one
steps-same : (m : ℕ) → 1 ≤ m → (k n : ℕ) (t : Tree) → HasDepth k t → k ≤ n → trim_up_to n t m ≡ trim_times (k - m) t
steps-same m le zero n t h l = stop n t m (cannot_trim t m (subst (λ d. d ≤ m) (sym (depth_is h)) (omega arith)))
    ∙ ap (λ d. trim_times d t) (none m)
  where
    none : (m : ℕ) → 0 ≡ 0 - m
    none m = omega arith
steps-same m le (suc zero) n t h l = stop n t m (cannot_trim t m (subst (λ d. d ≤ m) (sym (depth_is h)) (omega arith)))
    ∙ ap (λ d. trim_times d t) (none m le)
  where
    none : (m : ℕ) → 1 ≤ m → 0 ≡ 1 - m
    none m h = omega arith
steps-same m le (suc (suc k)) zero t h l = absurd (omega arith)
steps-same m le (suc (suc k)) (suc n) t h l = elim (reach m (suc (suc k))) [
  | inl low ↦ stop (suc n) t m (cannot_trim t m (subst (λ d. d ≤ m) (sym (depth_is h)) low)) ∙ ap (λ d. trim_times d t) (nothing m (suc (suc k)) low)
  | inr high ↦
      let two = two-deep k t h in
      let test : can_trim t m ≡ has_blank_border t = can-by t m (subst (λ d. m < d) (sym (depth_is h)) high) ∙ two.border in
      let count : suc (suc k) - m ≡ suc (suc k - m) = more m (suc k) high in
      elim (bool_cases (has_blank_border t)) [
        | inl b ↦
            go n t m (test ∙ b) ∙ ap (λ u. trim_up_to n u m) two.inner_is ∙ steps-same m le (suc k) n (middle t) two.inner_depth (omega arith)
            ∙ sym (trim_times-once (suc k - m) t b) ∙ sym (ap (λ d. trim_times d t) count)
        | inr b ↦ stop (suc n) t m (test ∙ b) ∙ sym (trim_times-stop (suc (suc k) - m) t b)
      ]
]
  where
    reach : (m k : ℕ) → (k ≤ m) ⊎ (m < k)
    reach m k = grind (arith, nat_tests)

    nothing : (m k : ℕ) → k ≤ m → 0 ≡ k - m
    nothing m k h = omega arith

    more : (m k : ℕ) → m < suc k → suc k - m ≡ suc (k - m)
    more m k h = omega arith

pub trimmed-is : {k : ℕ} {t : Tree} (m : ℕ) → HasDepth k t → 1 ≤ m → trimmed_square t m ≡ trimmed_to t m
unfolding trimmed_to
trimmed-is {k = k} {t = t} m h le =
    let e : depth t ≡ k = depth_is h in
    steps-same m le k (depth t) t h (subst (λ n. k ≤ n) (sym e) (omega arith)) ∙ sym (ap (λ n. trim_times (n - m) t) e)

-- ---- the cells of a square on the plane

low_place : (n i : ℕ) → i < n + n → (int_le (neg_ℤ (pos n)) (neg_ℤ (pos n) +ℤ pos i) ≡ true) × (int_lt (neg_ℤ (pos n) +ℤ pos i) (pos n) ≡ true)
    × (unsigned_abs ((neg_ℤ (pos n) +ℤ pos i) +ℤ pos n) ≡ i)
low_place n i h =
    (grind (arith, ints), grind (arith, ints), let e : (neg_ℤ (pos n) +ℤ pos i) +ℤ pos n ≡ pos i = omega (arith, ints) in ap unsigned_abs e)

half-of : (t : Tree) (k : ℕ) → depth t ≡ suc k → half_side t ≡ 2 ^ k
half-of t k e = let one : suc k - 1 ≡ k = omega arith in ap (λ n. 2 ^ (n - 1)) e ∙ ap (λ n. 2 ^ n) one

-- the cell of a place counted from the corner
tree_cell-at : (t : Tree) (n i j : ℕ) → half_side t ≡ n → i < n + n → j < n + n → tree_cell t (neg_ℤ (pos n) +ℤ pos i) (neg_ℤ (pos n) +ℤ pos j) ≡ state_at t i j
tree_cell-at t n i j e p q =
    let a = low_place n i p in
    let b = low_place n j q in
    let x : ℤ = neg_ℤ (pos n) +ℤ pos i in
    let y : ℤ = neg_ℤ (pos n) +ℤ pos j in
    rw e
    (cond-true (int_le (neg_ℤ (pos n)) x && int_lt x (pos n) && int_le (neg_ℤ (pos n)) y && int_lt y (pos n)) _ _ (four-true _ _ _ _ a.0 a.1 b.0 b.1)
    ∙ ap (λ v. state_at t v (unsigned_abs (y +ℤ pos n))) a.2 ∙ ap (state_at t i) b.2)

-- the square of the cells of a square is that square
pub centred-tree_cell : {k : ℕ} {t : Tree} → HasDepth (suc k) t → centred_square (tree_cell t) (suc k) ≡ t
unfolding corner
centred-tree_cell {k = k} {t = t} h =
    trees_equal (centred-depth (tree_cell t) (suc k)) h
    (λ i j p q. state_at-centred (tree_cell t) (suc k) i j p q
    ∙ tree_cell-at t (2 ^ k) i j (half-of t k (depth_is h)) (omega (arith, double k)) (omega (arith, double k)))

within_of : (n : ℕ) (x : ℤ) → int_le (neg_ℤ (pos n)) x ≡ true → int_lt x (pos n) ≡ true → (neg_ℤ (pos n) ≤ℤ x) × (x <ℤ (neg_ℤ (pos n) +ℤ pos (n + n)))
within_of n x p q = (le, lt)
  where
    le : neg_ℤ (pos n) ≤ℤ x
    le = grind (arith, ints)

    lt : x <ℤ (neg_ℤ (pos n) +ℤ pos (n + n))
    lt = grind (arith, ints)

pub tree_cell-outside : {k : ℕ} {t : Tree} → HasDepth (suc k) t → IsBlankOutside (suc k) (tree_cell t)
unfolding corner
tree_cell-outside {k = k} {t = t} h x y n =
    let e = half-of t k (depth_is h) in
    let m = 2 ^ k in
    let test : Bool = int_le (neg_ℤ (pos m)) x && int_lt x (pos m) && int_le (neg_ℤ (pos m)) y && int_lt y (pos m) in
    rw e (elim (bool_cases test) [
      | inl b ↦
          let b3 = left_of_and (int_le (neg_ℤ (pos m)) x && int_lt x (pos m) && int_le (neg_ℤ (pos m)) y) (int_lt y (pos m)) b in
          let b2 = left_of_and (int_le (neg_ℤ (pos m)) x && int_lt x (pos m)) (int_le (neg_ℤ (pos m)) y) b3 in
          let xs = within_of m x (left_of_and (int_le (neg_ℤ (pos m)) x) (int_lt x (pos m)) b2)
          (right_of_and (int_le (neg_ℤ (pos m)) x) (int_lt x (pos m)) b2) in
          let ys = within_of m y (right_of_and (int_le (neg_ℤ (pos m)) x && int_lt x (pos m)) (int_le (neg_ℤ (pos m)) y) b3)
          (right_of_and (int_le (neg_ℤ (pos m)) x && int_lt x (pos m) && int_le (neg_ℤ (pos m)) y) (int_lt y (pos m)) b) in
          absurd (n (
            subst (λ v. (neg_ℤ (pos m) ≤ℤ x) × (x <ℤ (neg_ℤ (pos m) +ℤ pos v))) (sym (double k)) xs,
            subst (λ v. (neg_ℤ (pos m) ≤ℤ y) × (y <ℤ (neg_ℤ (pos m) +ℤ pos v))) (sym (double k)) ys,
          ))
      | inr b ↦ cond-false test _ _ b
    ])

-- the states of a square are below the bound, wherever they are asked for
pub state_at-below : (bound : ℕ) (t : Tree) → StatesBelow bound t → (i j : ℕ) → state_at t i j < bound
state_at-below bound (point s) h i j = h
state_at-below bound (quad a b c d) h i j =
    four (nat_lt j (2 ^ depth a)) (nat_lt i (2 ^ depth a)) (state_at-below bound a h.0 i j) (state_at-below bound b h.1 (i - 2 ^ depth a) j)
    (state_at-below bound c h.2 i (j - 2 ^ depth a)) (state_at-below bound d h.3 (i - 2 ^ depth a) (j - 2 ^ depth a))
  where
    four : {p q r s : ℕ} (v w : Bool) → p < bound → q < bound → r < bound → s < bound → cond v (cond w p q) (cond w r s) < bound
    four true true a b c d = a
    four true false a b c d = b
    four false true a b c d = c
    four false false a b c d = d

if_below : (bound : ℕ) (b : Bool) (a : ℕ) → a < bound → 0 < bound → cond b a 0 < bound
if_below bound true a h z = h
if_below bound false a h z = z

pub tree_cell-below : (bound : ℕ) (t : Tree) → StatesBelow bound t → 0 < bound → (x y : ℤ) → tree_cell t x y < bound
tree_cell-below bound t h z x y =
    if_below bound _ (state_at t (unsigned_abs (x +ℤ pos (half_side t))) (unsigned_abs (y +ℤ pos (half_side t)))) (state_at-below bound t h _ _) z
