-- The states of a square, asked for by its cells.
use Rattle.std.proofs.Common.{◌≡◌, ℕ, suc, ◌-◌, ◌^◌, ◌≤◌, Bool, true, false, refl, sym, ◌∙◌, ap, subst, arith, ℤ, pos, neg_ℤ, ◌+ℤ◌, min, nat_lt, int_le, int_lt, ◌&&◌, unsigned_abs, if◌then◌else◌}
use Rattle.life_base.specs.Tree.{Tree, point, quad, depth, half_side, state_at, tree_cell, IsFull}
use Rattle.life_mc.specs.Squares.{HasStatesUpTo}
use Rattle.life_quad.proofs.LawLemmas.{equal_by_plane}

-- each state, or this if it is above it
abbrev capped : ℕ → Tree → Tree
capped most (point s) = point (min s most)
capped most (quad a b c d) = quad (capped most a) (capped most b) (capped most c) (capped most d)

depth-capped : (most : ℕ) (t : Tree) → depth (capped most t) ≡ depth t
depth-capped most (point s) = refl
depth-capped most (quad a b c d) = ap suc (depth-capped most a)

full-capped : (most : ℕ) (t : Tree) → IsFull t → IsFull (capped most t)
full-capped most (point s) h = omega (arith, h)
full-capped most (quad a b c d) h = (
  full-capped most a h.0,
  full-capped most b h.1,
  full-capped most c h.2,
  full-capped most d h.3,
  depth-capped most b ∙ h.4 ∙ sym (depth-capped most a),
  depth-capped most c ∙ h.5 ∙ sym (depth-capped most a),
  depth-capped most d ∙ h.6 ∙ sym (depth-capped most a),
)

upto-capped : (most : ℕ) (t : Tree) → HasStatesUpTo most (capped most t)
upto-capped most (point s) = omega arith
upto-capped most (quad a b c d) = (upto-capped most a, upto-capped most b, upto-capped most c, upto-capped most d)

-- one of four, by two tests
four : (most : ℕ) (v w : Bool) (a b c d p q r s : ℕ) → a ≡ min p most → b ≡ min q most → c ≡ min r most → d ≡ min s most
    → (if v then (if w then a else b) else (if w then c else d)) ≡ min (if v then (if w then p else q) else (if w then r else s)) most
four most true true a b c d p q r s h i j k = h
four most true false a b c d p q r s h i j k = i
four most false true a b c d p q r s h i j k = j
four most false false a b c d p q r s h i j k = k

state-capped : (most : ℕ) (t : Tree) (i j : ℕ) → state_at (capped most t) i j ≡ min (state_at t i j) most
state-capped most (point s) i j = refl
state-capped most (quad a b c d) i j =
    subst
    (λ k.
    (if nat_lt j (2 ^ k)
    then (if nat_lt i (2 ^ k) then state_at (capped most a) i j else state_at (capped most b) (i - 2 ^ k) j)
    else (if nat_lt i (2 ^ k) then state_at (capped most c) i (j - 2 ^ k) else state_at (capped most d) (i - 2 ^ k) (j - 2 ^ k)))
    ≡ min (state_at (quad a b c d) i j) most)
    (sym (depth-capped most a))
    (four most (nat_lt j (2 ^ depth a)) (nat_lt i (2 ^ depth a)) _ _ _ _ _ _ _ _
    (state-capped most a i j) (state-capped most b (i - 2 ^ depth a) j) (state-capped most c i (j - 2 ^ depth a))
    (state-capped most d (i - 2 ^ depth a) (j - 2 ^ depth a)))

cell-capped : (most : ℕ) (t : Tree) (x y : ℤ) → tree_cell (capped most t) x y ≡ min (tree_cell t x y) most
cell-capped most t x y =
    subst
    (λ k.
    (if int_le (neg_ℤ (pos (2 ^ (k - 1)))) x && int_lt x (pos (2 ^ (k - 1))) && int_le (neg_ℤ (pos (2 ^ (k - 1)))) y && int_lt y (pos (2 ^ (k - 1)))
    then state_at (capped most t) (unsigned_abs (x +ℤ pos (2 ^ (k - 1)))) (unsigned_abs (y +ℤ pos (2 ^ (k - 1))))
    else 0)
    ≡ min (tree_cell t x y) most)
    (sym (depth-capped most t))
    (by (int_le (neg_ℤ (pos (half_side t))) x && int_lt x (pos (half_side t)) && int_le (neg_ℤ (pos (half_side t))) y && int_lt y (pos (half_side t))) _ _
    (state-capped most t (unsigned_abs (x +ℤ pos (half_side t))) (unsigned_abs (y +ℤ pos (half_side t)))))
  where
    by : (b : Bool) (m n : ℕ) → m ≡ min n most → (if b then m else 0) ≡ min (if b then n else 0) most
    by true m n e = e
    by false m n e = omega arith

-- no state is above one that no cell's is above
pub states-up-to : (most : ℕ) (t : Tree) → IsFull t → ((x y : ℤ) → tree_cell t x y ≤ most) → HasStatesUpTo most t
states-up-to most t full h =
    subst (HasStatesUpTo most)
    (equal_by_plane (capped most t) t (full-capped most t full) full (depth-capped most t) (λ x y. cell-capped most t x y ∙ small (tree_cell t x y) (h x y)))
    (upto-capped most t)
  where
    small : (n : ℕ) → n ≤ most → min n most ≡ n
    small n l = omega (arith, l)

-- a cell of a full square fits a byte
state-byte : (t : Tree) → IsFull t → (i j : ℕ) → state_at t i j ≤ 255
state-byte (point s) h i j = omega (arith, h)
state-byte (quad a b c d) h i j =
    by (nat_lt j (2 ^ depth a)) (nat_lt i (2 ^ depth a)) _ _ _ _
    (state-byte a h.0 i j) (state-byte b h.1 (i - 2 ^ depth a) j) (state-byte c h.2 i (j - 2 ^ depth a)) (state-byte d h.3 (i - 2 ^ depth a) (j - 2 ^ depth a))
  where
    by : (v w : Bool) (p q r s : ℕ) → p ≤ 255 → q ≤ 255 → r ≤ 255 → s ≤ 255 → (if v then (if w then p else q) else (if w then r else s)) ≤ 255
    by true true p q r s e f g k = e
    by true false p q r s e f g k = f
    by false true p q r s e f g k = g
    by false false p q r s e f g k = k

pub cell-byte : (t : Tree) → IsFull t → (x y : ℤ) → tree_cell t x y ≤ 255
cell-byte t h x y =
    by (int_le (neg_ℤ (pos (half_side t))) x && int_lt x (pos (half_side t)) && int_le (neg_ℤ (pos (half_side t))) y && int_lt y (pos (half_side t))) _
    (state-byte t h (unsigned_abs (x +ℤ pos (half_side t))) (unsigned_abs (y +ℤ pos (half_side t))))
  where
    by : (b : Bool) (n : ℕ) → n ≤ 255 → (if b then n else 0) ≤ 255
    by true n l = l
    by false n l = omega arith
