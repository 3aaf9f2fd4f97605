-- A leaf has the cells of its square.
use Rattle.std.proofs.Common.{◌≡◌, ℕ, zero, suc, ◌+◌, ◌-◌, ◌*◌, ◌/◌, ◌%◌, ◌^◌, ◌<◌, ◌≤◌, refl, ap, ◌∙◌, arith, inl, inr, slice_index}
use Rattle.std.proofs.Math.Nat.{zero-add}
use Rattle.life_base.specs.Tree.{Tree, depth, state_at}
use Rattle.life_mc.specs.Cells.{leaf_cell}
use Rattle.life_mc.specs.Squares.{tree_at, leaf_tree}
use Rattle.life_writer.specs.Listing.{row_byte, rows_of}
use Rattle.life_pattern.proofs.TreeWords.{HasDepth, point_depth, quad_depth, StatesBelow}
use Rattle.life_pattern.proofs.Trees.{depth_is, trees_equal, half_cases, state_at-nw, state_at-ne, state_at-sw, state_at-se}
use Rattle.life_pattern.proofs.LineFacts.{tree_at-depth}

-- ---- the bits of a row

pub below_eight : (P : ℕ → Type 0) → P 0 → P 1 → P 2 → P 3 → P 4 → P 5 → P 6 → P 7 → (i : ℕ) → i < 8 → P i
below_eight P a b c d e f g h zero l = a
below_eight P a b c d e f g h (suc zero) l = b
below_eight P a b c d e f g h (suc (suc zero)) l = c
below_eight P a b c d e f g h (suc (suc (suc zero))) l = d
below_eight P a b c d e f g h (suc (suc (suc (suc zero)))) l = e
below_eight P a b c d e f g h (suc (suc (suc (suc (suc zero))))) l = f
below_eight P a b c d e f g h (suc (suc (suc (suc (suc (suc zero)))))) l = g
below_eight P a b c d e f g h (suc (suc (suc (suc (suc (suc (suc zero))))))) l = h
below_eight P a b c d e f g h (suc (suc (suc (suc (suc (suc (suc (suc n)))))))) l = absurd (omega arith)

module _ (a b c d e f g h : ℕ) (la : a < 2) (lb : b < 2) (lc : c < 2) (ld : d < 2) (le : e < 2) (lf : f < 2) (lg : g < 2) (lh : h < 2) where
  abbrev byte : ℕ
  byte = 128 * a + 64 * b + 32 * c + 16 * d + 8 * e + 4 * f + 2 * g + h

  bits : (byte / 128 % 2 ≡ a) × (byte / 64 % 2 ≡ b) × (byte / 32 % 2 ≡ c) × (byte / 16 % 2 ≡ d)
      × (byte / 8 % 2 ≡ e) × (byte / 4 % 2 ≡ f) × (byte / 2 % 2 ≡ g) × (byte / 1 % 2 ≡ h)
  bits = (omega arith, omega arith, omega arith, omega arith, omega arith, omega arith, omega arith, omega arith)

  byte_small : byte < 256
  byte_small = omega arith

pub states-state_at : {k : ℕ} {t : Tree} → HasDepth k t → (bound : ℕ) → StatesBelow bound t → (x y : ℕ) → x < 2 ^ k → y < 2 ^ k → state_at t x y < bound
states-state_at point_depth bound g x y p q = g
states-state_at (quad_depth {k = k} {nw = a} {ne = b} {sw = c} {se = d} ha hb hc hd) bound g x y p q =
    elim (half_cases k x p) [
      | inl l ↦ elim (half_cases k y q) [
        | inl m ↦ rw (state_at-nw a b c d k (depth_is ha) x y l m) (states-state_at ha bound g.0 x y l m)
        | inr m ↦ rw (state_at-sw a b c d k (depth_is ha) x y l m.0) (states-state_at hc bound g.2 x (y - 2 ^ k) l m.1)
      ]
      | inr l ↦ elim (half_cases k y q) [
        | inl m ↦ rw (state_at-ne a b c d k (depth_is ha) x y l.0 m) (states-state_at hb bound g.1 (x - 2 ^ k) y l.1 m)
        | inr m ↦ rw (state_at-se a b c d k (depth_is ha) x y l.0 m.0) (states-state_at hd bound g.3 (x - 2 ^ k) (y - 2 ^ k) l.1 m.1)
      ]
    ]

pub row_byte-small : {t : Tree} → HasDepth 3 t → StatesBelow 2 t → (y : ℕ) → y < 8 → row_byte t y < 256
row_byte-small {t = t} h g y l =
    let s = λ (x : ℕ) (p : x < 8). states-state_at h 2 g x y p l in
    byte_small (state_at t 0 y) (state_at t 1 y) (state_at t 2 y) (state_at t 3 y) (state_at t 4 y) (state_at t 5 y) (state_at t 6 y) (state_at t 7 y)
    (s 0 (omega arith)) (s 1 (omega arith)) (s 2 (omega arith)) (s 3 (omega arith)) (s 4 (omega arith)) (s 5 (omega arith)) (s 6 (omega arith))
    (s 7 (omega arith))

row_byte-bit : {t : Tree} → HasDepth 3 t → StatesBelow 2 t → (y : ℕ) → y < 8 → (x : ℕ) → x < 8 → (row_byte t y / 2 ^ (7 - x)) % 2 ≡ state_at t x y
row_byte-bit {t = t} h g y l =
    let s = λ (x : ℕ) (p : x < 8). states-state_at h 2 g x y p l in
    let b = bits _ _ _ _ _ _ _ _ (s 0 (omega arith)) (s 1 (omega arith)) (s 2 (omega arith)) (s 3 (omega arith))
    (s 4 (omega arith)) (s 5 (omega arith)) (s 6 (omega arith)) (s 7 (omega arith)) in
    below_eight (λ x. (row_byte t y / 2 ^ (7 - x)) % 2 ≡ state_at t x y) b.0 b.1 b.2 b.3 b.4 b.5 b.6 b.7

rows_of-row : (t : Tree) (y : ℕ) → y < 8 → slice_index (rows_of t) y ≡ row_byte t y
unfolding rows_of
rows_of-row t = below_eight (λ y. slice_index (rows_of t) y ≡ row_byte t y) refl refl refl refl refl refl refl refl

-- a leaf has the cells of its square
pub leaf_cell-is : {t : Tree} → HasDepth 3 t → StatesBelow 2 t → (x y : ℕ) → x < 8 → y < 8 → leaf_cell (rows_of t) x y ≡ state_at t x y
leaf_cell-is {t = t} h g x y p q = ap (λ v. (v / 2 ^ (7 - x)) % 2) (rows_of-row t y q) ∙ row_byte-bit h g y q x p

add_back : (x m i : ℕ) → m ≤ i → (x + m) + (i - m) ≡ x + i
add_back x m i h = omega arith

add_none : (x i : ℕ) → i < 2 ^ 0 → x ≡ x + i
add_none x i h = omega arith

pub state_at-tree_at : (f : ℕ → ℕ → ℕ) (k x y i j : ℕ) → i < 2 ^ k → j < 2 ^ k → state_at (tree_at f k x y) i j ≡ f (x + i) (y + j)
state_at-tree_at f zero x y i j p q = ap (λ v. f v y) (add_none x i p) ∙ ap (f (x + i)) (add_none y j q)
state_at-tree_at f (suc k) x y i j p q =
    let a = tree_at f k x y in
    let b = tree_at f k (x + 2 ^ k) y in
    let c = tree_at f k x (y + 2 ^ k) in
    let d = tree_at f k (x + 2 ^ k) (y + 2 ^ k) in
    let is : depth a ≡ k = depth_is (tree_at-depth f k x y) in
    elim (half_cases k i p) [
      | inl l ↦ elim (half_cases k j q) [
        | inl m ↦ state_at-nw a b c d k is i j l m ∙ state_at-tree_at f k x y i j l m
        | inr m ↦ state_at-sw a b c d k is i j l m.0 ∙ state_at-tree_at f k x (y + 2 ^ k) i (j - 2 ^ k) l m.1 ∙ ap (λ v. f (x + i) v) (add_back y (2 ^ k) j m.0)
      ]
      | inr l ↦ elim (half_cases k j q) [
        | inl m ↦ state_at-ne a b c d k is i j l.0 m ∙ state_at-tree_at f k (x + 2 ^ k) y (i - 2 ^ k) j l.1 m ∙ ap (λ v. f v (y + j)) (add_back x (2 ^ k) i l.0)
        | inr m ↦ state_at-se a b c d k is i j l.0 m.0 ∙ state_at-tree_at f k (x + 2 ^ k) (y + 2 ^ k) (i - 2 ^ k) (j - 2 ^ k) l.1 m.1
            ∙ ap (λ v. f v ((y + 2 ^ k) + (j - 2 ^ k))) (add_back x (2 ^ k) i l.0) ∙ ap (λ v. f (x + i) v) (add_back y (2 ^ k) j m.0)
      ]
    ]

-- the square of the states of a square is that square
pub tree_at-is : (f : ℕ → ℕ → ℕ) {k : ℕ} {t : Tree} → HasDepth k t → ((i j : ℕ) → i < 2 ^ k → j < 2 ^ k → f i j ≡ state_at t i j) → tree_at f k 0 0 ≡ t
tree_at-is f {k = k} {t = t} h e =
    trees_equal (tree_at-depth f k 0 0) h
    (λ i j p q. state_at-tree_at f k 0 0 i j p q ∙ ap (λ v. f v (0 + j)) (zero-add i) ∙ ap (f i) (zero-add j) ∙ e i j p q)

pub leaf_tree-is : {t : Tree} → HasDepth 3 t → StatesBelow 2 t → leaf_tree (rows_of t) ≡ t
leaf_tree-is {t = t} h g = tree_at-is (leaf_cell (rows_of t)) h (λ i j p q. leaf_cell-is h g i j p q)
