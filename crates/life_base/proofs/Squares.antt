-- Facts about squares of cells, by their quarters and on the plane.
use Rattle.std.proofs.Common.{◌≡◌, ℕ, zero, suc, ◌+◌, ◌-◌, ◌^◌, ◌<◌, Bool, true, false, ◌&&◌, nat_lt, ℤ, pos, negsuc, neg_ℤ, ◌+ℤ◌, ◌≤ℤ◌, ◌<ℤ◌, refl, ◌∙◌, ap, arith, if◌then◌else◌, int_le, int_lt, unsigned_abs}
use Rattle.std.proofs.lemmas.Int.{ints}
use Rattle.life_base.specs.Tree.{Tree, point, quad, depth, blank, is_blank_tree, state_at, half_side, tree_cell as cell, IsFull}
use Rattle.life_base.proofs.Basics.{right_of_and, left_of_and}

-- a blank square has its level
pub depth-blank : (k : ℕ) → depth (blank k) ≡ k
depth-blank zero = refl
depth-blank (suc k) = ap suc (depth-blank k)

-- a blank square is full
pub full-blank : (k : ℕ) → IsFull (blank k)
full-blank zero = omega arith
full-blank (suc k) = let f = full-blank k in (f, f, f, f, refl, refl, refl)

-- every cell of a blank square is blank
pub is_blank-blank : (k : ℕ) → is_blank_tree (blank k) ≡ true
is_blank-blank zero = refl
is_blank-blank (suc k) = grind (arith, is_blank-blank k)

-- a full blank square is the blank square of its level
pub blank_is : (t : Tree) → IsFull t → is_blank_tree t ≡ true → t ≡ blank (depth t)
blank_is (point s) f h = let e : s ≡ 0 = grind arith in ap point e
blank_is (quad a b c d) f h =
    let l = left_of_and _ (is_blank_tree d) h in
    let l2 = left_of_and _ (is_blank_tree c) l in
    let ea = blank_is a f.0 (left_of_and _ (is_blank_tree b) l2) in
    let eb = blank_is b f.1 (right_of_and (is_blank_tree a) _ l2) ∙ ap blank f.4 in
    let ec = blank_is c f.2 (right_of_and (is_blank_tree a && is_blank_tree b) _ l) ∙ ap blank f.5 in
    let ed = blank_is d f.3 (right_of_and (is_blank_tree a && is_blank_tree b && is_blank_tree c) _ h) ∙ ap blank f.6 in
    λ i. quad (ea i) (eb i) (ec i) (ed i)

-- quarters of equal squares are equal
module _ {a b c d p q r s : Tree} (e : quad a b c d ≡ quad p q r s) where
  pub quad_nw : a ≡ p
  quad_nw = cc

  pub quad_ne : b ≡ q
  quad_ne = cc

  pub quad_sw : c ≡ r
  quad_sw = cc

  pub quad_se : d ≡ s
  quad_se = cc

pub same_quads : {a b c d e f g h : Tree} → a ≡ e → b ≡ f → c ≡ g → d ≡ h → quad a b c d ≡ quad e f g h
same_quads p q r s = λ i. quad (p i) (q i) (r i) (s i)

pub point_state : {a b : ℕ} → point a ≡ point b → a ≡ b
point_state e = cc

-- a point is no square of four quarters
pub point≢quad : {n : ℕ} {a b c d : Tree} → point n ≡ quad a b c d → ⊥
point≢quad e = cc

-- the state of a cell is that in its quarter
module _ (a b c d : Tree) (i j : ℕ) where
  pub at_nw : nat_lt j (2 ^ depth a) ≡ true → nat_lt i (2 ^ depth a) ≡ true → state_at (quad a b c d) i j ≡ state_at a i j
  at_nw g h = grind (arith, g, h)

  pub at_ne : nat_lt j (2 ^ depth a) ≡ true → nat_lt i (2 ^ depth a) ≡ false → state_at (quad a b c d) i j ≡ state_at b (i - 2 ^ depth a) j
  at_ne g h = grind (arith, g, h)

  pub at_sw : nat_lt j (2 ^ depth a) ≡ false → nat_lt i (2 ^ depth a) ≡ true → state_at (quad a b c d) i j ≡ state_at c i (j - 2 ^ depth a)
  at_sw g h = grind (arith, g, h)

  pub at_se : nat_lt j (2 ^ depth a) ≡ false → nat_lt i (2 ^ depth a) ≡ false → state_at (quad a b c d) i j ≡ state_at d (i - 2 ^ depth a) (j - 2 ^ depth a)
  at_se g h = grind (arith, g, h)

-- the same, by its place in the quarter
module _ (a b c d : Tree) (full : IsFull (quad a b c d)) where
  pub state_nw : (i j : ℕ) → i < 2 ^ depth a → j < 2 ^ depth a → state_at (quad a b c d) i j ≡ state_at a i j
  state_nw i j li lj = at_nw a b c d i j (grind arith) (grind arith)

  pub state_ne : (i m j : ℕ) → i ≡ 2 ^ depth a + m → j < 2 ^ depth b → state_at (quad a b c d) i j ≡ state_at b m j
  state_ne i m j e lj =
      let s = ap (λ k. 2 ^ k) full.4 in
      let back : i - 2 ^ depth a ≡ m = omega arith in
      at_ne a b c d i j (grind arith) (grind arith) ∙ ap (λ z. state_at b z j) back

  pub state_sw : (i j n : ℕ) → j ≡ 2 ^ depth a + n → i < 2 ^ depth c → state_at (quad a b c d) i j ≡ state_at c i n
  state_sw i j n e li =
      let s = ap (λ k. 2 ^ k) full.5 in
      let back : j - 2 ^ depth a ≡ n = omega arith in
      at_sw a b c d i j (grind arith) (grind arith) ∙ ap (λ z. state_at c i z) back

  pub state_se : (i m j n : ℕ) → i ≡ 2 ^ depth a + m → j ≡ 2 ^ depth a + n → state_at (quad a b c d) i j ≡ state_at d m n
  state_se i m j n e f =
      let back_i : i - 2 ^ depth a ≡ m = omega arith in
      let back_j : j - 2 ^ depth a ≡ n = omega arith in
      at_se a b c d i j (grind arith) (grind arith) ∙ (λ z. state_at d (back_i z) (back_j z))

-- every cell of a blank square has state 0
pub state_at-blank : (k i j : ℕ) → state_at (blank k) i j ≡ 0
state_at-blank zero i j = refl
state_at-blank (suc k) i j = by (λ n m. state_at-blank k n m) (nat_lt j h) (nat_lt i h)
  where
    h : ℕ
    h = 2 ^ depth (blank k)

    by : ((n m : ℕ) → state_at (blank k) n m ≡ 0) → (p q : Bool)
        → (if p then (if q then state_at (blank k) i j else state_at (blank k) (i - h) j) else
        (if q then state_at (blank k) i (j - h) else state_at (blank k) (i - h) (j - h))) ≡ 0
    by f true true = f i j
    by f true false = f (i - h) j
    by f false true = f i (j - h)
    by f false false = f (i - h) (j - h)

-- whether a pair is inside the square of this half
abbrev pub is_inside : ℕ → ℤ → ℤ → Bool
is_inside h x y = int_le (neg_ℤ (pos h)) x && int_lt x (pos h) && int_le (neg_ℤ (pos h)) y && int_lt y (pos h)

-- the distance of a coordinate inside
pub inside_offset : (h : ℕ) (x : ℤ) → neg_ℤ (pos h) ≤ℤ x → x <ℤ pos h → (n : ℕ) × (x +ℤ pos h ≡ pos n) × (n < h + h)
inside_offset h (pos a) l u = (a + h, refl, omega (arith, ints))
inside_offset h (negsuc a) l u = (h - suc a, omega (arith, ints), omega (arith, ints))

pub record Inside (h : ℕ) (x y : ℤ) : Type 0 where
  pub west : neg_ℤ (pos h) ≤ℤ x
  pub east : x <ℤ pos h
  pub north : neg_ℤ (pos h) ≤ℤ y
  pub south : y <ℤ pos h

pub inside_facts : (h : ℕ) (x y : ℤ) → is_inside h x y ≡ true → Inside h x y
inside_facts h x y e =
    record { west = grind (arith, ints); east = grind (arith, ints); north = grind (arith, ints); south = grind (arith, ints) }

pub inside_test : (h : ℕ) (x y : ℤ) → Inside h x y → is_inside h x y ≡ true
inside_test h x y i = grind (arith, ints, i.west, i.east, i.north, i.south)

-- the state of a pair inside
pub cell_inside : (t : Tree) (x y : ℤ) (n m : ℕ) → is_inside (half_side t) x y ≡ true → x +ℤ pos (half_side t) ≡ pos n → y +ℤ pos (half_side t) ≡ pos m
    → cell t x y ≡ state_at t n m
cell_inside t x y n m i e f =
    ap (λ b. if b then state_at t (unsigned_abs (x +ℤ pos (half_side t))) (unsigned_abs (y +ℤ pos (half_side t))) else 0) i
    ∙ (λ j. state_at t (unsigned_abs (e j)) (unsigned_abs (f j)))

pub cell_outside : (t : Tree) (x y : ℤ) → is_inside (half_side t) x y ≡ false → cell t x y ≡ 0
cell_outside t x y i = ap (λ b. if b then state_at t (unsigned_abs (x +ℤ pos (half_side t))) (unsigned_abs (y +ℤ pos (half_side t))) else 0) i
