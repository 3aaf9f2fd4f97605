-- Facts on squares of cells.
use Rattle.std.proofs.Common.{◌≡◌, ℕ, zero, suc, ◌+◌, ◌-◌, ◌^◌, ◌<◌, ◌≤◌, Bool, true, false, cond, ◌&&◌, refl, ap, sym, ◌∙◌, arith, ◌⊎◌, inl, inr, ℤ, pos, neg_ℤ, ◌+ℤ◌, ◌≤ℤ◌, ◌<ℤ◌, int_le, int_lt, eqb-true}
use Rattle.std.proofs.Math.Nat.{add-sub_cancel, zero-add}
use Rattle.std.proofs.lemmas.Bool.{cond-true, cond-false}
pub use Rattle.std.proofs.lemmas.Bool.{cases_Bool as bool_cases, and_from as and_both}
use Rattle.std.proofs.lemmas.Bool.Decides.{nat_tests}
use Rattle.std.proofs.lemmas.Int.{ints}
use borrow.Author.Differences.{up, down}
use Rattle.life_base.specs.Tree.{Tree, point, quad, depth, state_at, is_blank_tree as is_blank, blank}
use Rattle.life_quad.specs.Moves.{grown_square}
use Rattle.life_pattern.specs.Universe.{square, corner, centred_square, IsWithin, IsBlankOutside}
use Rattle.life_pattern.proofs.TreeWords.{HasDepth, point_depth, quad_depth, middle, has_blank_border, is_within, trim_times, trimmed_to as trimmed, grown_quarters}
use Rattle.life_base.proofs.Basics.{right_of_and, left_of_and, double, plus_zero, int_le-true, int_lt-true, le-int_le, lt-int_lt, true_false}
use Rattle.life_base.proofs.Squares.{same_quads, state_at-blank}

pub depth_is : {k : ℕ} {t : Tree} → HasDepth k t → depth t ≡ k
depth_is point_depth = refl
depth_is (quad_depth a b c d) = ap suc (depth_is a)

pub blank-depth : (k : ℕ) → HasDepth k (blank k)
blank-depth zero = point_depth
blank-depth (suc k) = quad_depth (blank-depth k) (blank-depth k) (blank-depth k) (blank-depth k)

pub blank-blank : (k : ℕ) → is_blank (blank k) ≡ true
blank-blank zero = refl
blank-blank (suc k) = rw (blank-blank k) refl

pub square-depth : (cells : ℤ → ℤ → ℕ) (k : ℕ) (x y : ℤ) → HasDepth k (square cells k x y)
unfolding square
square-depth cells zero x y = point_depth
square-depth cells (suc k) x y = quad_depth (square-depth cells k _ _) (square-depth cells k _ _) (square-depth cells k _ _) (square-depth cells k _ _)

-- a blank square of depth k is the blank square of depth k
-- the four parts of a conjunction of four tests
pub record Four (a b c d : Bool) : Type 0 where
  pub first : a ≡ true
  pub second : b ≡ true
  pub third : c ≡ true
  pub fourth : d ≡ true

pub four_parts : (a b c d : Bool) → (a && b && c && d) ≡ true → Four a b c d
four_parts a b c d h = record { first = grind arith; second = grind arith; third = grind arith; fourth = grind arith }

pub is_blank-blank : {k : ℕ} {t : Tree} → HasDepth k t → is_blank t ≡ true → t ≡ blank k
is_blank-blank (point_depth {state = s}) h = ap point (eqb-true s 0 h)
is_blank-blank (quad_depth {k = k} {nw = a} {ne = b} {sw = c} {se = d} p q r s) h =
    let f = four_parts (is_blank a) (is_blank b) (is_blank c) (is_blank d) h in
    same_quads (is_blank-blank p f.first) (is_blank-blank q f.second) (is_blank-blank r f.third) (is_blank-blank s f.fourth)

-- cells decide the square
pub square-same : (f g : ℤ → ℤ → ℕ) → ((x y : ℤ) → f x y ≡ g x y) → (k : ℕ) (x y : ℤ) → square f k x y ≡ square g k x y
unfolding square
square-same f g same zero x y = ap point (same x y)
square-same f g same (suc k) x y =
    let a = square-same f g same k x y in
    let b = square-same f g same k (x +ℤ pos (2 ^ k)) y in
    let c = square-same f g same k x (y +ℤ pos (2 ^ k)) in
    let d = square-same f g same k (x +ℤ pos (2 ^ k)) (y +ℤ pos (2 ^ k)) in
    cc

pub add_double : (x : ℤ) (k : ℕ) → x +ℤ pos (2 ^ suc k) ≡ (x +ℤ pos (2 ^ k)) +ℤ pos (2 ^ k)
add_double x k = omega (arith, ints, double k)

-- a cell of a square of the plane
add_twice : (x : ℤ) (m i : ℕ) → m ≤ i → (x +ℤ pos m) +ℤ pos (i - m) ≡ x +ℤ pos i
add_twice x m i h = omega (arith, ints)

-- the cell of four joined squares, in each quarter
module _ (nw ne sw se : Tree) (k : ℕ) (is : depth nw ≡ k) (x y : ℕ) where
  pub state_at-nw : x < 2 ^ k → y < 2 ^ k → state_at (quad nw ne sw se) x y ≡ state_at nw x y
  state_at-nw p q = rw is (grind (arith, nat_tests))

  pub state_at-ne : 2 ^ k ≤ x → y < 2 ^ k → state_at (quad nw ne sw se) x y ≡ state_at ne (x - 2 ^ k) y
  state_at-ne p q = rw is (grind (arith, nat_tests))

  pub state_at-sw : x < 2 ^ k → 2 ^ k ≤ y → state_at (quad nw ne sw se) x y ≡ state_at sw x (y - 2 ^ k)
  state_at-sw p q = rw is (grind (arith, nat_tests))

  pub state_at-se : 2 ^ k ≤ x → 2 ^ k ≤ y → state_at (quad nw ne sw se) x y ≡ state_at se (x - 2 ^ k) (y - 2 ^ k)
  state_at-se p q = rw is (grind (arith, nat_tests))

-- a coordinate below 2 ^ (k + 1) is below 2 ^ k, or that much further
pub half_cases : (k i : ℕ) → i < 2 ^ suc k → (i < 2 ^ k) ⊎ ((2 ^ k ≤ i) × (i - 2 ^ k < 2 ^ k))
half_cases k i h = grind (arith, nat_tests, double k)

pub state_at-square : (f : ℤ → ℤ → ℕ) (k : ℕ) (x y : ℤ) (i j : ℕ) → i < 2 ^ k → j < 2 ^ k → state_at (square f k x y) i j ≡ f (x +ℤ pos i) (y +ℤ pos j)
unfolding square
state_at-square f zero x y i j p q =
    let e : i ≡ 0 = omega arith in
    let g : j ≡ 0 = omega arith in
    rw (e, g, plus_zero x, plus_zero y) refl
state_at-square f (suc k) x y i j p q =
    let a = square f k x y in
    let b = square f k (x +ℤ pos (2 ^ k)) y in
    let c = square f k x (y +ℤ pos (2 ^ k)) in
    let d = square f k (x +ℤ pos (2 ^ k)) (y +ℤ pos (2 ^ k)) in
    let is : depth a ≡ k = depth_is (square-depth f k x y) in
    elim (half_cases k i p) [
      | inl l ↦ elim (half_cases k j q) [
        | inl m ↦ state_at-nw a b c d k is i j l m ∙ state_at-square f k x y i j l m
        | inr m ↦ state_at-sw a b c d k is i j l m.0 ∙ state_at-square f k x (y +ℤ pos (2 ^ k)) i (j - 2 ^ k) l m.1
            ∙ ap (λ v. f (x +ℤ pos i) v) (add_twice y (2 ^ k) j m.0)
      ]
      | inr l ↦ elim (half_cases k j q) [
        | inl m ↦ state_at-ne a b c d k is i j l.0 m ∙ state_at-square f k (x +ℤ pos (2 ^ k)) y (i - 2 ^ k) j l.1 m
            ∙ ap (λ v. f v (y +ℤ pos j)) (add_twice x (2 ^ k) i l.0)
        | inr m ↦ state_at-se a b c d k is i j l.0 m.0 ∙ state_at-square f k (x +ℤ pos (2 ^ k)) (y +ℤ pos (2 ^ k)) (i - 2 ^ k) (j - 2 ^ k) l.1 m.1
            ∙ ap (λ v. f v ((y +ℤ pos (2 ^ k)) +ℤ pos (j - 2 ^ k))) (add_twice x (2 ^ k) i l.0) ∙ ap (λ v. f (x +ℤ pos i) v) (add_twice y (2 ^ k) j m.0)
      ]
    ]

-- two squares of one depth with equal cells are equal
pub trees_equal : {k : ℕ} {s t : Tree} → HasDepth k s → HasDepth k t → ((i j : ℕ) → i < 2 ^ k → j < 2 ^ k → state_at s i j ≡ state_at t i j) → s ≡ t
trees_equal (point_depth {state = s}) (point_depth {state = t}) e = ap point (e 0 0 (omega arith) (omega arith))
trees_equal (quad_depth {k = k} {nw = a} {ne = b} {sw = c} {se = d} p q r s) (quad_depth {nw = a'} {ne = b'} {sw = c'} {se = d'} p' q' r' s') e =
    let is : depth a ≡ k = depth_is p in
    let is' : depth a' ≡ k = depth_is p' in
    let ea : a ≡ a' = trees_equal p p' (λ i j l m.
    sym (state_at-nw a b c d k is i j l m) ∙ e i j (omega (arith, double k)) (omega (arith, double k)) ∙ state_at-nw a' b' c' d' k is' i j l m) in
    let eb : b ≡ b' = trees_equal q q' (λ i j l m.
    rw (add-sub_cancel i (2 ^ k)) at
    (sym (state_at-ne a b c d k is (i + 2 ^ k) j (omega arith) m) ∙ e (i + 2 ^ k) j (omega (arith, double k)) (omega (arith, double k))
    ∙ state_at-ne a' b' c' d' k is' (i + 2 ^ k) j (omega arith) m)) in
    let ec : c ≡ c' = trees_equal r r' (λ i j l m.
    rw (add-sub_cancel j (2 ^ k)) at
    (sym (state_at-sw a b c d k is i (j + 2 ^ k) l (omega arith)) ∙ e i (j + 2 ^ k) (omega (arith, double k)) (omega (arith, double k))
    ∙ state_at-sw a' b' c' d' k is' i (j + 2 ^ k) l (omega arith))) in
    let ed : d ≡ d' = trees_equal s s' (λ i j l m.
    rw (add-sub_cancel i (2 ^ k), add-sub_cancel j (2 ^ k)) at
    (sym (state_at-se a b c d k is (i + 2 ^ k) (j + 2 ^ k) (omega arith) (omega arith))
    ∙ e (i + 2 ^ k) (j + 2 ^ k) (omega (arith, double k)) (omega (arith, double k)) ∙ state_at-se a' b' c' d' k is' (i + 2 ^ k) (j + 2 ^ k) (omega arith)
    (omega arith))) in
    cc

blank-depth_of : (t : Tree) → depth (blank (depth t)) ≡ depth t
blank-depth_of t = depth_is (blank-depth (depth t))

pub grown-border : (a b c d : Tree) → has_blank_border (grown_quarters a b c d) ≡ true
grown-border a b c d = rw (blank-blank (depth a)) refl

sub_suc : (n m : ℕ) → m ≤ n → suc n - m ≡ suc (n - m)
sub_suc n m h = omega arith

pub trim_times-once : (n : ℕ) (t : Tree) → has_blank_border t ≡ true → trim_times (suc n) t ≡ trim_times n (middle t)
trim_times-once n t h = rw h refl

pub trim_times-stop : (n : ℕ) (t : Tree) → has_blank_border t ≡ false → trim_times n t ≡ t
trim_times-stop zero t h = refl
trim_times-stop (suc n) t h = rw h refl

-- trimming ignores growth
pub grown-trimmed : {k : ℕ} {t : Tree} → HasDepth k t → (m : ℕ) → 1 ≤ m → m ≤ k → trimmed (grown_square t) m ≡ trimmed t m
unfolding trimmed
grown-trimmed point_depth m p q = absurd (omega arith)
grown-trimmed (quad_depth {k = k} {nw = a} {ne = b} {sw = c} {se = d} p q r s) m le be =
    let e : depth a ≡ k = depth_is p in
    let f : m ≤ suc (depth a) = omega arith in
    let g : depth (grown_quarters a b c d) ≡ suc (suc (depth a)) = ap (λ n. suc (suc n)) (blank-depth_of a) in
    let h : depth (grown_quarters a b c d) - m ≡ suc (suc (depth a) - m) = ap (λ n. n - m) g ∙ sub_suc (suc (depth a)) m f in
    ap (λ n. trim_times n (grown_quarters a b c d)) h ∙ trim_times-once (suc (depth a) - m) (grown_quarters a b c d) (grown-border a b c d)

-- the middle of a square of the plane
pub middle-square : (f : ℤ → ℤ → ℕ) (k : ℕ) (x y : ℤ) → middle (square f (suc (suc k)) x y) ≡ square f (suc k) (x +ℤ pos (2 ^ k)) (y +ℤ pos (2 ^ k))
unfolding square
middle-square f k x y = rw (add_double x k, add_double y k) refl

-- the corner of the middle of a centred square
neg_add : (z : ℤ) (n m : ℕ) → m ≡ n + n → neg_ℤ (pos m) +ℤ pos n ≡ neg_ℤ (pos n)
neg_add z n m h = omega (arith, ints)

pub corner-middle : (k : ℕ) → corner (suc (suc k)) +ℤ pos (2 ^ k) ≡ corner (suc k)
unfolding corner
corner-middle k = neg_add (pos 0) (2 ^ k) (2 ^ suc k) (double k)

pub centred-depth : (f : ℤ → ℤ → ℕ) (k : ℕ) → HasDepth k (centred_square f k)
unfolding centred_square
centred-depth f k = square-depth f k (corner k) (corner k)

pub middle-centred : (f : ℤ → ℤ → ℕ) (k : ℕ) → middle (centred_square f (suc (suc k))) ≡ centred_square f (suc k)
unfolding centred_square
middle-centred f k =
    middle-square f k (corner (suc (suc k))) (corner (suc (suc k))) ∙ ap (λ v. square f (suc k) v v) (corner-middle k)

-- a square is blank exactly if its cells are
module _ (f : ℤ → ℤ → ℕ) where
  pub square-blank : (k : ℕ) (x y : ℤ) → ((i j : ℕ) → i < 2 ^ k → j < 2 ^ k → f (x +ℤ pos i) (y +ℤ pos j) ≡ 0) → square f k x y ≡ blank k
  square-blank k x y h =
      trees_equal (square-depth f k x y) (blank-depth k)
      (λ i j p q. state_at-square f k x y i j p q ∙ h i j p q ∙ sym (state_at-blank k i j))

-- a coordinate west of the square of depth k + 1 in the middle, or east of it
not_below : (c d : ℤ) (n i : ℕ) → d +ℤ pos n ≡ c → i < n → ¬ (c ≤ℤ (d +ℤ pos i))
not_below c d n i e h g = omega (arith, ints)

not_above : (c d e : ℤ) (n m i : ℕ) → d +ℤ pos n ≡ c → m ≡ n + n → e ≡ (d +ℤ pos m) +ℤ pos n → ¬ ((e +ℤ pos i) <ℤ (c +ℤ pos m))
not_above c d e n m i p q r g = omega (arith, ints)

module _ (f : ℤ → ℤ → ℕ) (k : ℕ) (h : IsBlankOutside (suc k) f) where
  outer-west : (y : ℤ) → square f k (corner (suc (suc k))) y ≡ blank k
  outer-west y = square-blank f k _ y (λ i j p q. h _ _ (λ w. not_below (corner (suc k)) (corner (suc (suc k))) (2 ^ k) i (corner-middle k) p w.0.0))

  outer-north : (x : ℤ) → square f k x (corner (suc (suc k))) ≡ blank k
  outer-north x = square-blank f k x _ (λ i j p q. h _ _ (λ w. not_below (corner (suc k)) (corner (suc (suc k))) (2 ^ k) j (corner-middle k) q w.1.0))

  outer-east : (y : ℤ) → square f k ((corner (suc (suc k)) +ℤ pos (2 ^ suc k)) +ℤ pos (2 ^ k)) y ≡ blank k
  outer-east y = square-blank f k _ y
      (λ i j p q. h _ _ (λ w. not_above (corner (suc k)) (corner (suc (suc k))) _ (2 ^ k) (2 ^ suc k) i (corner-middle k) (double k) refl w.0.1))

  outer-south : (x : ℤ) → square f k x ((corner (suc (suc k)) +ℤ pos (2 ^ suc k)) +ℤ pos (2 ^ k)) ≡ blank k
  outer-south x = square-blank f k x _
      (λ i j p q. h _ _ (λ w. not_above (corner (suc k)) (corner (suc (suc k))) _ (2 ^ k) (2 ^ suc k) j (corner-middle k) (double k) refl w.1.1))

  -- the inner corners
  inner-far : corner (suc (suc k)) +ℤ pos (2 ^ suc k) ≡ corner (suc k) +ℤ pos (2 ^ k)
  inner-far = add_double (corner (suc (suc k))) k ∙ ap (λ v. v +ℤ pos (2 ^ k)) (corner-middle k)

  inner : (x y x' y' : ℤ) → x ≡ x' → y ≡ y' → square f k x y ≡ square f k x' y'
  inner x y x' y' p q = cc

  -- a square in the middle of the plane is the grown middle, where the rest is blank
  pub centred-grown : centred_square f (suc (suc k)) ≡ grown_square (centred_square f (suc k))
  unfolding centred_square square
  centred-grown =
      rw (depth_is (square-depth f k (corner (suc k)) (corner (suc k))))
      (same_quads
      (same_quads (outer-west _) (outer-north _) (outer-west _) (inner _ _ _ _ (corner-middle k) (corner-middle k)))
      (same_quads (outer-north _) (outer-north _) (inner _ _ _ _ inner-far (corner-middle k)) (outer-east _))
      (same_quads (outer-west _) (inner _ _ _ _ (corner-middle k) inner-far) (outer-west _) (outer-south _))
      (same_quads (inner _ _ _ _ inner-far inner-far) (outer-east _) (outer-south _) (outer-south _)))

suc_add : (n k : ℕ) → suc n + k ≡ suc (n + k)
suc_add n k = omega arith

grow_le : (n k m : ℕ) → m ≤ suc k → m ≤ suc (n + k)
grow_le n k m h = omega arith

-- a plane that is blank outside a square is blank outside the next
outside_more : (c d : ℤ) (n m : ℕ) (x : ℤ) → d +ℤ pos n ≡ c → m ≡ n + n → (c ≤ℤ x) × (x <ℤ (c +ℤ pos m)) → (d ≤ℤ x) × (x <ℤ (d +ℤ pos (m + m)))
outside_more c d n m x p q (a, b) = (omega (arith, ints), omega (arith, ints))

pub within-more : (k : ℕ) (x : ℤ) → IsWithin (suc k) x → IsWithin (suc (suc k)) x
within-more k x w = rw (double (suc k)) (outside_more (corner (suc k)) (corner (suc (suc k))) (2 ^ k) (2 ^ suc k) x (corner-middle k) (double k) w)

pub outside-more : (f : ℤ → ℤ → ℕ) (k : ℕ) → IsBlankOutside (suc k) f → IsBlankOutside (suc (suc k)) f
outside-more f k h x y n = h x y (λ w. n (within-more k x w.0, within-more k y w.1))

pub outside-by : (f : ℤ → ℤ → ℕ) (n k : ℕ) → IsBlankOutside (suc k) f → IsBlankOutside (suc (n + k)) f
outside-by f zero k h = rw (zero-add k) h
outside-by f (suc n) k h = rw (suc_add n k) (outside-more f (n + k) (outside-by f n k h))

-- the trimmed square in the middle of the plane is the same from any depth that holds all
pub centred-trimmed : (f : ℤ → ℤ → ℕ) (m n k : ℕ) → 1 ≤ m → m ≤ suc k → IsBlankOutside (suc k) f → trimmed (centred_square f (suc (n + k))) m
    ≡ trimmed (centred_square f (suc k)) m
centred-trimmed f m zero k le be h = ap (λ v. trimmed (centred_square f (suc v)) m) (zero-add k)
centred-trimmed f m (suc n) k le be h =
    ap (λ v. trimmed (centred_square f (suc v)) m) (suc_add n k)
    ∙ ap (λ v. trimmed v m) (centred-grown f (n + k) (outside-by f n k h))
    ∙ grown-trimmed (centred-depth f (suc (n + k))) m le (grow_le n k m be)
    ∙ centred-trimmed f m n k le be h

-- how far a coordinate is from a smaller one
pub offset : (c x : ℤ) → c ≤ℤ x → x ≡ c +ℤ pos ((up x + down c) - (down x + up c))
offset c x h = omega (arith, ints)

offset_below : (c x : ℤ) (i n : ℕ) → x ≡ c +ℤ pos i → x <ℤ (c +ℤ pos n) → i < n
offset_below c x i n e h = omega (arith, ints)

pub offset_within : (c x : ℤ) (i n : ℕ) → x ≡ c +ℤ pos i → i < n → (c ≤ℤ x) × (x <ℤ (c +ℤ pos n))
offset_within c x i n e h = (omega (arith, ints), omega (arith, ints))

-- the place of a coordinate in a square in the middle of the plane, counted from its corner
pub record Offset (k : ℕ) (x : ℤ) : Type 0 where
  pub by : ℕ
  pub below : by < 2 ^ k
  pub is : x ≡ corner k +ℤ pos by

pub within-offset : (k : ℕ) (x : ℤ) → IsWithin k x → Offset k x
within-offset k x w =
    let e = offset (corner k) x w.0 in
    record { by = (up x + down (corner k)) - (down x + up (corner k)); below = offset_below (corner k) x _ (2 ^ k) e w.1; is = e }

-- the cells of a square in the middle of the plane
pub state_at-centred : (f : ℤ → ℤ → ℕ) (k : ℕ) (i j : ℕ) → i < 2 ^ k → j < 2 ^ k → state_at (centred_square f k) i j ≡ f (corner k +ℤ pos i) (corner k +ℤ pos j)
unfolding centred_square
state_at-centred f k i j p q = state_at-square f k (corner k) (corner k) i j p q

-- planes with equal squares in the middle have equal cells there
pub centred_same-cells : (f g : ℤ → ℤ → ℕ) (k : ℕ) → centred_square f k ≡ centred_square g k → (x y : ℤ) → IsWithin k x → IsWithin k y → f x y ≡ g x y
centred_same-cells f g k e x y v w =
    let o = within-offset k x v in
    let p = within-offset k y w in
    let c : f (corner k +ℤ pos o.by) (corner k +ℤ pos p.by) ≡ g (corner k +ℤ pos o.by) (corner k +ℤ pos p.by) =
    sym (state_at-centred f k o.by p.by o.below p.below) ∙ ap (λ t. state_at t o.by p.by) e ∙ state_at-centred g k o.by p.by o.below p.below in
    rw (o.is, p.is) c

pub cells_same-centred : (f g : ℤ → ℤ → ℕ) (k : ℕ) → ((x y : ℤ) → IsWithin k x → IsWithin k y → f x y ≡ g x y) → centred_square f k ≡ centred_square g k
cells_same-centred f g k h =
    trees_equal (centred-depth f k) (centred-depth g k)
    (λ i j p q. state_at-centred f k i j p q
    ∙ h _ _ (offset_within (corner k) _ i (2 ^ k) refl p) (offset_within (corner k) _ j (2 ^ k) refl q)
    ∙ sym (state_at-centred g k i j p q))

pub is_within-true : (k : ℕ) (x : ℤ) → is_within k x ≡ true → IsWithin k x
is_within-true k x h = (
  int_le-true _ _ (left_of_and (int_le (corner k) x) (int_lt x (corner k +ℤ pos (2 ^ k))) h),
  int_lt-true _ _ (right_of_and (int_le (corner k) x) (int_lt x (corner k +ℤ pos (2 ^ k))) h),
)

pub is_within-is : (k : ℕ) (x : ℤ) → IsWithin k x → is_within k x ≡ true
is_within-is k x (a, b) = and_both _ _ (le-int_le _ _ a) (lt-int_lt _ _ b)

-- the plane with the cells of a square in the middle alone
pub only : ℕ → (ℤ → ℤ → ℕ) → ℤ → ℤ → ℕ
only k f x y = cond (is_within k x && is_within k y) (f x y) 0

pub only-inside : (k : ℕ) (f : ℤ → ℤ → ℕ) (x y : ℤ) → IsWithin k x → IsWithin k y → only k f x y ≡ f x y
unfolding only
only-inside k f x y v w = cond-true _ _ _ (and_both _ _ (is_within-is k x v) (is_within-is k y w))

pub only-outside : (k : ℕ) (f : ℤ → ℤ → ℕ) → IsBlankOutside k (only k f)
unfolding only
only-outside k f x y n = elim (bool_cases (is_within k x && is_within k y)) [
  | inl e ↦ absurd (n (is_within-true k x (left_of_and (is_within k x) (is_within k y) e), is_within-true k y (right_of_and (is_within k x) (is_within k y) e)))
  | inr e ↦ cond-false _ _ _ e
]

-- the twelve parts of a conjunction of twelve tests
record Twelve (a b c d e f g h i j k l : Bool) : Type 0 where
  low : Four a b c d
  mid : Four e f g h
  high : Four i j k l

twelve_parts : (a b c d e f g h i j k l : Bool) → (a && b && c && d && e && f && g && h && i && j && k && l) ≡ true → Twelve a b c d e f g h i j k l
twelve_parts a b c d e f g h i j k l t =
    let u = four_parts (a && b && c && d && e && f && g && h && i) j k l t in
    let v = four_parts (a && b && c && d && e && f) g h i u.first in
    let w = four_parts (a && b && c && d) e f (true) (and_both _ _ v.first refl) in
    record {
      low = four_parts a b c d w.first;
      mid = record { first = w.second; second = w.third; third = v.second; fourth = v.third };
      high = record { first = v.fourth; second = u.second; third = u.third; fourth = u.fourth };
    }

border-joined : {k : ℕ} {a b c d e f g h i j l m n o p q : Tree}
    → HasDepth k a → HasDepth k b → HasDepth k c → HasDepth k d → HasDepth k e → HasDepth k f → HasDepth k g → HasDepth k h
    → HasDepth k i → HasDepth k j → HasDepth k l → HasDepth k m → HasDepth k n → HasDepth k o → HasDepth k p → HasDepth k q
    → has_blank_border (quad (quad a b c d) (quad e f g h) (quad i j l m) (quad n o p q)) ≡ true
    → quad (quad a b c d) (quad e f g h) (quad i j l m) (quad n o p q) ≡ grown_quarters d g j n
border-joined {k = k} {a = a} {b = b} {c = c} {d = d} {e = e} {f = f} {g = g} {h = h} {i = i} {j = j} {l = l} {m = m} {n = n} {o = o} {p = p} {q = q} ha hb hc
    hd he hf hg hh hi hj hl hm hn ho hp hq t =
    let v = twelve_parts (is_blank a) (is_blank b) (is_blank c) (is_blank e) (is_blank f) (is_blank h) (is_blank i) (is_blank l) (is_blank m) (is_blank o)
    (is_blank p) (is_blank q) t in
    rw (depth_is hd)
    (same_quads
    (same_quads (is_blank-blank ha v.low.first) (is_blank-blank hb v.low.second) (is_blank-blank hc v.low.third) refl)
    (same_quads (is_blank-blank he v.low.fourth) (is_blank-blank hf v.mid.first) refl (is_blank-blank hh v.mid.second))
    (same_quads (is_blank-blank hi v.mid.third) refl (is_blank-blank hl v.mid.fourth) (is_blank-blank hm v.high.first))
    (same_quads refl (is_blank-blank ho v.high.second) (is_blank-blank hp v.high.third) (is_blank-blank hq v.high.fourth)))

pub border-grown : (k : ℕ) (t : Tree) → HasDepth (suc (suc k)) t → has_blank_border t ≡ true → t ≡ grown_square (middle t)
border-grown k t (quad_depth (quad_depth a b c d) (quad_depth e f g h) (quad_depth i j l m) (quad_depth n o p q)) t' = border-joined a b c d e f g h i j l m n o
    p q t'

-- a square with a blank border has nothing outside its middle
pub border-outside : (f : ℤ → ℤ → ℕ) (k : ℕ) → has_blank_border (centred_square f (suc (suc k))) ≡ true → IsBlankOutside (suc (suc k)) f
    → IsBlankOutside (suc k) f
border-outside f k b h x y n =
    let g : ℤ → ℤ → ℕ = only (suc k) f in
    let same : centred_square f (suc k) ≡ centred_square g (suc k) = cells_same-centred f g (suc k) (λ v w p q. sym (only-inside (suc k) f v w p q)) in
    let grow : centred_square f (suc (suc k)) ≡ grown_square (centred_square f (suc k)) = border-grown k _ (centred-depth f (suc (suc k))) b
    ∙ ap grown_square (middle-centred f k) in
    let all : centred_square f (suc (suc k)) ≡ centred_square g (suc (suc k)) = grow ∙ ap grown_square same
    ∙ sym (centred-grown g k (only-outside (suc k) f)) in
    elim (bool_cases (is_within (suc (suc k)) x && is_within (suc (suc k)) y)) [
      | inl e ↦ centred_same-cells f g (suc (suc k)) all x y (is_within-true _ x (left_of_and _ _ e))
          (is_within-true _ y (right_of_and _ (is_within (suc (suc k)) y) e)) ∙ only-outside (suc k) f x y n
      | inr e ↦ h x y (λ w. absurd (true_false _ (and_both _ _ (is_within-is _ x w.0) (is_within-is _ y w.1)) e))
    ]

-- trimming leaves a square in the middle of the plane, which holds all
pub record IsTrimmedAt (f : ℤ → ℤ → ℕ) (m n : ℕ) (t : Tree) : Type 0 where
  pub level : ℕ
  pub least : m ≤ suc level
  pub most : level ≤ n
  pub is : t ≡ centred_square f (suc level)
  pub outside : IsBlankOutside (suc level) f

trim_times-centred : (f : ℤ → ℤ → ℕ) (m k : ℕ) → 1 ≤ m → m ≤ suc k → IsBlankOutside (suc k) f → (n : ℕ) → n ≡ suc k - m
    → IsTrimmedAt f m k (trim_times n (centred_square f (suc k)))
trim_times-centred f m k le be h zero e = record { level = k; least = be; most = omega arith; is = refl; outside = h }
trim_times-centred f m zero le be h (suc n) e = absurd (omega arith)
trim_times-centred f m (suc k) le be h (suc n) e =
    elim (bool_cases (has_blank_border (centred_square f (suc (suc k))))) [
      | inl b ↦
          let t = trim_times-centred f m k le (omega arith) (border-outside f k b h) n (omega arith) in
          record {
            level = t.level;
            least = t.least;
            most = omega arith;
            is = trim_times-once n (centred_square f (suc (suc k))) b
                ∙ ap (trim_times n) (middle-centred f k) ∙ t.is;
            outside = t.outside;
          }
      | inr b ↦ record { level = suc k; least = be; most = omega arith; is = trim_times-stop (suc n) (centred_square f (suc (suc k))) b; outside = h }
    ]

pub trimmed-centred : (f : ℤ → ℤ → ℕ) (m k : ℕ) → 1 ≤ m → m ≤ suc k → IsBlankOutside (suc k) f → IsTrimmedAt f m k (trimmed (centred_square f (suc k)) m)
unfolding trimmed
trimmed-centred f m k le be h = trim_times-centred f m k le be h (depth (centred_square f (suc k)) - m) (rw (depth_is (centred-depth f (suc k))) refl)
