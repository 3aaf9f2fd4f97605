-- Rows of a square by the rows of its quarters.
use Rattle.std.proofs.Common.{List, [], ◌∷◌, get_or, ◌≡◌, ℕ, ◌+◌, ◌-◌, ◌*◌, ◌^◌, ◌<◌, ◌≤◌, refl, ap, arith, lt-ltb, le-ltb}
use Rattle.life_base.specs.Tree.{Tree, quad, depth, state_at}
use Rattle.life_writer.specs.Listing.{row_byte, rows_of}
use Rattle.life_writer.specs.Rows.{row_of_four}

module _ (a b c d : Tree) (half : ℕ) (e : 2 ^ depth a ≡ half) (x y : ℕ) where
  at_nw : x < half → y < half → state_at (quad a b c d) x y ≡ state_at a x y
  at_nw p q = rw (e, lt-ltb y half q, lt-ltb x half p) refl

  at_ne : half ≤ x → y < half → state_at (quad a b c d) x y ≡ state_at b (x - half) y
  at_ne p q = rw (e, lt-ltb y half q, le-ltb x half p) refl

  at_sw : x < half → half ≤ y → state_at (quad a b c d) x y ≡ state_at c x (y - half)
  at_sw p q = rw (e, le-ltb y half q, lt-ltb x half p) refl

  at_se : half ≤ x → half ≤ y → state_at (quad a b c d) x y ≡ state_at d (x - half) (y - half)
  at_se p q = rw (e, le-ltb y half q, le-ltb x half p) refl

-- a row of a square of level 3, by those of its western and its eastern quarter
eight_cells : (t a b : Tree) (y v : ℕ) → ((x : ℕ) → x < 4 → state_at t x y ≡ state_at a x v) → ((x : ℕ) → 4 ≤ x → state_at t x y ≡ state_at b (x - 4) v)
    → row_byte t y ≡ 16 * row_of_four a v + row_of_four b v
eight_cells t a b y v west east =
    let s0 = west 0 (omega arith) in
    let s1 = west 1 (omega arith) in
    let s2 = west 2 (omega arith) in
    let s3 = west 3 (omega arith) in
    let s4 : state_at t 4 y ≡ state_at b 0 v = east 4 (omega arith) in
    let s5 : state_at t 5 y ≡ state_at b 1 v = east 5 (omega arith) in
    let s6 : state_at t 6 y ≡ state_at b 2 v = east 6 (omega arith) in
    let s7 : state_at t 7 y ≡ state_at b 3 v = east 7 (omega arith) in
    omega arith

eight_north : (a b c d : Tree) (y : ℕ) → depth a ≡ 2 → y < 4 → row_byte (quad a b c d) y ≡ 16 * row_of_four a y + row_of_four b y
eight_north a b c d y e l =
    let h : 2 ^ depth a ≡ 4 = ap (λ k. 2 ^ k) e in
    eight_cells (quad a b c d) a b y y (λ x p. at_nw a b c d 4 h x y p l) (λ x p. at_ne a b c d 4 h x y p l)

eight_south : (a b c d : Tree) (y : ℕ) → depth a ≡ 2 → 4 ≤ y → row_byte (quad a b c d) y ≡ 16 * row_of_four c (y - 4) + row_of_four d (y - 4)
eight_south a b c d y e l =
    let h : 2 ^ depth a ≡ 4 = ap (λ k. 2 ^ k) e in
    eight_cells (quad a b c d) c d y (y - 4) (λ x p. at_sw a b c d 4 h x y p l) (λ x p. at_se a b c d 4 h x y p l)

-- the rows of a square of level 3
pub record EightRows (t a b c d : Tree) : Type 0 where
  pub r0 : row_byte t 0 ≡ 16 * row_of_four a 0 + row_of_four b 0
  pub r1 : row_byte t 1 ≡ 16 * row_of_four a 1 + row_of_four b 1
  pub r2 : row_byte t 2 ≡ 16 * row_of_four a 2 + row_of_four b 2
  pub r3 : row_byte t 3 ≡ 16 * row_of_four a 3 + row_of_four b 3
  pub r4 : row_byte t 4 ≡ 16 * row_of_four c 0 + row_of_four d 0
  pub r5 : row_byte t 5 ≡ 16 * row_of_four c 1 + row_of_four d 1
  pub r6 : row_byte t 6 ≡ 16 * row_of_four c 2 + row_of_four d 2
  pub r7 : row_byte t 7 ≡ 16 * row_of_four c 3 + row_of_four d 3

pub eight_rows : (a b c d : Tree) → depth a ≡ 2 → EightRows (quad a b c d) a b c d
eight_rows a b c d e = record {
  r0 = eight_north a b c d 0 e (omega arith);
  r1 = eight_north a b c d 1 e (omega arith);
  r2 = eight_north a b c d 2 e (omega arith);
  r3 = eight_north a b c d 3 e (omega arith);
  r4 = eight_south a b c d 4 e (omega arith);
  r5 = eight_south a b c d 5 e (omega arith);
  r6 = eight_south a b c d 6 e (omega arith);
  r7 = eight_south a b c d 7 e (omega arith);
}

same_eight : {p0 p1 p2 p3 p4 p5 p6 p7 q0 q1 q2 q3 q4 q5 q6 q7 : ℕ} → q0 ≡ p0 → q1 ≡ p1 → q2 ≡ p2 → q3 ≡ p3 → q4 ≡ p4 → q5 ≡ p5 → q6 ≡ p6 → q7 ≡ p7
    → ◌≡◌ {A = List ℕ} (p0 ∷ p1 ∷ p2 ∷ p3 ∷ p4 ∷ p5 ∷ p6 ∷ p7 ∷ []) (q0 ∷ q1 ∷ q2 ∷ q3 ∷ q4 ∷ q5 ∷ q6 ∷ q7 ∷ [])
same_eight a b c d e f g h = cc

abbrev pub four : Tree → List ℕ
four t = row_of_four t 0 ∷ row_of_four t 1 ∷ row_of_four t 2 ∷ row_of_four t 3 ∷ []

-- the rows of a leaf, by those of its quarters
pub leaf_rows : (t a b c d : Tree) (p q r s : List ℕ) → t ≡ quad a b c d → depth a ≡ 2 → p ≡ four a → q ≡ four b → r ≡ four c → s ≡ four d
    → (16 * get_or p 0 0 + get_or q 0 0) ∷ (16 * get_or p 1 0 + get_or q 1 0) ∷ (16 * get_or p 2 0 + get_or q 2 0) ∷ (16 * get_or p 3 0 + get_or q 3 0)
    ∷ (16 * get_or r 0 0 + get_or s 0 0) ∷ (16 * get_or r 1 0 + get_or s 1 0) ∷ (16 * get_or r 2 0 + get_or s 2 0) ∷ (16 * get_or r 3 0 + get_or s 3 0) ∷ []
    ≡ rows_of t
unfolding rows_of
leaf_rows t a b c d p q r s e deep ep eq er es =
    let w = eight_rows a b c d deep in
    rw (ep, eq, er, es, e) (same_eight w.r0 w.r1 w.r2 w.r3 w.r4 w.r5 w.r6 w.r7)
