-- Facts about the nonzero cells of a square.
use Rattle.std.proofs.Common.{◌≡◌, ℕ, suc, ◌+◌, ◌-◌, ◌^◌, ◌<◌, Bool, true, false, ◌&&◌, ◌==◌, nat_lt, refl, sym, ◌∙◌, ap, arith, true≢false}
use Rattle.life_base.specs.Tree.{Tree, point, quad, depth, is_blank_tree, IsFull}
use Rattle.life_quad.specs.Distances.{IsNonzeroAt}
use Rattle.life_base.proofs.Squares.{at_nw, at_ne, at_sw, at_se, state_nw, state_ne, state_sw, state_se}
use Rattle.life_base.proofs.Basics.{right_of_and, left_of_and, double}

-- the quarter in which a nonzero cell lies, and where in it
pub data InQuarter (a b c d : Tree) (half i j : ℕ) : Type 0 where
  in_nw : IsNonzeroAt a i j → InQuarter a b c d half i j
  in_ne : (m : ℕ) → i ≡ half + m → IsNonzeroAt b m j → InQuarter a b c d half i j
  in_sw : (n : ℕ) → j ≡ half + n → IsNonzeroAt c i n → InQuarter a b c d half i j
  in_se : (m n : ℕ) → i ≡ half + m → j ≡ half + n → IsNonzeroAt d m n → InQuarter a b c d half i j

-- the sides of the quarters of a full square, which are half as long as its own
pub record Sides (a b c d : Tree) : Type 0 where
  pub whole : 2 ^ suc (depth a) ≡ 2 ^ depth a + 2 ^ depth a
  pub ne : 2 ^ depth b ≡ 2 ^ depth a
  pub sw : 2 ^ depth c ≡ 2 ^ depth a
  pub se : 2 ^ depth d ≡ 2 ^ depth a

pub sides : (a b c d : Tree) → IsFull (quad a b c d) → Sides a b c d
sides a b c d full = record { whole = double (depth a); ne = ap (λ k. 2 ^ k) full.4; sw = ap (λ k. 2 ^ k) full.5; se = ap (λ k. 2 ^ k) full.6 }

module _ (a b c d : Tree) (full : IsFull (quad a b c d)) where
  s : Sides a b c d
  s = sides a b c d full

  pub quarter_of : (i j : ℕ) → IsNonzeroAt (quad a b c d) i j → InQuarter a b c d (2 ^ depth a) i j
  quarter_of i j h = by (nat_lt j (2 ^ depth a)) refl (nat_lt i (2 ^ depth a)) refl
    where
      twice : 2 ^ suc (depth a) ≡ 2 ^ depth a + 2 ^ depth a
      twice = s.whole

      li : i < 2 ^ suc (depth a)
      li = h.column

      lj : j < 2 ^ suc (depth a)
      lj = h.row

      by : (p : Bool) → nat_lt j (2 ^ depth a) ≡ p → (q : Bool) → nat_lt i (2 ^ depth a) ≡ q → InQuarter a b c d (2 ^ depth a) i j
      by true g true f =
          in_nw (record { column = grind arith; row = grind arith; state = λ e. h.state (at_nw a b c d i j g f ∙ e) })
      by true g false f =
          in_ne (i - 2 ^ depth a) (grind arith)
          (record { column = let side = s.ne in grind arith; row = let side = s.ne in grind arith; state = λ e. h.state (at_ne a b c d i j g f ∙ e) })
      by false g true f =
          in_sw (j - 2 ^ depth a) (grind arith)
          (record { column = let side = s.sw in grind arith; row = let side = s.sw in grind arith; state = λ e. h.state (at_sw a b c d i j g f ∙ e) })
      by false g false f =
          in_se (i - 2 ^ depth a) (j - 2 ^ depth a) (grind arith) (grind arith)
          (record { column = let side = s.se in grind arith; row = let side = s.se in grind arith; state = λ e. h.state (at_se a b c d i j g f ∙ e) })

  pub from_quarter : (i j : ℕ) → InQuarter a b c d (2 ^ depth a) i j → IsNonzeroAt (quad a b c d) i j
  from_quarter i j (in_nw h) =
      let w = s.whole in let li = h.column in let lj = h.row in
      record { column = omega arith; row = omega arith; state = λ e. h.state (sym (state_nw a b c d full i j li lj) ∙ e) }
  from_quarter i j (in_ne m p h) =
      let w = s.whole in let side = s.ne in let li = h.column in let lj = h.row in
      record { column = omega arith; row = omega arith; state = λ e. h.state (sym (state_ne a b c d full i m j p lj) ∙ e) }
  from_quarter i j (in_sw n q h) =
      let w = s.whole in let side = s.sw in let li = h.column in let lj = h.row in
      record { column = omega arith; row = omega arith; state = λ e. h.state (sym (state_sw a b c d full i j n q li) ∙ e) }
  from_quarter i j (in_se m n p q h) =
      let w = s.whole in let side = s.se in let li = h.column in let lj = h.row in
      record { column = omega arith; row = omega arith; state = λ e. h.state (sym (state_se a b c d full i m j n p q) ∙ e) }

abbrev HasNone : Tree → Type 0
HasNone t = (i j : ℕ) → IsNonzeroAt t i j → ⊥

quarters_have_none : (a b c d : Tree) → IsFull (quad a b c d) → HasNone a → HasNone b → HasNone c → HasNone d → HasNone (quad a b c d)
quarters_have_none a b c d full na nb nc nd i j n = by (quarter_of a b c d full i j n)
  where
    by : InQuarter a b c d (2 ^ depth a) i j → ⊥
    by (in_nw k) = na i j k
    by (in_ne p e k) = nb p j k
    by (in_sw q e k) = nc i q k
    by (in_se p q e f k) = nd p q k

-- a blank square has no nonzero cell
pub blank_has_none : (t : Tree) → IsFull t → is_blank_tree t ≡ true → (i j : ℕ) → IsNonzeroAt t i j → ⊥
blank_has_none (point s) full h = λ i j n. n.state (grind (arith, h))
blank_has_none (quad a b c d) full h =
    let l = left_of_and _ (is_blank_tree d) h in
    let m = left_of_and _ (is_blank_tree c) l in
    quarters_have_none a b c d full (blank_has_none a full.0 (left_of_and _ (is_blank_tree b) m)) (blank_has_none b full.1 (right_of_and (is_blank_tree a) _ m))
    (blank_has_none c full.2 (right_of_and (is_blank_tree a && is_blank_tree b) _ l))
    (blank_has_none d full.3 (right_of_and (is_blank_tree a && is_blank_tree b && is_blank_tree c) _ h))

abbrev HasOne : Tree → Type 0
HasOne t = (i : ℕ) × (j : ℕ) × IsNonzeroAt t i j

quarters_have_one : (a b c d : Tree) → IsFull (quad a b c d) → is_blank_tree (quad a b c d) ≡ false
    → (is_blank_tree a ≡ false → HasOne a) → (is_blank_tree b ≡ false → HasOne b) → (is_blank_tree c ≡ false → HasOne c) → (is_blank_tree d ≡ false → HasOne d)
    → HasOne (quad a b c d)
quarters_have_one a b c d full h ha hb hc hd = by (is_blank_tree a) refl (is_blank_tree b) refl (is_blank_tree c) refl
  where
    whole : (i j : ℕ) → InQuarter a b c d (2 ^ depth a) i j → HasOne (quad a b c d)
    whole i j q = (i, j, from_quarter a b c d full i j q)

    by : (p : Bool) → is_blank_tree a ≡ p → (q : Bool) → is_blank_tree b ≡ q → (r : Bool) → is_blank_tree c ≡ r → HasOne (quad a b c d)
    by false e q f r g = let n = ha e in whole n.0 n.1 (in_nw n.2)
    by true e false f r g = let n = hb f in whole (2 ^ depth a + n.0) n.1 (in_ne n.0 refl n.2)
    by true e true f false g = let n = hc g in whole n.0 (2 ^ depth a + n.1) (in_sw n.1 refl n.2)
    by true e true f true g =
        let rest : is_blank_tree d ≡ false = sym (λ i. e i && f i && g i && is_blank_tree d) ∙ h in
        let n = hd rest in
        whole (2 ^ depth a + n.0) (2 ^ depth a + n.1) (in_se n.0 n.1 refl refl n.2)

-- each other square has one
pub others_have_one : (t : Tree) → IsFull t → is_blank_tree t ≡ false → (i : ℕ) × (j : ℕ) × IsNonzeroAt t i j
others_have_one (point s) full h = (0, 0, record { column = omega arith; row = omega arith; state = λ e. true≢false (sym (ap (λ n. n == 0) e) ∙ h) })
others_have_one (quad a b c d) full h =
    quarters_have_one a b c d full h (others_have_one a full.0) (others_have_one b full.1) (others_have_one c full.2) (others_have_one d full.3)
