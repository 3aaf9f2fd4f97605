-- Pieces of a plane of cells: moved, joined, side by side, and blank.
use Rattle.std.proofs.Common.{◌≡◌, ℕ, zero, suc, ◌+◌, ◌^◌, ℤ, ◌≤ℤ◌, ◌<ℤ◌, List, refl, sym, ◌∙◌, ap, subst, arith, add-one}
use Rattle.std.proofs.lemmas.Int.{ints, by_lt_z}
use Rattle.life_base.specs.Tree.{Tree, quad, depth, blank}
use Rattle.life_base.proofs.Squares.{depth-blank}
use Rattle.life_quad.specs.Keeping.{KeepsSquares}
use Rattle.life_quad.specs.declared.id.Id.{Id}
use Rattle.life_pieces.specs.declared.grid.Three.{Three}
use Rattle.life_pieces.specs.declared.grid.Four.{Four}
use Rattle.life_pieces.specs.Pieces.{Nine, Sixteen, IsPiece, IsOfLevel, InFour, InSixteen, AreThreeAt, AreFourAt, AreNine, AreFour, AreSixteen, step_back, step_ahead, first_three, last_three, western, eastern}

pub twice : (n : ℕ) → 2 ^ (n + 1) ≡ 2 ^ n + 2 ^ n
twice n = ap (λ m. 2 ^ m) (add-one n) ∙ double n
  where
    double : (m : ℕ) → 2 ^ suc m ≡ 2 ^ m + 2 ^ m
    double m = grind arith

pub IsPiece-moved : (cells : ℤ → ℤ → ℕ) (x z y w : ℤ) (t : Tree) → x ≡ z → y ≡ w → IsPiece cells x y t → IsPiece cells z w t
IsPiece-moved cells x z y w t e f h = subst (λ u. IsPiece cells u w t) e (subst (λ u. IsPiece cells x u t) f h)

-- four pieces are one
pub IsPiece-joined : (cells : ℤ → ℤ → ℕ) (x y : ℤ) (a b c d t : Tree) (k : ℕ) → depth a ≡ k → t ≡ quad a b c d
    → IsPiece cells x y a → IsPiece cells (step_ahead x (2 ^ k)) y b → IsPiece cells x (step_ahead y (2 ^ k)) c
    → IsPiece cells (step_ahead x (2 ^ k)) (step_ahead y (2 ^ k)) d
    → IsPiece cells x y t
IsPiece-joined cells x y a b c d t k level is pa pb pc pd =
    let side : 2 ^ k ≡ 2 ^ depth a = ap (λ n. 2 ^ n) (sym level) in
    let ex : step_ahead x (2 ^ k) ≡ step_ahead x (2 ^ depth a) = ap (step_ahead x) side in
    let ey : step_ahead y (2 ^ k) ≡ step_ahead y (2 ^ depth a) = ap (step_ahead y) side in
    subst (IsPiece cells x y) (sym is) (
      pa,
      IsPiece-moved cells _ _ y y b ex refl pb,
      IsPiece-moved cells x x _ _ c refl ey pc,
      IsPiece-moved cells _ _ _ _ d ex ey pd,
    )

-- and one is four
pub pieces-of : (cells : ℤ → ℤ → ℕ) (x y : ℤ) (k : ℕ) {t a b c d : Tree} → depth a ≡ k → t ≡ quad a b c d → IsPiece cells x y t
    → IsPiece cells x y a × IsPiece cells (step_ahead x (2 ^ k)) y b × IsPiece cells x (step_ahead y (2 ^ k)) c
    × IsPiece cells (step_ahead x (2 ^ k)) (step_ahead y (2 ^ k)) d
pieces-of cells x y k {a = a} {b = b} {c = c} {d = d} level is h =
    let p = subst (IsPiece cells x y) is h in
    let side : 2 ^ depth a ≡ 2 ^ k = ap (λ n. 2 ^ n) level in
    let ex : step_ahead x (2 ^ depth a) ≡ step_ahead x (2 ^ k) = ap (step_ahead x) side in
    let ey : step_ahead y (2 ^ depth a) ≡ step_ahead y (2 ^ k) = ap (step_ahead y) side in
    (p.0, IsPiece-moved cells _ _ y y b ex refl p.1, IsPiece-moved cells x x _ _ c refl ey p.2, IsPiece-moved cells _ _ _ _ d ex ey p.3)

-- ---- squares side by side

back-ahead : (side : ℕ) (y : ℤ) → y ≡ step_back (step_ahead y side) side
back-ahead side y = omega (arith, ints)

-- three of four
module _ {T : Type 0} {P : ℤ → T → Type 0} {side : ℕ} {place : ℤ} {four : Four T} where
  pub first-of_four : {three : Three T} → three ≡ first_three four → AreFourAt P side place four → AreThreeAt P side place three
  first-of_four e h = subst (AreThreeAt P side place) (sym e) (record { before = h.first; here = h.second; after = h.third })

  pub last-of_four : {three : Three T} → three ≡ last_three four → AreFourAt P side place four → AreThreeAt P side (step_ahead place side) three
  last-of_four e h =
      subst (AreThreeAt P side (step_ahead place side)) (sym e)
      (record { before = subst (λ u. P u four.second) (back-ahead side place) h.second; here = h.third; after = h.fourth })

-- the three western values of each of three rows, and the three eastern ones
module _ {T : Type 0} (P : ℤ → ℤ → T → Type 0) {side : ℕ} {x y : ℤ} {rows : Three (Four T)} {n : Three (Three T)} where
  pub western-rows : n ≡ western rows → AreThreeAt (λ row. AreFourAt (P row) side x) side y rows → AreThreeAt (λ row. AreThreeAt (P row) side x) side y n
  western-rows e h =
      subst (AreThreeAt (λ row. AreThreeAt (P row) side x) side y) (sym e)
      (record { before = first-of_four refl h.before; here = first-of_four refl h.here; after = first-of_four refl h.after })

  pub eastern-rows : n ≡ eastern rows → AreThreeAt (λ row. AreFourAt (P row) side x) side y rows
      → AreThreeAt (λ row. AreThreeAt (P row) side (step_ahead x side)) side y n
  eastern-rows e h =
      subst (AreThreeAt (λ row. AreThreeAt (P row) side (step_ahead x side)) side y) (sym e)
      (record { before = last-of_four refl h.before; here = last-of_four refl h.here; after = last-of_four refl h.after })

module _ (content : Id → Tree) (cells : ℤ → ℤ → ℕ) {side : ℕ} where
  pub AreFour-moved : {x y w : ℤ} {four : Four Id} → y ≡ w → AreFour content cells side x y four → AreFour content cells side x w four
  AreFour-moved {x = x} {four = four} e = subst (λ u. AreFour content cells side x u four) e

  -- the three western squares of each of three rows, and the three eastern ones
  pub western-nine : {x y : ℤ} {rows : Three (Four Id)} {n : Nine} → n ≡ western rows → AreThreeAt (AreFour content cells side x) side y rows
      → AreNine content cells side x y n
  western-nine = western-rows (λ row column id. IsPiece cells column row (content id))

  pub eastern-nine : {x y : ℤ} {rows : Three (Four Id)} {n : Nine} → n ≡ eastern rows → AreThreeAt (AreFour content cells side x) side y rows
      → AreNine content cells side (step_ahead x side) y n
  eastern-nine = eastern-rows (λ row column id. IsPiece cells column row (content id))

-- what follows for each of four values follows for the four
four-kept : {T : Type 0} {K : T → Type 0} {P Q : ℤ → T → Type 0} {side : ℕ} {place : ℤ} {four : Four T}
    → ((at : ℤ) (value : T) → K value → P at value → Q at value) → InFour K four → AreFourAt P side place four → AreFourAt Q side place four
four-kept keep known h =
    record {
      first = keep _ _ known.first h.first;
      second = keep _ _ known.second h.second;
      third = keep _ _ known.third h.third;
      fourth = keep _ _ known.fourth h.fourth;
    }

-- what is known stays
module _ {S : Type 0} {knows : S → Id → Type 0} {content : S → Id → Tree} {stored : S → List Tree} {most : S → ℕ} {old new : S}
    (keeps : KeepsSquares knows content stored most old new) where
  pub IsAt-kept : {k : ℕ} {q : Id} → IsOfLevel (knows old) (content old) k q → IsOfLevel (knows new) (content new) k q
  IsAt-kept at = let e = keeps.contents _ at.known in record { known = e.0; level = ap depth e.1 ∙ at.level }

  pub IsPiece-kept : {k : ℕ} {q : Id} (cells : ℤ → ℤ → ℕ) (x y : ℤ) → IsOfLevel (knows old) (content old) k q → IsPiece cells x y (content old q)
      → IsPiece cells x y (content new q)
  IsPiece-kept cells x y at h = subst (IsPiece cells x y) (sym (keeps.contents _ at.known).1) h

  pub AreSixteen-kept : (cells : ℤ → ℤ → ℕ) {k side : ℕ} {x y : ℤ} {s : Sixteen} → InSixteen (IsOfLevel (knows old) (content old) k) s
      → AreSixteen (content old) cells side x y s → AreSixteen (content new) cells side x y s
  AreSixteen-kept cells = four-kept (λ row four. four-kept (λ column id. IsPiece-kept cells column row))

-- ---- blank squares

-- the cells from the column `west` to the one before `east`, and so for rows, have state 0
pub record IsZero (cells : ℤ → ℤ → ℕ) (west north east south : ℤ) : Type 0 where
  pub zero_at : (x y : ℤ) → west ≤ℤ x → x <ℤ east → north ≤ℤ y → y <ℤ south → cells x y ≡ 0

pub IsZero-adjacent : (cells : ℤ → ℤ → ℕ) (west middle north east south : ℤ) → IsZero cells west north middle south → IsZero cells middle north east south
    → IsZero cells west north east south
IsZero-adjacent cells west middle north east south p q =
    record { zero_at = λ x y w e n s. by_lt_z x middle (λ l. p.zero_at x y w l n s) (λ l. q.zero_at x y l e n s) }

pub IsZero-below : (cells : ℤ → ℤ → ℕ) (west north middle east south : ℤ) → IsZero cells west north east middle → IsZero cells west middle east south
    → IsZero cells west north east south
IsZero-below cells west north middle east south p q =
    record { zero_at = λ x y w e n s. by_lt_z y middle (λ l. p.zero_at x y w e n l) (λ l. q.zero_at x y w e l s) }

pub zero-of_blank : (cells : ℤ → ℤ → ℕ) (k : ℕ) (x y : ℤ) → IsPiece cells x y (blank k) → IsZero cells x y (step_ahead x (2 ^ k)) (step_ahead y (2 ^ k))
zero-of_blank cells zero x y h =
    record {
      zero_at = λ u v w e n s.
          let eu : u ≡ x = omega (arith, ints, w, e) in
          let ev : v ≡ y = omega (arith, ints, n, s) in
          (λ i. cells (eu i) (ev i)) ∙ sym h;
    }
zero-of_blank cells (suc k) x y h =
    let side : 2 ^ depth (blank k) ≡ 2 ^ k = ap (λ n. 2 ^ n) (depth-blank k) in
    let ex : step_ahead x (2 ^ depth (blank k)) ≡ step_ahead x (2 ^ k) = ap (step_ahead x) side in
    let ey : step_ahead y (2 ^ depth (blank k)) ≡ step_ahead y (2 ^ k) = ap (step_ahead y) side in
    let double : 2 ^ suc k ≡ 2 ^ k + 2 ^ k = grind arith in
    let nw = zero-of_blank cells k x y h.0 in
    let ne = zero-of_blank cells k (step_ahead x (2 ^ k)) y (IsPiece-moved cells _ _ y y (blank k) ex refl h.1) in
    let sw = zero-of_blank cells k x (step_ahead y (2 ^ k)) (IsPiece-moved cells x x _ _ (blank k) refl ey h.2) in
    let se = zero-of_blank cells k (step_ahead x (2 ^ k)) (step_ahead y (2 ^ k)) (IsPiece-moved cells _ _ _ _ (blank k) ex ey h.3) in
    let fx : step_ahead (step_ahead x (2 ^ k)) (2 ^ k) ≡ step_ahead x (2 ^ suc k) = omega (arith, ints, double) in
    let fy : step_ahead (step_ahead y (2 ^ k)) (2 ^ k) ≡ step_ahead y (2 ^ suc k) = omega (arith, ints, double) in
    subst (λ e. IsZero cells x y e (step_ahead y (2 ^ suc k))) fx (subst (λ s. IsZero cells x y (step_ahead (step_ahead x (2 ^ k)) (2 ^ k)) s) fy
    (IsZero-below cells x y (step_ahead y (2 ^ k)) _ _ (IsZero-adjacent cells x (step_ahead x (2 ^ k)) y _ _ nw ne)
    (IsZero-adjacent cells x (step_ahead x (2 ^ k)) (step_ahead y (2 ^ k)) _ _ sw se)))

pub blank-of_zero : (cells : ℤ → ℤ → ℕ) (k : ℕ) (x y : ℤ) → IsZero cells x y (step_ahead x (2 ^ k)) (step_ahead y (2 ^ k)) → IsPiece cells x y (blank k)
blank-of_zero cells zero x y h = sym (h.zero_at x y (omega (arith, ints)) (omega (arith, ints)) (omega (arith, ints)) (omega (arith, ints)))
blank-of_zero cells (suc k) x y h =
    let side : 2 ^ k ≡ 2 ^ depth (blank k) = ap (λ n. 2 ^ n) (sym (depth-blank k)) in
    let ex : step_ahead x (2 ^ k) ≡ step_ahead x (2 ^ depth (blank k)) = ap (step_ahead x) side in
    let ey : step_ahead y (2 ^ k) ≡ step_ahead y (2 ^ depth (blank k)) = ap (step_ahead y) side in
    let double : 2 ^ suc k ≡ 2 ^ k + 2 ^ k = grind arith in
    let part : (u v : ℤ) → x ≤ℤ u → step_ahead u (2 ^ k) ≤ℤ step_ahead x (2 ^ suc k) → y ≤ℤ v → step_ahead v (2 ^ k) ≤ℤ step_ahead y (2 ^ suc k)
    → IsPiece cells u v (blank k) = (λ u v w e n s.
    blank-of_zero cells k u v (record {
      zero_at = λ i j a b c d. h.zero_at i j (omega (arith, ints, w, a)) (omega (arith, ints, e, b)) (omega (arith, ints, n, c)) (omega (arith, ints, s, d));
    })) in (
      part x y (omega (arith, ints)) (omega (arith, ints, double)) (omega (arith, ints)) (omega (arith, ints, double)),
      IsPiece-moved cells _ _ y y (blank k) ex refl
          (part (step_ahead x (2 ^ k)) y (omega (arith, ints)) (omega (arith, ints, double)) (omega (arith, ints)) (omega (arith, ints, double))),
      IsPiece-moved cells x x _ _ (blank k) refl ey
          (part x (step_ahead y (2 ^ k)) (omega (arith, ints)) (omega (arith, ints, double)) (omega (arith, ints)) (omega (arith, ints, double))),
      IsPiece-moved cells _ _ _ _ (blank k) ex ey
          (part (step_ahead x (2 ^ k)) (step_ahead y (2 ^ k)) (omega (arith, ints)) (omega (arith, ints, double)) (omega (arith, ints))
          (omega (arith, ints, double))),
    )
