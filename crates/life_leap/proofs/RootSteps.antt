-- A square amid blank ones: the nine squares around its middle, and that no cell leaves it.
use Rattle.std.proofs.Common.{◌≡◌, ◌≢◌, ◌⊎◌, inl, inr, ℕ, ◌+◌, ◌-◌, ◌^◌, ◌≤◌, false, ℤ, pos, neg_ℤ, ◌≤ℤ◌, ◌<ℤ◌, List, refl, sym, ap, subst, arith}
use Rattle.std.proofs.lemmas.Int.{ints, by_lt_z}
use Rattle.std.proofs.lemmas.Bool.{cases_eq}
use Rattle.life_base.specs.Rules.{has_digit}
use Rattle.life_base.specs.Sets.{OuterTotalistic}
use Rattle.life_base.specs.Tree.{Tree, quad, depth, blank, half_side, tree_cell, IsFull}
use Rattle.life_base.proofs.Squares.{Inside}
use Rattle.life_base.proofs.Basics.{halves}
use Rattle.life_quad.specs.Keeping.{KeepsSquares}
use Rattle.life_quad.specs.declared.id.Id.{Id}
use Rattle.life_pieces.specs.Pieces.{IsPiece, IsOfLevel, step_ahead, step_back}
use Rattle.life_pieces.proofs.PieceLemmas.{twice, IsPiece-kept, IsPiece-joined, IsPiece-moved, blank-of_zero}
use Rattle.life_pieces.proofs.RootLemmas.{alone-root, corner, cells-of_root}
use Rattle.life_leap.specs.declared.grid.Row.{Row}
use Rattle.life_leap.specs.After.{after, IsBlankBeyond}
use Rattle.life_leap.specs.Grid.{InRow, AreFourSquares}
use Rattle.life_leap.specs.Leaps.{HasEnds, HasMargin, IsBlankSquareBeyond}
use Rattle.life_leap.proofs.AfterLemmas.{beyond-later}
use Rattle.life_leap.proofs.GridLemmas.{row-kept}

-- ---- rows with a blank square at each end

pub ends-kept : {S : Type 0} {knows : S → Id → Type 0} {content : S → Id → Tree} {stored : S → List Tree} {most : S → ℕ} {old new : S}
    (keeps : KeepsSquares knows content stored most old new) (cells : ℤ → ℤ → ℕ) (side : ℕ) (x y : ℤ) {k : ℕ} (b : Id) (row : Row Id)
    → IsOfLevel (knows old) (content old) k b → InRow (IsOfLevel (knows old) (content old) k) row → HasEnds (content old) cells side x y b row
    → HasEnds (content new) cells side x y b row
ends-kept keeps cells side x y b row at known h =
    record {
      row_is = row-kept keeps cells x y known h.row_is;
      west = IsPiece-kept keeps cells _ _ at h.west;
      east = IsPiece-kept keeps cells _ _ at h.east;
    }

module _ (content : Id → Tree) (cells : ℤ → ℤ → ℕ) (k : ℕ) (x y : ℤ) (b : Id) (north south : Row Id) (hn : HasEnds content cells (2 ^ k) x y b north)
    (hs : HasEnds content cells (2 ^ k) x (step_ahead y (2 ^ k)) b south) (t : Tree) where
  pub west-of_ends : depth (content b) ≡ k → t ≡ quad (content b) (content north.first) (content b) (content south.first)
      → IsPiece cells (step_back x (2 ^ k)) y t
  west-of_ends level is =
      let s = 2 ^ k in
      let at : x ≡ step_ahead (step_back x s) s = omega (arith, ints) in
      IsPiece-joined cells (step_back x s) y (content b) (content north.first) (content b) (content south.first) t k level is hn.west
      (IsPiece-moved cells x (step_ahead (step_back x s) s) y y (content north.first) at refl hn.row_is.first) hs.west
      (IsPiece-moved cells x (step_ahead (step_back x s) s) (step_ahead y s) (step_ahead y s) (content south.first) at refl hs.row_is.first)

  pub middle-of_ends : depth (content north.second) ≡ k
      → t ≡ quad (content north.second) (content north.third) (content south.second) (content south.third)
      → IsPiece cells (step_ahead (step_back x (2 ^ k)) (2 ^ (k + 1))) y t
  middle-of_ends level is =
      let s = 2 ^ k in
      let w = twice k in
      let at : step_ahead x s ≡ step_ahead (step_back x s) (2 ^ (k + 1)) = omega (arith, ints, w) in
      IsPiece-moved cells (step_ahead x s) (step_ahead (step_back x s) (2 ^ (k + 1))) y y t at refl
      (IsPiece-joined cells (step_ahead x s) y _ _ _ _ t k level is hn.row_is.second hn.row_is.third hs.row_is.second hs.row_is.third)

  pub east-of_ends : depth (content north.fourth) ≡ k → t ≡ quad (content north.fourth) (content b) (content south.fourth) (content b)
      → IsPiece cells (step_ahead (step_ahead (step_back x (2 ^ k)) (2 ^ (k + 1))) (2 ^ (k + 1))) y t
  east-of_ends level is =
      let s = 2 ^ k in
      let w = twice k in
      let z = step_ahead (step_ahead (step_ahead x s) s) s in
      let to = step_ahead (step_ahead (step_back x s) (2 ^ (k + 1))) (2 ^ (k + 1)) in
      let at : z ≡ to = omega (arith, ints, w) in
      IsPiece-moved cells z to y y t at refl
      (IsPiece-joined cells z y _ _ _ _ t k level is hn.row_is.fourth hn.east hs.row_is.fourth hs.east)

-- ---- blank squares around a square

module _ (content : Id → Tree) (cells : ℤ → ℤ → ℕ) (k : ℕ) (start : ℤ) (beyond : IsBlankSquareBeyond cells start (2 ^ (k + 2))) (b : Id)
    (is : content b ≡ blank k) where
  nothing-at : (x y : ℤ) → ((u v : ℤ) → x ≤ℤ u → u <ℤ step_ahead x (2 ^ k) → y ≤ℤ v → v <ℤ step_ahead y (2 ^ k) → cells u v ≡ 0)
      → IsPiece cells x y (content b)
  nothing-at x y zero = subst (IsPiece cells x y) (sym is) (blank-of_zero cells k x y (record { zero_at = λ u v a c d e. zero u v a c d e }))

  four-times : 2 ^ (k + 2) ≡ 2 ^ k + 2 ^ k + (2 ^ k + 2 ^ k)
  four-times =
      let a = twice k in
      let c = twice (k + 1) in
      let e : k + 1 + 1 ≡ k + 2 = omega arith in
      let f : 2 ^ (k + 1 + 1) ≡ 2 ^ (k + 2) = ap (λ n. 2 ^ n) e in
      omega (arith, a, c, f)

  pub ends-of_row : (y : ℤ) (row : Row Id) → AreFourSquares content cells (2 ^ k) start y row → HasEnds content cells (2 ^ k) start y b row
  ends-of_row y row h =
      let w = four-times in
      record {
        row_is = h;
        west = nothing-at _ y (λ u v a c d e. beyond.west_of u v (omega (arith, ints, c)));
        east = nothing-at _ y (λ u v a c d e. beyond.east_of u v (omega (arith, ints, a, w)));
      }

  pub ends-of_north : (y : ℤ) → step_ahead y (2 ^ k) ≤ℤ start
      → HasEnds content cells (2 ^ k) start y b (record { first = b; second = b; third = b; fourth = b })
  ends-of_north y l =
      let at : (x : ℤ) → IsPiece cells x y (content b) = λ x. nothing-at x y (λ u v a c d e. beyond.north_of u v (omega (arith, ints, l, e))) in
      record { row_is = record { first = at _; second = at _; third = at _; fourth = at _ }; west = at _; east = at _ }

  pub ends-of_south : (y : ℤ) → step_ahead start (2 ^ (k + 2)) ≤ℤ y
      → HasEnds content cells (2 ^ k) start y b (record { first = b; second = b; third = b; fourth = b })
  ends-of_south y l =
      let at : (x : ℤ) → IsPiece cells x y (content b) = λ x. nothing-at x y (λ u v a c d e. beyond.south_of u v (omega (arith, ints, l, d))) in
      record { row_is = record { first = at _; second = at _; third = at _; fourth = at _ }; west = at _; east = at _ }

pub ends-moved : (content : Id → Tree) (cells : ℤ → ℤ → ℕ) (side : ℕ) (x y z : ℤ) (b : Id) (row : Row Id) → y ≡ z → HasEnds content cells side x y b row
    → HasEnds content cells side x z b row
ends-moved content cells side x y z b row e h = subst (λ v. HasEnds content cells side x v b row) e h

-- ---- the whole of a plane

-- outside a square every cell is 0
pub beyond-root : (t : Tree) → 1 ≤ depth t → IsBlankSquareBeyond (tree_cell t) (corner t) (2 ^ depth t)
beyond-root t high =
    let alone = alone-root t in
    let w = halves (depth t) high in
    record {
      west_of = alone.west;
      north_of = alone.north;
      east_of = λ x y l. alone.east x y (omega (arith, ints, w, l));
      south_of = λ x y l. alone.south x y (omega (arith, ints, w, l));
    }

-- none of a square's cells is so near to its sides
margin-beyond : (n : ℕ) (t : Tree) → HasMargin n t
    → IsBlankBeyond (tree_cell t) (step_ahead (corner t) n) (step_ahead (corner t) n) (step_back (pos (half_side t)) n) (step_back (pos (half_side t)) n)
margin-beyond n t margin =
    record {
      west_of = λ x y l. by x y (λ h. let a = h.0 in omega (arith, ints, l, a)) (cases_eq (tree_cell t x y) 0);
      north_of = λ x y l. by x y (λ h. let a = h.2 in omega (arith, ints, l, a)) (cases_eq (tree_cell t x y) 0);
      east_of = λ x y l. by x y (λ h. let a = h.1 in omega (arith, ints, l, a)) (cases_eq (tree_cell t x y) 0);
      south_of = λ x y l. by x y (λ h. let a = h.3 in omega (arith, ints, l, a)) (cases_eq (tree_cell t x y) 0);
    }
  where
    by : (x y : ℤ)
        → ((neg_ℤ (pos (half_side t)) ≤ℤ step_back x n) × (step_ahead x n <ℤ pos (half_side t)) × (neg_ℤ (pos (half_side t)) ≤ℤ step_back y n)
        × (step_ahead y n <ℤ pos (half_side t)) → ⊥)
        → (tree_cell t x y ≡ 0) ⊎ (tree_cell t x y ≢ 0) → tree_cell t x y ≡ 0
    by x y far (inl e) = e
    by x y far (inr d) = absurd (far (margin x y d))

-- so none leaves it
pub root-later : (rule : OuterTotalistic) (n : ℕ) (t r : Tree) → has_digit rule.sets.births 0 ≡ false → 1 ≤ depth t → IsFull r → depth r ≡ depth t
    → HasMargin n t → IsPiece (after rule n (tree_cell t)) (corner t) (corner t) r → (x y : ℤ) → tree_cell r x y ≡ after rule n (tree_cell t) x y
root-later rule n t r quiet high full level margin piece =
    cells-of_root (after rule n (tree_cell t)) r (corner t) full (omega (arith, high, level)) (ap (λ h. neg_ℤ (pos h)) same) piece outside
  where
    same : half_side t ≡ half_side r
    same = ap (λ k. 2 ^ (k - 1)) (sym level)

    later : IsBlankBeyond (after rule n (tree_cell t)) (step_back (step_ahead (corner t) n) n) (step_back (step_ahead (corner t) n) n)
        (step_ahead (step_back (pos (half_side t)) n) n) (step_ahead (step_back (pos (half_side t)) n) n)
    later = beyond-later rule n (tree_cell t) _ _ _ _ quiet (margin-beyond n t margin)

    outside : (x y : ℤ) → (Inside (half_side r) x y → ⊥) → after rule n (tree_cell t) x y ≡ 0
    outside x y apart =
        let e = same in
        by_lt_z x (corner t) (λ l. later.west_of x y (omega (arith, ints, l)))
        (λ w. by_lt_z y (corner t) (λ l. later.north_of x y (omega (arith, ints, l)))
        (λ n. by_lt_z x (pos (half_side t))
        (λ a. by_lt_z y (pos (half_side t))
        (λ s. absurd (apart (subst (λ h. Inside h x y) e (record { west = w; east = a; north = n; south = s }))))
        (λ l. later.south_of x y (omega (arith, ints, l))))
        (λ l. later.east_of x y (omega (arith, ints, l)))))
