-- A square about the middle of the plane, and its pieces.
use Rattle.std.proofs.Common.{◌≡◌, inl, inr, ℕ, ◌+◌, ◌-◌, ◌^◌, ◌<◌, ◌≤◌, Bool, true, false, true≢false, ℤ, pos, neg_ℤ, ◌+ℤ◌, ◌≤ℤ◌, ◌<ℤ◌, refl, sym, ◌∙◌, ap, arith}
use Rattle.std.proofs.lemmas.Int.{ints}
use Rattle.std.proofs.lemmas.Bool.{cases_lt}
use Rattle.life_base.specs.Tree.{Tree, point, quad, depth, state_at, half_side, tree_cell, IsFull}
use Rattle.life_base.proofs.Squares.{Inside, is_inside, inside_facts, inside_test, inside_offset, cell_inside, cell_outside, state_nw, state_ne, state_sw, state_se}
use Rattle.life_base.proofs.Basics.{double, halves}
use Rattle.life_pieces.specs.Pieces.{IsPiece, step_ahead}
use Rattle.life_pieces.proofs.PieceLemmas.{IsPiece-moved}

-- ---- a square is a piece exactly if its cells have the states of the plane

pub piece-of_cells : (cells : ℤ → ℤ → ℕ) (t : Tree) (x y : ℤ) → IsFull t
    → ((i j : ℕ) → i < 2 ^ depth t → j < 2 ^ depth t → state_at t i j ≡ cells (x +ℤ pos i) (y +ℤ pos j)) → IsPiece cells x y t
piece-of_cells cells (point s) x y full h =
    let ex : x +ℤ pos 0 ≡ x = omega (arith, ints) in
    let ey : y +ℤ pos 0 ≡ y = omega (arith, ints) in
    h 0 0 (omega arith) (omega arith) ∙ (λ z. cells (ex z) (ey z))
piece-of_cells cells (quad a b c d) x y full h =
    let d2 = double (depth a) in
    let sb : 2 ^ depth b ≡ 2 ^ depth a = ap (λ k. 2 ^ k) full.4 in
    let sc : 2 ^ depth c ≡ 2 ^ depth a = ap (λ k. 2 ^ k) full.5 in
    let sd : 2 ^ depth d ≡ 2 ^ depth a = ap (λ k. 2 ^ k) full.6 in
    let further : (z : ℤ) (i : ℕ) → z +ℤ pos (2 ^ depth a + i) ≡ step_ahead z (2 ^ depth a) +ℤ pos i = (λ z i. omega (arith, ints)) in (
      piece-of_cells cells a x y full.0 (λ i j li lj. sym (state_nw a b c d full i j li lj) ∙ h i j (omega (arith, li, d2)) (omega (arith, lj, d2))),
      piece-of_cells cells b (step_ahead x (2 ^ depth a)) y full.1
          (λ i j li lj. sym (state_ne a b c d full (2 ^ depth a + i) i j refl lj)
          ∙ h (2 ^ depth a + i) j (omega (arith, li, d2, sb)) (omega (arith, lj, d2, sb)) ∙ ap (λ u. cells u (y +ℤ pos j)) (further x i)),
      piece-of_cells cells c x (step_ahead y (2 ^ depth a)) full.2
          (λ i j li lj. sym (state_sw a b c d full i (2 ^ depth a + j) j refl li)
          ∙ h i (2 ^ depth a + j) (omega (arith, li, d2, sc)) (omega (arith, lj, d2, sc)) ∙ ap (cells (x +ℤ pos i)) (further y j)),
      piece-of_cells cells d (step_ahead x (2 ^ depth a)) (step_ahead y (2 ^ depth a)) full.3
          (λ i j li lj. sym (state_se a b c d full (2 ^ depth a + i) i (2 ^ depth a + j) j refl refl)
          ∙ h (2 ^ depth a + i) (2 ^ depth a + j) (omega (arith, li, d2, sd)) (omega (arith, lj, d2, sd))
          ∙ (let ex = further x i in let ey = further y j in (λ z. cells (ex z) (ey z)))),
    )

pub cells-of_piece : (cells : ℤ → ℤ → ℕ) (t : Tree) (x y : ℤ) → IsFull t → IsPiece cells x y t → (i j : ℕ) → i < 2 ^ depth t → j < 2 ^ depth t
    → state_at t i j ≡ cells (x +ℤ pos i) (y +ℤ pos j)
cells-of_piece cells (point s) x y full h i j li lj =
    let ex : x ≡ x +ℤ pos i = omega (arith, ints, li) in
    let ey : y ≡ y +ℤ pos j = omega (arith, ints, lj) in
    h ∙ (λ z. cells (ex z) (ey z))
cells-of_piece cells (quad a b c d) x y full h i j li lj =
    let m = i - 2 ^ depth a in
    let n = j - 2 ^ depth a in
    let d2 = double (depth a) in
    let sb : 2 ^ depth b ≡ 2 ^ depth a = ap (λ k. 2 ^ k) full.4 in
    let sc : 2 ^ depth c ≡ 2 ^ depth a = ap (λ k. 2 ^ k) full.5 in
    let sd : 2 ^ depth d ≡ 2 ^ depth a = ap (λ k. 2 ^ k) full.6 in
    elim (cases_lt j (2 ^ depth a)) [
      | inl below ↦ elim (cases_lt i (2 ^ depth a)) [
        | inl west ↦ state_nw a b c d full i j west below ∙ cells-of_piece cells a x y full.0 h.0 i j west below
        | inr east ↦ (let back-x : step_ahead x (2 ^ depth a) +ℤ pos (i - 2 ^ depth a) ≡ x +ℤ pos i = omega (arith, ints, east) in
            state_ne a b c d full i m j (omega (arith, east)) (omega (arith, below, sb))
            ∙ cells-of_piece cells b (step_ahead x (2 ^ depth a)) y full.1 h.1 m j (omega (arith, li, d2, sb, east)) (omega (arith, below, sb))
            ∙ ap (λ u. cells u (y +ℤ pos j)) back-x)
      ]
      | inr above ↦ (let back-y : step_ahead y (2 ^ depth a) +ℤ pos (j - 2 ^ depth a) ≡ y +ℤ pos j = omega (arith, ints, above) in
          elim (cases_lt i (2 ^ depth a)) [
            | inl west ↦ state_sw a b c d full i j n (omega (arith, above)) (omega (arith, west, sc))
                ∙ cells-of_piece cells c x (step_ahead y (2 ^ depth a)) full.2 h.2 i n (omega (arith, west, sc)) (omega (arith, lj, d2, sc, above))
                ∙ ap (cells (x +ℤ pos i)) back-y
            | inr east ↦ (let back-x : step_ahead x (2 ^ depth a) +ℤ pos (i - 2 ^ depth a) ≡ x +ℤ pos i = omega (arith, ints, east) in
                state_se a b c d full i m j n (omega (arith, east)) (omega (arith, above))
                ∙ cells-of_piece cells d (step_ahead x (2 ^ depth a)) (step_ahead y (2 ^ depth a)) full.3 h.3 m n (omega (arith, li, d2, sd, east))
                (omega (arith, lj, d2, sd, above))
                ∙ (λ z. cells (back-x z) (back-y z)))
          ])
    ]

-- the north-western corner of a square about the middle
abbrev pub corner : Tree → ℤ
corner t = neg_ℤ (pos (half_side t))

pub piece-of_root : (t : Tree) → IsFull t → 1 ≤ depth t → IsPiece (tree_cell t) (corner t) (corner t) t
piece-of_root t full high =
    piece-of_cells (tree_cell t) t (corner t) (corner t) full
    (λ i j li lj.
    let twice = halves (depth t) high in
    let x = corner t +ℤ pos i in
    let y = corner t +ℤ pos j in
    let inside : Inside (half_side t) x y = record {
      west = omega (arith, ints);
      east = omega (arith, ints, twice, li);
      north = omega (arith, ints);
      south = omega (arith, ints, twice, lj);
    } in
    sym (cell_inside t x y i j (inside_test (half_side t) x y inside) (omega (arith, ints)) (omega (arith, ints))))

-- a cell outside a square
pub cell-outside : (t : Tree) (x y : ℤ) → (Inside (half_side t) x y → ⊥) → tree_cell t x y ≡ 0
cell-outside t x y apart = by (is_inside (half_side t) x y) refl
  where
    by : (b : Bool) → is_inside (half_side t) x y ≡ b → tree_cell t x y ≡ 0
    by true e = absurd (apart (inside_facts (half_side t) x y e))
    by false e = cell_outside t x y e

-- the whole of a plane is in a square that is a piece of it, where all is 0 outside
pub cells-of_root : (cells : ℤ → ℤ → ℕ) (r : Tree) (start : ℤ) → IsFull r → 1 ≤ depth r → start ≡ corner r → IsPiece cells start start r
    → ((x y : ℤ) → (Inside (half_side r) x y → ⊥) → cells x y ≡ 0) → (x y : ℤ) → tree_cell r x y ≡ cells x y
cells-of_root cells r start full high from piece outside x y = by (is_inside (half_side r) x y) refl
  where
    whole : half_side r + half_side r ≡ 2 ^ depth r
    whole = halves (depth r) high

    by : (b : Bool) → is_inside (half_side r) x y ≡ b → tree_cell r x y ≡ cells x y
    by true e =
        let k = inside_facts (half_side r) x y e in
        let a = inside_offset (half_side r) x k.west k.east in
        let b = inside_offset (half_side r) y k.north k.south in
        let at-x = a.1 in
        let at-y = b.1 in
        let ex : corner r +ℤ pos a.0 ≡ x = omega (arith, ints, at-x) in
        let ey : corner r +ℤ pos b.0 ≡ y = omega (arith, ints, at-y) in
        cell_inside r x y a.0 b.0 e a.1 b.1 ∙ cells-of_piece cells r (corner r) (corner r) full
        (IsPiece-moved cells _ _ _ _ r from from piece) a.0 b.0 (omega (arith, whole, a.2)) (omega (arith, whole, b.2))
        ∙ (λ z. cells (ex z) (ey z))
    by false e = cell_outside r x y e ∙ sym (outside x y (λ i. true≢false (sym (inside_test (half_side r) x y i) ∙ e)))

-- no cell before the square's first column or row, or after its last
pub record IsAlone (cells : ℤ → ℤ → ℕ) (start : ℤ) (half : ℕ) : Type 0 where
  pub west : (x y : ℤ) → x <ℤ start → cells x y ≡ 0
  pub north : (x y : ℤ) → y <ℤ start → cells x y ≡ 0
  pub east : (x y : ℤ) → step_ahead (step_ahead start half) half ≤ℤ x → cells x y ≡ 0
  pub south : (x y : ℤ) → step_ahead (step_ahead start half) half ≤ℤ y → cells x y ≡ 0

pub alone-root : (t : Tree) → IsAlone (tree_cell t) (corner t) (half_side t)
alone-root t =
    record {
      west = λ x y l. cell-outside t x y (λ i. omega (arith, ints, i.west, l));
      north = λ x y l. cell-outside t x y (λ i. omega (arith, ints, i.north, l));
      east = λ x y l. cell-outside t x y (λ i. omega (arith, ints, i.east, l));
      south = λ x y l. cell-outside t x y (λ i. omega (arith, ints, i.south, l));
    }
