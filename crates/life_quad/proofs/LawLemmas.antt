-- Growing and trimming keep the cells.
use Rattle.std.proofs.Common.{◌≡◌, ◌≢◌, ℕ, zero, suc, ◌+◌, ◌-◌, ◌^◌, ◌≤◌, ◌<◌, Bool, true, false, ◌&&◌, nat_lt, nat_le, ◌⊎◌, inl, inr, ℤ, pos, neg_ℤ, ◌+ℤ◌, ◌-ℤ◌, ◌<ℤ◌, ◌≤ℤ◌, List, [], ◌∷◌, ◌++◌, refl, sym, ◌∙◌, ap, subst, arith, if◌then◌else◌}
use Rattle.std.specs.List.{list_all}
use Rattle.std.proofs.lemmas.Int.{ints}
use Rattle.std.proofs.lemmas.Bool.{cases_eq}
use Rattle.life_base.specs.declared.cell.Cell.{Cell}
use Rattle.life_base.specs.Tree.{Tree, point, quad, depth, state_at, is_blank_tree, IsFull, tree_cell as cell, half_side}
use Rattle.life_quad.specs.Moves.{outer, inner, can_trim, trimmed_square, trim_up_to, grown_square}
use Rattle.life_quad.specs.Laws.{BlankByCells, EqualByCells, EqualByPlane, CellsLieInside, GrowingKeepsCells, TrimmingKeepsCells, TrimmingIgnoresGrowth, TrimmedIsFixed, TrimmingStops, TrimmedByCells, TrimmedIsLowest, CellsAreListed, ListIsPopulation, KnownSquaresAreFull, EqualSquaresHaveOneId}
use Rattle.life_quad.specs.Bands.{Piece, piece_unless_blank}
use Rattle.life_quad.specs.StoreLaws.{full_content, low_content, same_id}
use Rattle.life_base.proofs.Squares.{depth-blank, full-blank, is_blank-blank, is_inside, inside_facts, cell_outside, state_nw, state_ne, state_sw, state_se}
use Rattle.life_base.proofs.Basics.{right_of_and, left_of_and, double}
use Rattle.life_quad.proofs.MoveLemmas.{depth-inner, trimmed-stays, trimmed-smaller}
use Rattle.life_quad.proofs.PlaneLemmas.{IsPlace, cell_at, back as west_again}
use Rattle.life_quad.proofs.NonzeroLemmas.{blank_has_none, others_have_one}
use Rattle.life_quad.proofs.BandLemmas.{IsCellOf, OnBand, SomeOf-cases, SomeOf-append_left, SomeOf-append_right, kept_has, kept_from, quarters_have, northern_from, southern_from}
use Rattle.life_quad.proofs.CellListLemmas.{on_plane, from_plane, square_cells, IsCellList-square, one_list, list_length}

-- ---- blank squares and equal squares by their cells

pub blank_by_cells : BlankByCells
blank_by_cells t full = (to, from)
  where
    to : is_blank_tree t ≡ true → (i j : ℕ) → i < 2 ^ depth t → j < 2 ^ depth t → state_at t i j ≡ 0
    to h i j li lj = by (cases_eq (state_at t i j) 0)
      where
        by : (state_at t i j ≡ 0) ⊎ (state_at t i j ≢ 0) → state_at t i j ≡ 0
        by (inl e) = e
        by (inr n) = absurd (blank_has_none t full h i j (record { column = li; row = lj; state = n }))

    from : ((i j : ℕ) → i < 2 ^ depth t → j < 2 ^ depth t → state_at t i j ≡ 0) → is_blank_tree t ≡ true
    from f = by (is_blank_tree t) refl
      where
        by : (b : Bool) → is_blank_tree t ≡ b → is_blank_tree t ≡ true
        by true e = e
        by false e = let n = others_have_one t full e in absurd (n.2.state (f n.0 n.1 n.2.column n.2.row))

pub equal_by_cells : EqualByCells
equal_by_cells (point s) (point r) fs ft d same = ap point (same 0 0 (omega arith) (omega arith))
equal_by_cells (point s) (quad a b c e) fs ft d same = absurd (omega arith)
equal_by_cells (quad a b c e) (point s) fs ft d same = absurd (omega arith)
equal_by_cells (quad a b c e) (quad p q r u) fs ft d same =
    let k : depth a ≡ depth p = omega arith in
    let s : 2 ^ depth a ≡ 2 ^ depth p = ap (λ n. 2 ^ n) k in
    let twice = double (depth a) in
    let sb = ap (λ n. 2 ^ n) fs.4 in
    let sc = ap (λ n. 2 ^ n) fs.5 in
    let se = ap (λ n. 2 ^ n) fs.6 in
    let tq = ap (λ n. 2 ^ n) ft.4 in
    let tr = ap (λ n. 2 ^ n) ft.5 in
    let nw = equal_by_cells a p fs.0 ft.0 k
    (λ i j li lj. sym (state_nw a b c e fs i j li lj) ∙ same i j (omega arith) (omega arith) ∙ state_nw p q r u ft i j (omega arith) (omega arith)) in
    let ne = equal_by_cells b q fs.1 ft.1 (fs.4 ∙ k ∙ sym ft.4)
    (λ i j li lj. sym (state_ne a b c e fs (2 ^ depth a + i) i j refl lj) ∙ same (2 ^ depth a + i) j (omega arith) (omega arith)
    ∙ state_ne p q r u ft (2 ^ depth a + i) i j (omega arith) (omega arith)) in
    let sw = equal_by_cells c r fs.2 ft.2 (fs.5 ∙ k ∙ sym ft.5)
    (λ i j li lj. sym (state_sw a b c e fs i (2 ^ depth a + j) j refl li) ∙ same i (2 ^ depth a + j) (omega arith) (omega arith)
    ∙ state_sw p q r u ft i (2 ^ depth a + j) j (omega arith) (omega arith)) in
    let sx = equal_by_cells e u fs.3 ft.3 (fs.6 ∙ k ∙ sym ft.6)
    (λ i j li lj. sym (state_se a b c e fs (2 ^ depth a + i) i (2 ^ depth a + j) j refl refl)
    ∙ same (2 ^ depth a + i) (2 ^ depth a + j) (omega arith) (omega arith) ∙ state_se p q r u ft (2 ^ depth a + i) i (2 ^ depth a + j) j (omega arith)
    (omega arith)) in
    λ i. quad (nw i) (ne i) (sw i) (sx i)

-- a column or row of a square is a whole number of the plane
high_equal : (s t : Tree) → IsFull s → IsFull t → 1 ≤ depth s → depth s ≡ depth t → ((x y : ℤ) → cell s x y ≡ cell t x y) → s ≡ t
high_equal s t fs ft high d same = equal_by_cells s t fs ft d at
  where
    half : half_side s ≡ half_side t
    half = ap (λ k. 2 ^ (k - 1)) d

    place_s : (i j : ℕ) → IsPlace (half_side s) (pos i -ℤ pos (half_side s)) (pos j -ℤ pos (half_side s)) i j
    place_s i j = record { column = west_again i (half_side s); row = west_again j (half_side s) }

    place_t : (i j : ℕ) → IsPlace (half_side t) (pos i -ℤ pos (half_side s)) (pos j -ℤ pos (half_side s)) i j
    place_t i j = subst (λ h. IsPlace h (pos i -ℤ pos (half_side s)) (pos j -ℤ pos (half_side s)) i j) half (place_s i j)

    at : (i j : ℕ) → i < 2 ^ depth s → j < 2 ^ depth s → state_at s i j ≡ state_at t i j
    at i j li lj =
        sym (cell_at s _ _ i j high (place_s i j) li lj) ∙ same _ _
        ∙ cell_at t _ _ i j (subst (λ k. 1 ≤ k) d high) (place_t i j) (subst (λ k. i < 2 ^ k) d li) (subst (λ k. j < 2 ^ k) d lj)

pub equal_by_plane : EqualByPlane
equal_by_plane (point a) (point b) fs ft d same = ap point (same (pos 0) (pos 0))
equal_by_plane (point a) (quad p q r u) fs ft d same = absurd (omega arith)
equal_by_plane (quad a b c e) t fs ft d same = high_equal (quad a b c e) t fs ft (omega arith) d same

pub cells_lie_inside : CellsLieInside
cells_lie_inside t x y nonzero = by (is_inside (half_side t) x y) refl
  where
    by : (b : Bool) → is_inside (half_side t) x y ≡ b → (neg_ℤ (pos (half_side t)) ≤ℤ x) × (x <ℤ pos (half_side t)) × (neg_ℤ (pos (half_side t)) ≤ℤ y)
        × (y <ℤ pos (half_side t))
    by true e = let k = inside_facts (half_side t) x y e in (k.west, k.east, k.north, k.south)
    by false e = absurd (nonzero (cell_outside t x y e))

-- ---- the cells of a square by its quarters, on the plane

abbrev at_place : Tree → ℤ → Piece
at_place t column = record { square = t; column = column }

data OnQuarter (k : ℕ) (top column : ℤ) (a b d e : Tree) (c : Cell) : Type 0 where
  on_nw : IsCellOf top (at_place a column) c → OnQuarter k top column a b d e c
  on_ne : IsCellOf top (at_place b (column +ℤ pos (2 ^ k))) c → OnQuarter k top column a b d e c
  on_sw : IsCellOf (top +ℤ pos (2 ^ k)) (at_place d column) c → OnQuarter k top column a b d e c
  on_se : IsCellOf (top +ℤ pos (2 ^ k)) (at_place e (column +ℤ pos (2 ^ k))) c → OnQuarter k top column a b d e c

module _ (k : ℕ) (top column : ℤ) (a b d e : Tree) (c : Cell) (full : IsFull (quad a b d e)) (level : depth a ≡ k) where
  split : IsCellOf top (at_place (quad a b d e) column) c → OnQuarter k top column a b d e c
  split h = by (quarters_have k top (quad a b d e) column c full (ap suc level) h)
    where
      north : OnBand top (piece_unless_blank a column) c ⊎ OnBand top (piece_unless_blank b (column +ℤ pos (2 ^ k))) c → OnQuarter k top column a b d e c
      north (inl o) = on_nw (kept_from top a column c o)
      north (inr o) = on_ne (kept_from top b (column +ℤ pos (2 ^ k)) c o)

      south : OnBand (top +ℤ pos (2 ^ k)) (piece_unless_blank d column) c ⊎ OnBand (top +ℤ pos (2 ^ k)) (piece_unless_blank e (column +ℤ pos (2 ^ k))) c
          → OnQuarter k top column a b d e c
      south (inl o) = on_sw (kept_from (top +ℤ pos (2 ^ k)) d column c o)
      south (inr o) = on_se (kept_from (top +ℤ pos (2 ^ k)) e (column +ℤ pos (2 ^ k)) c o)

      by : OnBand top (piece_unless_blank a column ++ piece_unless_blank b (column +ℤ pos (2 ^ k))) c
          ⊎ OnBand (top +ℤ pos (2 ^ k)) (piece_unless_blank d column ++ piece_unless_blank e (column +ℤ pos (2 ^ k))) c
          → OnQuarter k top column a b d e c
      by (inl o) = north (SomeOf-cases _ (piece_unless_blank a column) (piece_unless_blank b (column +ℤ pos (2 ^ k))) o)
      by (inr o) = south (SomeOf-cases _ (piece_unless_blank d column) (piece_unless_blank e (column +ℤ pos (2 ^ k))) o)

  unite : OnQuarter k top column a b d e c → IsCellOf top (at_place (quad a b d e) column) c
  unite (on_nw h) = northern_from k top (quad a b d e) column c full (ap suc level)
      (SomeOf-append_left _ (piece_unless_blank a column) _ (kept_has top a column c full.0 h))
  unite (on_ne h) = northern_from k top (quad a b d e) column c full (ap suc level)
      (SomeOf-append_right _ (piece_unless_blank a column) _ (kept_has top b _ c full.1 h))
  unite (on_sw h) = southern_from k top (quad a b d e) column c full (ap suc level)
      (SomeOf-append_left _ (piece_unless_blank d column) _ (kept_has _ d column c full.2 h))
  unite (on_se h) = southern_from k top (quad a b d e) column c full (ap suc level)
      (SomeOf-append_right _ (piece_unless_blank d column) _ (kept_has _ e _ c full.3 h))

no_cell : (top : ℤ) (t : Tree) (column : ℤ) (c : Cell) → IsFull t → is_blank_tree t ≡ true → IsCellOf top (at_place t column) c → ⊥
no_cell top t column c full h n = blank_has_none t full h n.i n.j n.nonzero

first_of_all : (t : Tree) (more : List Tree) → list_all is_blank_tree (t ∷ more) ≡ true → (is_blank_tree t ≡ true) × (list_all is_blank_tree more ≡ true)
first_of_all t more h = (left_of_and _ _ h, right_of_and _ _ h)

-- ---- the inner square, where the outer grandchildren are blank

module _ (a1 a2 a3 nw b1 b2 ne b4 c1 sw c3 c4 se d2 d3 d4 : Tree) where
  abbrev whole : Tree
  whole = quad (quad a1 a2 a3 nw) (quad b1 b2 ne b4) (quad c1 sw c3 c4) (quad se d2 d3 d4)

  module _ (full : IsFull whole) (k : ℕ) (level : depth a1 ≡ k) where
    level_b : depth b1 ≡ k
    level_b = let e = full.4 in omega arith

    level_c : depth c1 ≡ k
    level_c = let e = full.5 in omega arith

    level_d : depth se ≡ k
    level_d = let e = full.6 in omega arith

    level_nw : depth nw ≡ k
    level_nw = full.0.6 ∙ level

    level_ne : depth ne ≡ k
    level_ne = full.1.5 ∙ level_b

    level_sw : depth sw ≡ k
    level_sw = full.2.4 ∙ level_c

    full_inner : IsFull (quad nw ne sw se)
    full_inner = (full.0.3, full.1.2, full.2.1, full.3.0, level_ne ∙ sym level_nw, level_sw ∙ sym level_nw, level_d ∙ sym level_nw)

    module _ (top column : ℤ) (c : Cell) where
      half : (2 ^ suc k ≡ 2 ^ k + 2 ^ k)
      half = double k

      twice : (z : ℤ) → z +ℤ pos (2 ^ suc k) ≡ (z +ℤ pos (2 ^ k)) +ℤ pos (2 ^ k)
      twice z = let e = double k in omega (arith, ints)

      up : IsCellOf (top +ℤ pos (2 ^ k)) (at_place (quad nw ne sw se) (column +ℤ pos (2 ^ k))) c → IsCellOf top (at_place whole column) c
      up h = unite (suc k) top column (quad a1 a2 a3 nw) (quad b1 b2 ne b4) (quad c1 sw c3 c4) (quad se d2 d3 d4) c full (ap suc level)
          (by (split k (top +ℤ pos (2 ^ k)) (column +ℤ pos (2 ^ k)) nw ne sw se c full_inner level_nw h))
        where
          by : OnQuarter k (top +ℤ pos (2 ^ k)) (column +ℤ pos (2 ^ k)) nw ne sw se c → OnQuarter (suc k) top column (quad a1 a2 a3 nw) (quad b1 b2 ne b4)
              (quad c1 sw c3 c4) (quad se d2 d3 d4) c
          by (on_nw q) = on_nw (unite k top column a1 a2 a3 nw c full.0 level (on_se q))
          by (on_ne q) = on_ne (unite k top (column +ℤ pos (2 ^ suc k)) b1 b2 ne b4 c full.1 level_b
              (on_sw (subst (λ z. IsCellOf (top +ℤ pos (2 ^ k)) (at_place ne z) c) (sym (twice column)) q)))
          by (on_sw q) = on_sw (unite k (top +ℤ pos (2 ^ suc k)) column c1 sw c3 c4 c full.2 level_c
              (on_ne (subst (λ z. IsCellOf z (at_place sw (column +ℤ pos (2 ^ k))) c) (sym (twice top)) q)))
          by (on_se q) =
              on_se (unite k (top +ℤ pos (2 ^ suc k)) (column +ℤ pos (2 ^ suc k)) se d2 d3 d4 c full.3 level_d
              (on_nw (subst (λ z. IsCellOf z (at_place se (column +ℤ pos (2 ^ suc k))) c) (sym (twice top))
              (subst (λ z. IsCellOf ((top +ℤ pos (2 ^ k)) +ℤ pos (2 ^ k)) (at_place se z) c) (sym (twice column)) q))))

      module _ (blank_outer : list_all is_blank_tree (outer whole) ≡ true) where
        abbrev IsBlank : Tree → Type 0
        IsBlank t = is_blank_tree t ≡ true

        outer_blank : IsBlank a1 × IsBlank a2 × IsBlank a3 × IsBlank b1 × IsBlank b2 × IsBlank b4 × IsBlank c1 × IsBlank c3 × IsBlank c4 × IsBlank d2
            × IsBlank d3 × IsBlank d4
        outer_blank =
            let p1 = first_of_all a1 (a2 ∷ a3 ∷ b1 ∷ b2 ∷ b4 ∷ c1 ∷ c3 ∷ c4 ∷ d2 ∷ d3 ∷ d4 ∷ []) blank_outer in
            let p2 = first_of_all a2 (a3 ∷ b1 ∷ b2 ∷ b4 ∷ c1 ∷ c3 ∷ c4 ∷ d2 ∷ d3 ∷ d4 ∷ []) p1.1 in
            let p3 = first_of_all a3 (b1 ∷ b2 ∷ b4 ∷ c1 ∷ c3 ∷ c4 ∷ d2 ∷ d3 ∷ d4 ∷ []) p2.1 in
            let p4 = first_of_all b1 (b2 ∷ b4 ∷ c1 ∷ c3 ∷ c4 ∷ d2 ∷ d3 ∷ d4 ∷ []) p3.1 in
            let p5 = first_of_all b2 (b4 ∷ c1 ∷ c3 ∷ c4 ∷ d2 ∷ d3 ∷ d4 ∷ []) p4.1 in
            let p6 = first_of_all b4 (c1 ∷ c3 ∷ c4 ∷ d2 ∷ d3 ∷ d4 ∷ []) p5.1 in
            let p7 = first_of_all c1 (c3 ∷ c4 ∷ d2 ∷ d3 ∷ d4 ∷ []) p6.1 in
            let p8 = first_of_all c3 (c4 ∷ d2 ∷ d3 ∷ d4 ∷ []) p7.1 in
            let p9 = first_of_all c4 (d2 ∷ d3 ∷ d4 ∷ []) p8.1 in
            let p10 = first_of_all d2 (d3 ∷ d4 ∷ []) p9.1 in
            let p11 = first_of_all d3 (d4 ∷ []) p10.1 in
            let p12 = first_of_all d4 ([]) p11.1 in
            (p1.0, p2.0, p3.0, p4.0, p5.0, p6.0, p7.0, p8.0, p9.0, p10.0, p11.0, p12.0)

        down : IsCellOf top (at_place whole column) c → IsCellOf (top +ℤ pos (2 ^ k)) (at_place (quad nw ne sw se) (column +ℤ pos (2 ^ k))) c
        down h = unite k (top +ℤ pos (2 ^ k)) (column +ℤ pos (2 ^ k)) nw ne sw se c full_inner level_nw
            (by (split (suc k) top column (quad a1 a2 a3 nw) (quad b1 b2 ne b4) (quad c1 sw c3 c4) (quad se d2 d3 d4) c full (ap suc level) h))
          where
            from_nw : OnQuarter k top column a1 a2 a3 nw c → OnQuarter k (top +ℤ pos (2 ^ k)) (column +ℤ pos (2 ^ k)) nw ne sw se c
            from_nw (on_nw q) = absurd (no_cell _ a1 _ c full.0.0 outer_blank.0 q)
            from_nw (on_ne q) = absurd (no_cell _ a2 _ c full.0.1 outer_blank.1 q)
            from_nw (on_sw q) = absurd (no_cell _ a3 _ c full.0.2 outer_blank.2 q)
            from_nw (on_se q) = on_nw q

            from_ne : OnQuarter k top (column +ℤ pos (2 ^ suc k)) b1 b2 ne b4 c → OnQuarter k (top +ℤ pos (2 ^ k)) (column +ℤ pos (2 ^ k)) nw ne sw se c
            from_ne (on_nw q) = absurd (no_cell _ b1 _ c full.1.0 outer_blank.3 q)
            from_ne (on_ne q) = absurd (no_cell _ b2 _ c full.1.1 outer_blank.4 q)
            from_ne (on_sw q) = on_ne (subst (λ z. IsCellOf (top +ℤ pos (2 ^ k)) (at_place ne z) c) (twice column) q)
            from_ne (on_se q) = absurd (no_cell _ b4 _ c full.1.3 outer_blank.5 q)

            from_sw : OnQuarter k (top +ℤ pos (2 ^ suc k)) column c1 sw c3 c4 c → OnQuarter k (top +ℤ pos (2 ^ k)) (column +ℤ pos (2 ^ k)) nw ne sw se c
            from_sw (on_nw q) = absurd (no_cell _ c1 _ c full.2.0 outer_blank.6 q)
            from_sw (on_ne q) = on_sw (subst (λ z. IsCellOf z (at_place sw (column +ℤ pos (2 ^ k))) c) (twice top) q)
            from_sw (on_sw q) = absurd (no_cell _ c3 _ c full.2.2 outer_blank.7 q)
            from_sw (on_se q) = absurd (no_cell _ c4 _ c full.2.3 outer_blank.8 q)

            from_se : OnQuarter k (top +ℤ pos (2 ^ suc k)) (column +ℤ pos (2 ^ suc k)) se d2 d3 d4 c
                → OnQuarter k (top +ℤ pos (2 ^ k)) (column +ℤ pos (2 ^ k)) nw ne sw se c
            from_se (on_nw q) = on_se (subst (λ z. IsCellOf z (at_place se ((column +ℤ pos (2 ^ k)) +ℤ pos (2 ^ k))) c) (twice top)
                (subst (λ z. IsCellOf (top +ℤ pos (2 ^ suc k)) (at_place se z) c) (twice column) q))
            from_se (on_ne q) = absurd (no_cell _ d2 _ c full.3.1 outer_blank.9 q)
            from_se (on_sw q) = absurd (no_cell _ d3 _ c full.3.2 outer_blank.10 q)
            from_se (on_se q) = absurd (no_cell _ d4 _ c full.3.3 outer_blank.11 q)

            by : OnQuarter (suc k) top column (quad a1 a2 a3 nw) (quad b1 b2 ne b4) (quad c1 sw c3 c4) (quad se d2 d3 d4) c
                → OnQuarter k (top +ℤ pos (2 ^ k)) (column +ℤ pos (2 ^ k)) nw ne sw se c
            by (on_nw q) = from_nw (split k top column a1 a2 a3 nw c full.0 level q)
            by (on_ne q) = from_ne (split k top (column +ℤ pos (2 ^ suc k)) b1 b2 ne b4 c full.1 level_b q)
            by (on_sw q) = from_sw (split k (top +ℤ pos (2 ^ suc k)) column c1 sw c3 c4 c full.2 level_c q)
            by (on_se q) = from_se (split k (top +ℤ pos (2 ^ suc k)) (column +ℤ pos (2 ^ suc k)) se d2 d3 d4 c full.3 level_d q)

-- squares with the same nonzero cells on the plane have the same cells
abbrev CellsOf : Tree → Cell → Type 0
CellsOf t c = IsCellOf (neg_ℤ (pos (half_side t))) (at_place t (neg_ℤ (pos (half_side t)))) c

same_cells : (s t : Tree) → IsFull s → IsFull t → 1 ≤ depth s → 1 ≤ depth t → ((c : Cell) → CellsOf s c → CellsOf t c)
    → ((c : Cell) → CellsOf t c → CellsOf s c) → (x y : ℤ) → cell s x y ≡ cell t x y
same_cells s t fs ft hs ht f g x y = by (cases_eq (cell s x y) 0) (cases_eq (cell t x y) 0)
  where
    there : (cell s x y ≢ 0) → cell t x y ≡ cell s x y
    there n = let c : Cell = record { x = x; y = y; state = cell s x y } in (on_plane t ft ht c (f c (from_plane s fs hs c refl n))).0

    back : (cell t x y ≢ 0) → cell s x y ≡ cell t x y
    back n = let c : Cell = record { x = x; y = y; state = cell t x y } in (on_plane s fs hs c (g c (from_plane t ft ht c refl n))).0

    by : (cell s x y ≡ 0) ⊎ (cell s x y ≢ 0) → (cell t x y ≡ 0) ⊎ (cell t x y ≢ 0) → cell s x y ≡ cell t x y
    by (inr n) m = sym (there n)
    by (inl e) (inl m) = e ∙ sym m
    by (inl e) (inr m) = back m

middle_place : (k : ℕ) → neg_ℤ (pos (2 ^ suc k)) +ℤ pos (2 ^ k) ≡ neg_ℤ (pos (2 ^ k))
middle_place k = let e = double k in omega (arith, ints)

pub inner_cells : (t : Tree) → IsFull t → 2 ≤ depth t → list_all is_blank_tree (outer t) ≡ true → IsFull (inner t)
    × ((x y : ℤ) → cell t x y ≡ cell (inner t) x y)
inner_cells (point s) full deep h = absurd (omega arith)
inner_cells (quad (point a) b c d) full deep h = absurd (omega arith)
inner_cells (quad (quad a b c d) (point e) f g) full deep h = absurd (let x = full.4 in omega arith)
inner_cells (quad (quad a b c d) (quad e i j l) (point f) g) full deep h = absurd (let x = full.5 in omega arith)
inner_cells (quad (quad a b c d) (quad e i j l) (quad m n o p) (point g)) full deep h = absurd (let x = full.6 in omega arith)
inner_cells (quad (quad a1 a2 a3 nw) (quad b1 b2 ne b4) (quad c1 sw c3 c4) (quad se d2 d3 d4)) full deep h =
    let k = depth a1 in
    let fi = full_inner a1 a2 a3 nw b1 b2 ne b4 c1 sw c3 c4 se d2 d3 d4 full (depth a1) refl in
    let same : depth nw ≡ depth a1 = full.0.6 in
    let h1 : half_side (quad (quad a1 a2 a3 nw) (quad b1 b2 ne b4) (quad c1 sw c3 c4) (quad se d2 d3 d4)) ≡ 2 ^ suc (depth a1) = ap (λ n. 2 ^ n)
    (omega arith) in
    let h2 : half_side (quad nw ne sw se) ≡ 2 ^ depth a1 = ap (λ n. 2 ^ n) (omega arith) in
    let place : neg_ℤ (pos (half_side (quad (quad a1 a2 a3 nw) (quad b1 b2 ne b4) (quad c1 sw c3 c4) (quad se d2 d3 d4)))) +ℤ pos (2 ^ depth a1)
    ≡ neg_ℤ (pos (half_side (quad nw ne sw se))) =
    ap (λ n. neg_ℤ (pos n) +ℤ pos (2 ^ depth a1)) h1 ∙ middle_place (depth a1) ∙ ap (λ n. neg_ℤ (pos n)) (sym h2) in (
      fi,
      same_cells (quad (quad a1 a2 a3 nw) (quad b1 b2 ne b4) (quad c1 sw c3 c4) (quad se d2 d3 d4)) (quad nw ne sw se) full fi (omega arith) (omega arith)
          (λ c g. subst (λ z. IsCellOf z (at_place (quad nw ne sw se) z) c) place
          (down a1 a2 a3 nw b1 b2 ne b4 c1 sw c3 c4 se d2 d3 d4 full (depth a1) refl _ _ c h g))
          (λ c g. up a1 a2 a3 nw b1 b2 ne b4 c1 sw c3 c4 se d2 d3 d4 full (depth a1) refl _ _ c
          (subst (λ z. IsCellOf z (at_place (quad nw ne sw se) z) c) (sym place) g)),
    )

-- ---- the laws

full_grown : (t : Tree) → IsFull t → 1 ≤ depth t → IsFull (grown_square t)
full_grown (point s) full high = absurd (omega arith)
full_grown (quad a b c d) full high =
    let e = full-blank (depth a) in
    let l = depth-blank (depth a) in (
      (e, e, e, full.0, refl, refl, sym l),
      (e, e, full.1, e, refl, full.4 ∙ sym l, refl),
      (e, full.2, e, e, full.5 ∙ sym l, refl, refl),
      (full.3, e, e, e, l ∙ sym full.6, l ∙ sym full.6, l ∙ sym full.6),
      refl,
      refl,
      ap suc (full.6 ∙ sym l),
    )

outer_grown : (t : Tree) → 1 ≤ depth t → list_all is_blank_tree (outer (grown_square t)) ≡ true
outer_grown (point s) high = absurd (omega arith)
outer_grown (quad a b c d) high = let e = is_blank-blank (depth a) in grind (arith, e)

inner_grown : (t : Tree) → 1 ≤ depth t → inner (grown_square t) ≡ t
inner_grown (point s) high = absurd (omega arith)
inner_grown (quad a b c d) high = refl

pub depth_grown : (t : Tree) → 1 ≤ depth t → depth (grown_square t) ≡ suc (depth t)
depth_grown (point s) high = absurd (omega arith)
depth_grown (quad a b c d) high = ap suc (ap suc (depth-blank (depth a)))

pub growing_keeps_cells : GrowingKeepsCells
growing_keeps_cells t full high x y =
    let d = depth_grown t high in
    (inner_cells (grown_square t) (full_grown t full high) (omega arith) (outer_grown t high)).1 x y ∙ ap (λ s. cell s x y) (inner_grown t high)

pub trimming_ignores_growth : TrimmingIgnoresGrowth
trimming_ignores_growth t least full positive le =
    let high : 1 ≤ depth t = omega arith in
    let d = depth_grown t high in
    let o = outer_grown t high in
    let above : nat_lt least (depth (grown_square t)) ≡ true = grind arith in
    let can : can_trim (grown_square t) least ≡ true = (λ i. above i && o i) in
    sym (trimmed-smaller (grown_square t) least (full_grown t full high) positive can) ∙ ap (λ s. trimmed_square s least) (inner_grown t high)

trimming_steps : (n : ℕ) (t : Tree) (least : ℕ) → IsFull t → 1 ≤ least → (x y : ℤ) → cell (trim_up_to n t least) x y ≡ cell t x y
trimming_steps zero t least full positive x y = refl
trimming_steps (suc n) t least full positive x y = by (can_trim t least) refl (λ f. trimming_steps n (inner t) least f positive x y)
  where
    by : (b : Bool) → can_trim t least ≡ b → (IsFull (inner t) → cell (trim_up_to n (inner t) least) x y ≡ cell (inner t) x y)
        → cell (if b then trim_up_to n (inner t) least else t) x y ≡ cell t x y
    by false e rest = refl
    by true e rest =
        let above : nat_lt least (depth t) ≡ true = left_of_and _ _ e in
        let deep : 2 ≤ depth t = grind arith in
        let i = inner_cells t full deep (right_of_and (nat_lt least (depth t)) _ e) in
        rest i.0 ∙ sym (i.1 x y)

pub trimming_keeps_cells : TrimmingKeepsCells
trimming_keeps_cells t least full positive x y = trimming_steps (depth t) t least full positive x y

-- what trimming comes to
record IsTrimmedForm (least : ℕ) (t form : Tree) : Type 0 where
  full : IsFull form
  ends : can_trim form least ≡ false
  low : least ≤ depth t → least ≤ depth form
  high : depth form ≤ depth t

pub cannot_trim : (t : Tree) (least : ℕ) → depth t ≤ least → can_trim t least ≡ false
cannot_trim t least le = let e : nat_lt least (depth t) ≡ false = grind (arith, le) in ap (λ b. b && list_all is_blank_tree (outer t)) e

trimmed_form : (n : ℕ) (t : Tree) (least : ℕ) → IsFull t → 1 ≤ least → depth t ≤ n → IsTrimmedForm least t (trim_up_to n t least)
trimmed_form zero t least full positive le =
    record { full = full; ends = cannot_trim t least (omega arith); low = λ h. h; high = omega arith }
trimmed_form (suc n) t least full positive le = by (can_trim t least) refl (trimmed_form n (inner t) least)
  where
    by : (b : Bool) → can_trim t least ≡ b → (IsFull (inner t) → 1 ≤ least → depth (inner t) ≤ n → IsTrimmedForm least (inner t) (trim_up_to n (inner t) least))
        → IsTrimmedForm least t (if b then trim_up_to n (inner t) least else t)
    by false e rest = record { full = full; ends = e; low = λ h. h; high = omega arith }
    by true e rest =
        let above : nat_lt least (depth t) ≡ true = left_of_and _ _ e in
        let over : least < depth t = grind arith in
        let deep : 2 ≤ depth t = omega arith in
        let i = inner_cells t full deep (right_of_and (nat_lt least (depth t)) _ e) in
        let d = depth-inner t full deep in
        let r = rest i.0 positive (omega arith) in
        let h = r.high in
        record { full = r.full; ends = r.ends; low = λ l. r.low (omega arith); high = omega arith }

form_of : (t : Tree) (least : ℕ) → IsFull t → 1 ≤ least → IsTrimmedForm least t (trimmed_square t least)
form_of t least full positive = trimmed_form (depth t) t least full positive (omega arith)

-- a square that can be trimmed becomes smaller
pub trimmed-lower : (t : Tree) (least : ℕ) → IsFull t → 1 ≤ least → can_trim t least ≡ true → depth (trimmed_square t least) < depth t
trimmed-lower t least full positive can =
    let above : nat_lt least (depth t) ≡ true = left_of_and _ _ can in
    let deep : 2 ≤ depth t = grind arith in
    let i = inner_cells t full deep (right_of_and (nat_lt least (depth t)) _ can) in
    let high = (form_of (inner t) least i.0 positive).high in
    let d = depth-inner t full deep in
    let e = ap depth (trimmed-smaller t least full positive can) in
    omega arith

pub trimmed_is_fixed : TrimmedIsFixed
trimmed_is_fixed t least full positive =
    let f = form_of t least full positive in (f.full, trimmed-stays (trimmed_square t least) least f.ends)

pub trimming_stops : TrimmingStops
trimming_stops t least full positive =
    let f = form_of t least full positive in (f.low, λ le. trimmed-stays t least (cannot_trim t least le), f.high)

-- a square grows to the level of a larger one with the same cells, and is that one then
same_form : (n : ℕ) (s t : Tree) (least : ℕ) → IsFull s → IsFull t → 1 ≤ least → least ≤ depth s → n + depth s ≡ depth t
    → ((x y : ℤ) → cell s x y ≡ cell t x y) → trimmed_square s least ≡ trimmed_square t least
same_form zero s t least fs ft positive le d same = ap (λ u. trimmed_square u least) (equal_by_plane s t fs ft (omega arith) same)
same_form (suc n) s t least fs ft positive le d same =
    let high : 1 ≤ depth s = omega arith in
    let e = depth_grown s high in
    sym (trimming_ignores_growth s least fs positive le)
    ∙ same_form n (grown_square s) t least (full_grown s fs high) ft positive (omega arith) (omega arith) (λ x y. growing_keeps_cells s fs high x y ∙ same x y)

pub trimmed_by_cells : TrimmedByCells
trimmed_by_cells s t least fs ft positive ls lt = (to, from)
  where
    to : trimmed_square s least ≡ trimmed_square t least → (x y : ℤ) → cell s x y ≡ cell t x y
    to e x y = sym (trimming_keeps_cells s least fs positive x y) ∙ ap (λ u. cell u x y) e ∙ trimming_keeps_cells t least ft positive x y

    from : ((x y : ℤ) → cell s x y ≡ cell t x y) → trimmed_square s least ≡ trimmed_square t least
    from same = by (nat_le (depth s) (depth t)) refl
      where
        by : (b : Bool) → nat_le (depth s) (depth t) ≡ b → trimmed_square s least ≡ trimmed_square t least
        by true e =
            let le : depth s ≤ depth t = grind arith in
            same_form (depth t - depth s) s t least fs ft positive ls (omega arith) same
        by false e =
            let le : depth t ≤ depth s = grind arith in
            sym (same_form (depth s - depth t) t s least ft fs positive lt (omega arith) (λ x y. sym (same x y)))

pub trimmed_is_lowest : TrimmedIsLowest
trimmed_is_lowest s t least fs ft positive ls lt same =
    let e = (trimmed_by_cells s t least fs ft positive ls lt).1 same in
    subst (λ u. depth u ≤ depth s) e (form_of s least fs positive).high

pub cells_are_listed : CellsAreListed
cells_are_listed t full high = (square_cells t, IsCellList-square t full high, λ other h. one_list t other full high h)

pub list_is_population : ListIsPopulation
list_is_population t cells full high h = list_length t cells full high h

-- ---- the squares of a store

pub known_squares_are_full : KnownSquaresAreFull
known_squares_are_full s id h = (full_content s id h, low_content s id h)

pub equal_squares_have_one_id : EqualSquaresHaveOneId
equal_squares_have_one_id s shared a b ha hb e = same_id s shared a b ha hb e
