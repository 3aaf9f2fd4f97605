-- The next generation of the whole plane: that it is 0 outside the plane where the ring of squares around the plane is blank.
use Rattle.std.proofs.Common.{◌≡◌, ℕ, ◌-◌, ◌^◌, false, ℤ, pos, neg_ℤ, sym, ap, subst, arith}
use Rattle.std.proofs.lemmas.Int.{ints, by_lt_z}
use Rattle.life_base.specs.Rules.{has_digit}
use Rattle.life_base.specs.Sets.{OuterTotalistic}
use Rattle.life_base.specs.Tree.{Tree, depth, half_side, tree_cell, IsFull}
use Rattle.life_quad.specs.declared.id.Id.{Id}
use Rattle.life_pieces.specs.Pieces.{IsBinary, IsPiece, step_ahead, step_back}
use Rattle.life_pieces.proofs.PieceLemmas.{IsPiece-moved}
use Rattle.life_pieces.proofs.RootLemmas.{corner, cells-of_root, piece-of_root}
use Rattle.life_leap.specs.After.{after, IsBlankBeyond}
use Rattle.life_leap.specs.Edge.{HasCellOutside, HasNonzeroCell, IsInRing, IsInSquare, IsPlaneCoordinate}
use Rattle.life_leap.specs.Grid.{AreNineSquares, AreSixteenSquares, NineIds, SixteenIds}
use Rattle.life_leap.specs.Leaps.{AreMiddlesOfSixteen, IsBlankSquareBeyond}
use Rattle.life_leap.proofs.AfterLemmas.{after-none, beyond-later}
use Rattle.life_leap.proofs.RootSteps.{beyond-root}

-- the plane's first column and row
abbrev pub first_place : ℤ
first_place = neg_ℤ (pos (2 ^ 61))

pub in-plane : (x y : ℤ) → IsInSquare first_place (2 ^ 62) x y → IsPlaneCoordinate x × IsPlaneCoordinate y
in-plane x y h =
    let w = h.west_of in
    let e = h.east_of in
    let n = h.north_of in
    let s = h.south_of in
    (record { from = w; to = omega (arith, ints, e) }, record { from = n; to = omega (arith, ints, s) })

pub of-plane : (x y : ℤ) → IsPlaneCoordinate x × IsPlaneCoordinate y → IsInSquare first_place (2 ^ 62) x y
of-plane x y h =
    let e = h.0.to in
    let s = h.1.to in
    record { west_of = h.0.from; east_of = omega (arith, ints, e); north_of = h.1.from; south_of = omega (arith, ints, s) }

pub cell-outside : (cells : ℤ → ℤ → ℕ) → HasNonzeroCell cells (IsInRing first_place (2 ^ 62) (2 ^ 60)) → HasCellOutside cells
cell-outside cells h = record { x = h.x; y = h.y; outside = λ on. h.place.outside (of-plane h.x h.y on); nonzero = h.nonzero }

module _ (rule : OuterTotalistic) (t : Tree) (quiet : has_digit rule.sets.births 0 ≡ false) (whole : depth t ≡ 62) where
  pub corner-is : corner t ≡ first_place
  corner-is = ap (λ k. neg_ℤ (pos (2 ^ (k - 1)))) whole

  pub alone : IsBlankSquareBeyond (tree_cell t) first_place (2 ^ 62)
  alone =
      subst (λ k. IsBlankSquareBeyond (tree_cell t) first_place (2 ^ k)) whole
      (subst (λ z. IsBlankSquareBeyond (tree_cell t) z (2 ^ depth t)) corner-is (beyond-root t (omega (arith, whole))))

  pub piece-of_plane : IsFull t → IsPiece (tree_cell t) first_place first_place t
  piece-of_plane full =
      IsPiece-moved (tree_cell t) (corner t) first_place (corner t) first_place t corner-is corner-is (piece-of_root t full (omega (arith, whole)))

  next-alone : IsBlankBeyond (after rule 1 (tree_cell t)) (step_back first_place 1) (step_back first_place 1) (step_ahead (step_ahead first_place (2 ^ 62)) 1)
      (step_ahead (step_ahead first_place (2 ^ 62)) 1)
  next-alone = beyond-later rule 1 (tree_cell t) _ _ _ _ quiet alone

  -- the nine squares of the next generation, from the quarters of the plane amid twelve blank squares
  pub nine-later : (old next : Id → Tree) (sixteen : SixteenIds) (nine : NineIds) → IsBinary (tree_cell t)
      → AreSixteenSquares old (tree_cell t) (2 ^ 61) (step_back first_place (2 ^ 61)) (step_back first_place (2 ^ 61)) sixteen
      → AreMiddlesOfSixteen rule 1 (2 ^ 60) old next 61 sixteen nine
      → AreNineSquares next (after rule 1 (tree_cell t)) (2 ^ 61) (step_back first_place (2 ^ 60)) (step_back first_place (2 ^ 60)) nine
  nine-later old next sixteen nine binary at middles =
      let to : step_ahead (step_back first_place (2 ^ 61)) (2 ^ 60) ≡ step_back first_place (2 ^ 60) = omega (arith, ints) in
      subst (λ z. AreNineSquares next (after rule 1 (tree_cell t)) (2 ^ 61) z z nine) to
      (middles.later (tree_cell t) (step_back first_place (2 ^ 61)) (step_back first_place (2 ^ 61)) binary at)

  -- a blank ring leaves nothing outside the plane
  pub none-outside : ((x y : ℤ) → IsInRing first_place (2 ^ 62) (2 ^ 60) x y → after rule 1 (tree_cell t) x y ≡ 0) → (x y : ℤ)
      → ¬ (IsInSquare first_place (2 ^ 62) x y) → after rule 1 (tree_cell t) x y ≡ 0
  none-outside ring x y outside =
      let z = next-alone in
      by_lt_z x (step_back first_place (2 ^ 60)) (λ l. z.west_of x y (omega (arith, ints, l)))
      (λ w. by_lt_z y (step_back first_place (2 ^ 60)) (λ l. z.north_of x y (omega (arith, ints, l)))
      (λ n. by_lt_z x (step_ahead (step_ahead first_place (2 ^ 62)) (2 ^ 60))
      (λ e. by_lt_z y (step_ahead (step_ahead first_place (2 ^ 62)) (2 ^ 60))
      (λ s. ring x y (record { near = record { west_of = w; east_of = e; north_of = n; south_of = s }; outside = outside }))
      (λ l. z.south_of x y (omega (arith, ints, l))))
      (λ l. z.east_of x y (omega (arith, ints, l)))))

  pub all-stay : ((x y : ℤ) → IsInRing first_place (2 ^ 62) (2 ^ 60) x y → after rule 1 (tree_cell t) x y ≡ 0) → ¬ (HasCellOutside (after rule 1 (tree_cell t)))
  all-stay ring h = h.nonzero (none-outside ring h.x h.y (λ i. h.outside (in-plane h.x h.y i)))

  -- and the square in the middle of the ring is the whole of the generation
  pub plane-later : (r : Tree) → IsFull r → depth r ≡ 62
      → ((x y : ℤ) → IsInRing first_place (2 ^ 62) (2 ^ 60) x y → after rule 1 (tree_cell t) x y ≡ 0)
      → IsPiece (after rule 0 (after rule 1 (tree_cell t))) (step_ahead (step_back first_place (2 ^ 60)) (2 ^ 60))
      (step_ahead (step_back first_place (2 ^ 60)) (2 ^ 60)) r
      → (x y : ℤ) → tree_cell r x y ≡ after rule 1 (tree_cell t) x y
  plane-later r full level ring piece =
      let cells = after rule 1 (tree_cell t) in
      let to : step_ahead (step_back first_place (2 ^ 60)) (2 ^ 60) ≡ first_place = omega (arith, ints) in
      let half : half_side r ≡ 2 ^ 61 = ap (λ k. 2 ^ (k - 1)) level in
      cells-of_root cells r first_place full (omega (arith, level)) (ap (λ k. neg_ℤ (pos k)) (sym half))
      (subst (λ f. IsPiece f first_place first_place r) (after-none rule cells)
      (IsPiece-moved (after rule 0 cells) (step_ahead (step_back first_place (2 ^ 60)) (2 ^ 60)) first_place
      (step_ahead (step_back first_place (2 ^ 60)) (2 ^ 60)) first_place r to to piece))
      (λ x y apart. none-outside ring x y (λ i. apart (record {
        west = (let a = i.west_of in omega (arith, ints, half, a));
        east = (let a = i.east_of in omega (arith, ints, half, a));
        north = (let a = i.north_of in omega (arith, ints, half, a));
        south = (let a = i.south_of in omega (arith, ints, half, a));
      })))
