-- Whether the ring of squares around a square is blank.
use Rattle.std.proofs.Common.{◌≡◌, ℕ, ◌+◌, ◌^◌, Bool, true, false, true≢false, ◌&&◌, ◌==◌, suc, ℤ, ◌≤ℤ◌, ◌<ℤ◌, refl, sym, ◌∙◌, ap, subst, arith}
use Rattle.std.proofs.lemmas.Int.{ints, by_lt_z}
use Rattle.life_base.specs.Tree.{Tree, point, quad, depth, is_blank_tree, IsFull}
use Rattle.life_base.proofs.Squares.{blank_is}
use Rattle.life_base.proofs.Basics.{double, left_of_and, right_of_and}
use Rattle.life_quad.specs.declared.id.Id.{Id}
use Rattle.life_quad.specs.declared.moves.Quarters.{Quarters}
use Rattle.life_pieces.specs.Pieces.{IsOfLevel, IsPiece, step_ahead, step_back}
use Rattle.life_pieces.proofs.PieceLemmas.{twice, pieces-of, zero-of_blank}
use Rattle.life_leap.specs.Edge.{HasNonzeroCell, IsInBox, IsInRing, TestsBlank, three_ahead}
use Rattle.life_leap.specs.Grid.{AreThreeSquares, AreTripleFrom}
use Rattle.life_leap.specs.declared.grid.Triple.{Triple}

-- ---- tests of one box after another

-- what holds of two tests holds of both, if each place is one of the first or of the second
pub both-test : (cells : ℤ → ℤ → ℕ) (P Q R : ℤ → ℤ → Type 0) (p q : Bool) → ((x y : ℤ) → (P x y → cells x y ≡ 0) → (Q x y → cells x y ≡ 0) → R x y
    → cells x y ≡ 0)
    → ((x y : ℤ) → P x y → R x y) → ((x y : ℤ) → Q x y → R x y) → TestsBlank cells P p → TestsBlank cells Q q → TestsBlank cells R (p && q)
both-test cells P Q R true q all first second h k =
    record {
      blank = λ e x y r. all x y (h.blank refl x y) (k.blank e x y) r;
      other = λ e. let n = k.other e in record { x = n.x; y = n.y; place = second n.x n.y n.place; nonzero = n.nonzero };
    }
both-test cells P Q R false q all first second h k =
    record {
      blank = λ e. absurd (true≢false (sym e));
      other = λ e. let n = h.other refl in record { x = n.x; y = n.y; place = first n.x n.y n.place; nonzero = n.nonzero };
    }

-- two boxes side by side, and one above the other
pub adjacent-tests : (cells : ℤ → ℤ → ℕ) (west middle north east south : ℤ) (p q : Bool) → west ≤ℤ middle → middle ≤ℤ east
    → TestsBlank cells (IsInBox west north middle south) p → TestsBlank cells (IsInBox middle north east south) q
    → TestsBlank cells (IsInBox west north east south) (p && q)
adjacent-tests cells west middle north east south p q a b =
    both-test cells _ _ _ p q
    (λ x y h k r.
    by_lt_z x middle (λ l. h (record { west_of = r.west_of; east_of = l; north_of = r.north_of; south_of = r.south_of }))
    (λ l. k (record { west_of = l; east_of = r.east_of; north_of = r.north_of; south_of = r.south_of })))
    (λ x y h. let e = h.east_of in record { west_of = h.west_of; east_of = omega (arith, ints, b, e); north_of = h.north_of; south_of = h.south_of })
    (λ x y h. let w = h.west_of in record { west_of = omega (arith, ints, a, w); east_of = h.east_of; north_of = h.north_of; south_of = h.south_of })

pub below-tests : (cells : ℤ → ℤ → ℕ) (west north middle east south : ℤ) (p q : Bool) → north ≤ℤ middle → middle ≤ℤ south
    → TestsBlank cells (IsInBox west north east middle) p → TestsBlank cells (IsInBox west middle east south) q
    → TestsBlank cells (IsInBox west north east south) (p && q)
below-tests cells west north middle east south p q a b =
    both-test cells _ _ _ p q
    (λ x y h k r.
    by_lt_z y middle (λ l. h (record { west_of = r.west_of; east_of = r.east_of; north_of = r.north_of; south_of = l }))
    (λ l. k (record { west_of = r.west_of; east_of = r.east_of; north_of = l; south_of = r.south_of })))
    (λ x y h. let s = h.south_of in record { west_of = h.west_of; east_of = h.east_of; north_of = h.north_of; south_of = omega (arith, ints, b, s) })
    (λ x y h. let n = h.north_of in record { west_of = h.west_of; east_of = h.east_of; north_of = omega (arith, ints, a, n); south_of = h.south_of })

-- a square that isn't blank has a cell other than 0
abbrev HasCellOf : (ℤ → ℤ → ℕ) → Tree → ℤ → ℤ → Type 0
HasCellOf cells t x y = HasNonzeroCell cells (IsInBox x y (step_ahead x (2 ^ depth t)) (step_ahead y (2 ^ depth t)))

-- a cell of a quarter is one of the square
cell-of_quarter : (cells : ℤ → ℤ → ℕ) (k m : ℕ) (x y u v : ℤ) → 2 ^ m ≡ 2 ^ k → x ≤ℤ u → step_ahead u (2 ^ k) ≤ℤ step_ahead x (2 ^ suc k) → y ≤ℤ v
    → step_ahead v (2 ^ k) ≤ℤ step_ahead y (2 ^ suc k) → HasNonzeroCell cells (IsInBox u v (step_ahead u (2 ^ m)) (step_ahead v (2 ^ m)))
    → HasNonzeroCell cells (IsInBox x y (step_ahead x (2 ^ suc k)) (step_ahead y (2 ^ suc k)))
cell-of_quarter cells k m x y u v side w e n s h =
    let a = h.place.west_of in
    let b = h.place.east_of in
    let c = h.place.north_of in
    let d = h.place.south_of in
    record {
      x = h.x;
      y = h.y;
      place = record {
        west_of = omega (arith, ints, a, w);
        east_of = omega (arith, ints, b, e, side);
        north_of = omega (arith, ints, c, n);
        south_of = omega (arith, ints, d, s, side);
      };
      nonzero = h.nonzero;
    }

-- a square has such a cell if one of its quarters has
some-of_four : (cells : ℤ → ℤ → ℕ) (a b c d : Tree) (x y : ℤ) → IsFull (quad a b c d) → is_blank_tree (quad a b c d) ≡ false
    → (is_blank_tree a ≡ false → HasCellOf cells a x y) → (is_blank_tree b ≡ false → HasCellOf cells b (step_ahead x (2 ^ depth a)) y)
    → (is_blank_tree c ≡ false → HasCellOf cells c x (step_ahead y (2 ^ depth a)))
    → (is_blank_tree d ≡ false → HasCellOf cells d (step_ahead x (2 ^ depth a)) (step_ahead y (2 ^ depth a)))
    → HasCellOf cells (quad a b c d) x y
some-of_four cells a b c d x y full live in_a in_b in_c in_d = by (is_blank_tree a) refl (is_blank_tree b) refl (is_blank_tree c) refl
  where
    k : ℕ
    k = depth a

    w : 2 ^ suc k ≡ 2 ^ k + 2 ^ k
    w = double k

    by : (p : Bool) → is_blank_tree a ≡ p → (q : Bool) → is_blank_tree b ≡ q → (r : Bool) → is_blank_tree c ≡ r → HasCellOf cells (quad a b c d) x y
    by false e q f r g =
        let t = w in
        cell-of_quarter cells k k x y x y refl (omega (arith, ints)) (omega (arith, ints, t)) (omega (arith, ints)) (omega (arith, ints, t)) (in_a e)
    by true e false f r g =
        let t = w in
        cell-of_quarter cells k (depth b) x y (step_ahead x (2 ^ k)) y (ap (λ n. 2 ^ n) full.4) (omega (arith, ints)) (omega (arith, ints, t))
        (omega (arith, ints)) (omega (arith, ints, t)) (in_b f)
    by true e true f false g =
        let t = w in
        cell-of_quarter cells k (depth c) x y x (step_ahead y (2 ^ k)) (ap (λ n. 2 ^ n) full.5) (omega (arith, ints)) (omega (arith, ints, t))
        (omega (arith, ints)) (omega (arith, ints, t)) (in_c g)
    by true e true f true g =
        let t = w in
        let rest : is_blank_tree d ≡ false = sym (λ i. e i && f i && g i && is_blank_tree d) ∙ live in
        cell-of_quarter cells k (depth d) x y (step_ahead x (2 ^ k)) (step_ahead y (2 ^ k)) (ap (λ n. 2 ^ n) full.6) (omega (arith, ints))
        (omega (arith, ints, t)) (omega (arith, ints)) (omega (arith, ints, t)) (in_d rest)

some-cell : (cells : ℤ → ℤ → ℕ) (t : Tree) (x y : ℤ) → IsFull t → IsPiece cells x y t → is_blank_tree t ≡ false → HasCellOf cells t x y
some-cell cells (point s) x y full piece live =
    record {
      x = x;
      y = y;
      place = record { west_of = omega (arith, ints); east_of = omega (arith, ints); north_of = omega (arith, ints); south_of = omega (arith, ints) };
      nonzero = λ zero. true≢false (sym (ap (λ n. n == 0) (piece ∙ zero)) ∙ live);
    }
some-cell cells (quad a b c d) x y full piece live =
    some-of_four cells a b c d x y full live (some-cell cells a _ _ full.0 piece.0) (some-cell cells b _ _ full.1 piece.1)
    (some-cell cells c _ _ full.2 piece.2) (some-cell cells d _ _ full.3 piece.3)

-- one square
pub square-tests : (cells : ℤ → ℤ → ℕ) (t : Tree) (k : ℕ) (x y : ℤ) → IsFull t → depth t ≡ k → IsPiece cells x y t
    → TestsBlank cells (IsInBox x y (step_ahead x (2 ^ k)) (step_ahead y (2 ^ k))) (is_blank_tree t)
square-tests cells t k x y full level piece =
    let side : 2 ^ depth t ≡ 2 ^ k = ap (λ n. 2 ^ n) level in
    record {
      blank = λ e u v h.
          let z = zero-of_blank cells (depth t) x y (subst (IsPiece cells x y) (blank_is t full e) piece) in
          let a = h.east_of in
          let b = h.south_of in
          z.zero_at u v h.west_of (omega (arith, ints, a, side)) h.north_of (omega (arith, ints, b, side));
      other = λ e.
          let n = some-cell cells t x y full piece e in
          let a = n.place.east_of in
          let b = n.place.south_of in
          record {
            x = n.x;
            y = n.y;
            place = record {
              west_of = n.place.west_of;
              east_of = omega (arith, ints, a, side);
              north_of = n.place.north_of;
              south_of = omega (arith, ints, b, side);
            };
            nonzero = n.nonzero;
          };
    }

-- ---- the halves of squares side by side

module _ (cells : ℤ → ℤ → ℕ) (k : ℕ) (x y : ℤ) (t nw ne sw se : Tree) (full : IsFull t) (is : t ≡ quad nw ne sw se) (level : depth nw ≡ k)
    (piece : IsPiece cells x y t) where
  far : (z : ℤ) → step_ahead (step_ahead z (2 ^ k)) (2 ^ k) ≡ step_ahead z (2 ^ (k + 1))
  far z = let w = twice k in omega (arith, ints, w)

  further : (z : ℤ) → step_ahead z (2 ^ k) ≤ℤ step_ahead z (2 ^ (k + 1))
  further z = let w = twice k in omega (arith, ints, w)

  near : (z : ℤ) → z ≤ℤ step_ahead z (2 ^ k)
  near z = omega (arith, ints)

  parts : IsFull (quad nw ne sw se)
  parts = subst IsFull is full

  p : IsPiece cells x y nw × IsPiece cells (step_ahead x (2 ^ k)) y ne × IsPiece cells x (step_ahead y (2 ^ k)) sw
      × IsPiece cells (step_ahead x (2 ^ k)) (step_ahead y (2 ^ k)) se
  p = pieces-of cells x y k level is piece

  pub north-half : TestsBlank cells (IsInBox x y (step_ahead x (2 ^ (k + 1))) (step_ahead y (2 ^ k))) (is_blank_tree nw && is_blank_tree ne)
  north-half =
      adjacent-tests cells x (step_ahead x (2 ^ k)) y _ _ _ _ (near x) (further x) (square-tests cells nw k x y parts.0 level p.0)
      (subst (λ e. TestsBlank cells (IsInBox (step_ahead x (2 ^ k)) y e (step_ahead y (2 ^ k))) (is_blank_tree ne)) (far x)
      (square-tests cells ne k (step_ahead x (2 ^ k)) y parts.1 (parts.4 ∙ level) p.1))

  pub south-half : TestsBlank cells (IsInBox x (step_ahead y (2 ^ k)) (step_ahead x (2 ^ (k + 1))) (step_ahead y (2 ^ (k + 1))))
      (is_blank_tree sw && is_blank_tree se)
  south-half =
      subst (λ s. TestsBlank cells (IsInBox x (step_ahead y (2 ^ k)) (step_ahead x (2 ^ (k + 1))) s) (is_blank_tree sw && is_blank_tree se)) (far y)
      (adjacent-tests cells x (step_ahead x (2 ^ k)) (step_ahead y (2 ^ k)) _ _ _ _ (near x) (further x)
      (square-tests cells sw k x (step_ahead y (2 ^ k)) parts.2 (parts.5 ∙ level) p.2)
      (subst (λ e. TestsBlank cells (IsInBox (step_ahead x (2 ^ k)) (step_ahead y (2 ^ k)) e (step_ahead (step_ahead y (2 ^ k)) (2 ^ k)))
      (is_blank_tree se)) (far x)
      (square-tests cells se k (step_ahead x (2 ^ k)) (step_ahead y (2 ^ k)) parts.3 (parts.6 ∙ level) p.3)))

  pub west-half : TestsBlank cells (IsInBox x y (step_ahead x (2 ^ k)) (step_ahead y (2 ^ (k + 1)))) (is_blank_tree nw && is_blank_tree sw)
  west-half =
      below-tests cells x y (step_ahead y (2 ^ k)) _ _ _ _ (near y) (further y) (square-tests cells nw k x y parts.0 level p.0)
      (subst (λ s. TestsBlank cells (IsInBox x (step_ahead y (2 ^ k)) (step_ahead x (2 ^ k)) s) (is_blank_tree sw)) (far y)
      (square-tests cells sw k x (step_ahead y (2 ^ k)) parts.2 (parts.5 ∙ level) p.2))

  pub east-half : TestsBlank cells (IsInBox (step_ahead x (2 ^ k)) y (step_ahead x (2 ^ (k + 1))) (step_ahead y (2 ^ (k + 1))))
      (is_blank_tree ne && is_blank_tree se)
  east-half =
      subst (λ e. TestsBlank cells (IsInBox (step_ahead x (2 ^ k)) y e (step_ahead y (2 ^ (k + 1)))) (is_blank_tree ne && is_blank_tree se)) (far x)
      (below-tests cells (step_ahead x (2 ^ k)) y (step_ahead y (2 ^ k)) _ _ _ _ (near y) (further y)
      (square-tests cells ne k (step_ahead x (2 ^ k)) y parts.1 (parts.4 ∙ level) p.1)
      (subst (λ s. TestsBlank cells (IsInBox (step_ahead x (2 ^ k)) (step_ahead y (2 ^ k)) (step_ahead (step_ahead x (2 ^ k)) (2 ^ k)) s)
      (is_blank_tree se)) (far y)
      (square-tests cells se k (step_ahead x (2 ^ k)) (step_ahead y (2 ^ k)) parts.3 (parts.6 ∙ level) p.3)))

-- three boxes side by side, and three one above the other
pub row-tests : (cells : ℤ → ℤ → ℕ) (x north south : ℤ) (side : ℕ) (p q r : Bool) → TestsBlank cells (IsInBox x north (step_ahead x side) south) p
    → TestsBlank cells (IsInBox (step_ahead x side) north (step_ahead (step_ahead x side) side) south) q
    → TestsBlank cells (IsInBox (step_ahead (step_ahead x side) side) north (step_ahead (step_ahead (step_ahead x side) side) side) south) r
    → TestsBlank cells (IsInBox x north (step_ahead (step_ahead (step_ahead x side) side) side) south) (p && (q && r))
row-tests cells x north south side p q r a b c =
    adjacent-tests cells x (step_ahead x side) north _ south p (q && r) (omega (arith, ints)) (omega (arith, ints)) a
    (adjacent-tests cells (step_ahead x side) (step_ahead (step_ahead x side) side) north _ south q r (omega (arith, ints)) (omega (arith, ints)) b c)

pub column-tests : (cells : ℤ → ℤ → ℕ) (west y east : ℤ) (side : ℕ) (p q r : Bool) → TestsBlank cells (IsInBox west y east (step_ahead y side)) p
    → TestsBlank cells (IsInBox west (step_ahead y side) east (step_ahead (step_ahead y side) side)) q
    → TestsBlank cells (IsInBox west (step_ahead (step_ahead y side) side) east (step_ahead (step_ahead (step_ahead y side) side) side)) r
    → TestsBlank cells (IsInBox west y east (step_ahead (step_ahead (step_ahead y side) side) side)) (p && (q && r))
column-tests cells west y east side p q r a b c =
    below-tests cells west y (step_ahead y side) east _ p (q && r) (omega (arith, ints)) (omega (arith, ints)) a
    (below-tests cells west (step_ahead y side) (step_ahead (step_ahead y side) side) east _ q r (omega (arith, ints)) (omega (arith, ints)) b c)

-- ---- three squares by their quarters

-- a square's quarters, of level k
pub record IsParted (content : Id → Tree) (k : ℕ) (id : Id) (q : Quarters) : Type 0 where
  pub full : IsFull (content id)
  pub is : content id ≡ quad (content q.nw) (content q.ne) (content q.sw) (content q.se)
  pub level : depth (content q.nw) ≡ k

pub parted : {knows : Id → Type 0} {content : Id → Tree} {k : ℕ} {id : Id} {q : Quarters} → ((id : Id) → knows id → IsFull (content id))
    → IsOfLevel knows content (k + 1) id → content id ≡ quad (content q.nw) (content q.ne) (content q.sw) (content q.se)
    → depth (content q.nw) + 1 ≡ depth (content id) → IsParted content k id q
parted full at is below = record { full = full _ at.known; is = is; level = (let a = at.level in omega (arith, a, below)) }

pub three-tests : (cells : ℤ → ℤ → ℕ) (P : ℤ → ℤ → Type 0) (r m a b c d e f : Bool) → r ≡ (a && m) → m ≡ (b && c) → a ≡ d → b ≡ e → c ≡ f
    → TestsBlank cells P (d && (e && f)) → TestsBlank cells P r
three-tests cells P r m a b c d e f first second x y z h =
    let all : r ≡ (d && (e && f)) = first ∙ (λ i. x i && (second ∙ (λ j. y j && z j)) i) in
    subst (TestsBlank cells P) (sym all) h

module _ (content : Id → Tree) (cells : ℤ → ℤ → ℕ) (k : ℕ) (x y : ℤ) (three : Triple Id) (a b c : Quarters) (pa : IsParted content k three.first a)
    (pb : IsParted content k three.second b) (pc : IsParted content k three.third c) where
  abbrev blank_at : Id → Bool
  blank_at id = is_blank_tree (content id)

  pub north-of_row : AreThreeSquares content cells (2 ^ (k + 1)) x y three
      → TestsBlank cells (IsInBox x y (three_ahead x (2 ^ (k + 1))) (step_ahead y (2 ^ k)))
      ((blank_at a.nw && blank_at a.ne) && ((blank_at b.nw && blank_at b.ne) && (blank_at c.nw && blank_at c.ne)))
  north-of_row h =
      row-tests cells x y (step_ahead y (2 ^ k)) (2 ^ (k + 1)) _ _ _
      (north-half cells k x y _ _ _ _ _ pa.full pa.is pa.level h.first)
      (north-half cells k (step_ahead x (2 ^ (k + 1))) y _ _ _ _ _ pb.full pb.is pb.level h.second)
      (north-half cells k (step_ahead (step_ahead x (2 ^ (k + 1))) (2 ^ (k + 1))) y _ _ _ _ _ pc.full pc.is pc.level h.third)

  pub south-of_row : AreThreeSquares content cells (2 ^ (k + 1)) x y three
      → TestsBlank cells (IsInBox x (step_ahead y (2 ^ k)) (three_ahead x (2 ^ (k + 1))) (step_ahead y (2 ^ (k + 1))))
      ((blank_at a.sw && blank_at a.se) && ((blank_at b.sw && blank_at b.se) && (blank_at c.sw && blank_at c.se)))
  south-of_row h =
      row-tests cells x (step_ahead y (2 ^ k)) (step_ahead y (2 ^ (k + 1))) (2 ^ (k + 1)) _ _ _
      (south-half cells k x y _ _ _ _ _ pa.full pa.is pa.level h.first)
      (south-half cells k (step_ahead x (2 ^ (k + 1))) y _ _ _ _ _ pb.full pb.is pb.level h.second)
      (south-half cells k (step_ahead (step_ahead x (2 ^ (k + 1))) (2 ^ (k + 1))) y _ _ _ _ _ pc.full pc.is pc.level h.third)

  pub west-of_column : AreTripleFrom (λ row id. IsPiece cells x row (content id)) (2 ^ (k + 1)) y three
      → TestsBlank cells (IsInBox x y (step_ahead x (2 ^ k)) (three_ahead y (2 ^ (k + 1))))
      ((blank_at a.nw && blank_at a.sw) && ((blank_at b.nw && blank_at b.sw) && (blank_at c.nw && blank_at c.sw)))
  west-of_column h =
      column-tests cells x y (step_ahead x (2 ^ k)) (2 ^ (k + 1)) _ _ _
      (west-half cells k x y _ _ _ _ _ pa.full pa.is pa.level h.first)
      (west-half cells k x (step_ahead y (2 ^ (k + 1))) _ _ _ _ _ pb.full pb.is pb.level h.second)
      (west-half cells k x (step_ahead (step_ahead y (2 ^ (k + 1))) (2 ^ (k + 1))) _ _ _ _ _ pc.full pc.is pc.level h.third)

  pub east-of_column : AreTripleFrom (λ row id. IsPiece cells x row (content id)) (2 ^ (k + 1)) y three
      → TestsBlank cells (IsInBox (step_ahead x (2 ^ k)) y (step_ahead x (2 ^ (k + 1))) (three_ahead y (2 ^ (k + 1))))
      ((blank_at a.ne && blank_at a.se) && ((blank_at b.ne && blank_at b.se) && (blank_at c.ne && blank_at c.se)))
  east-of_column h =
      column-tests cells (step_ahead x (2 ^ k)) y (step_ahead x (2 ^ (k + 1))) (2 ^ (k + 1)) _ _ _
      (east-half cells k x y _ _ _ _ _ pa.full pa.is pa.level h.first)
      (east-half cells k x (step_ahead y (2 ^ (k + 1))) _ _ _ _ _ pb.full pb.is pb.level h.second)
      (east-half cells k x (step_ahead (step_ahead y (2 ^ (k + 1))) (2 ^ (k + 1))) _ _ _ _ _ pc.full pc.is pc.level h.third)

-- ---- the ring

-- the outer halves of the outer ones of nine squares, of which the north-western one begins 2 ^ k columns and rows before `start`
module _ (cells : ℤ → ℤ → ℕ) (k : ℕ) (start : ℤ) where
  abbrev begin : ℤ
  begin = step_back start (2 ^ k)

  abbrev last : ℤ
  last = step_ahead (step_ahead begin (2 ^ (k + 1))) (2 ^ (k + 1))

  abbrev end : ℤ
  end = step_ahead last (2 ^ (k + 1))

  abbrev pub IsInNorth : ℤ → ℤ → Type 0
  IsInNorth = IsInBox begin begin end (step_ahead begin (2 ^ k))

  abbrev pub IsInSouth : ℤ → ℤ → Type 0
  IsInSouth = IsInBox begin (step_ahead last (2 ^ k)) end end

  abbrev pub IsInWest : ℤ → ℤ → Type 0
  IsInWest = IsInBox begin begin (step_ahead begin (2 ^ k)) end

  abbrev pub IsInEast : ℤ → ℤ → Type 0
  IsInEast = IsInBox (step_ahead last (2 ^ k)) begin end end

  abbrev IsInWhole : ℤ → ℤ → Type 0
  IsInWhole = IsInRing start (2 ^ (k + 2)) (2 ^ k)

  four : 2 ^ (k + 2) ≡ 2 ^ (k + 1) + 2 ^ (k + 1)
  four =
      let e : k + 1 + 1 ≡ k + 2 = omega arith in
      sym (ap (λ n. 2 ^ n) e) ∙ twice (k + 1)

  in-north : (x y : ℤ) → IsInNorth x y → IsInWhole x y
  in-north x y h =
      let a = twice k in
      let b = four in
      record {
        near = record {
          west_of = h.west_of;
          east_of = omega (arith, ints, a, b, h.east_of);
          north_of = h.north_of;
          south_of = omega (arith, ints, a, b, h.south_of);
        };
        outside = λ i. let c = i.north_of in omega (arith, ints, c, h.south_of);
      }

  in-south : (x y : ℤ) → IsInSouth x y → IsInWhole x y
  in-south x y h =
      let a = twice k in
      let b = four in
      record {
        near = record {
          west_of = h.west_of;
          east_of = omega (arith, ints, a, b, h.east_of);
          north_of = omega (arith, ints, a, b, h.north_of);
          south_of = omega (arith, ints, a, b, h.south_of);
        };
        outside = λ i. let c = i.south_of in omega (arith, ints, a, b, c, h.north_of);
      }

  in-west : (x y : ℤ) → IsInWest x y → IsInWhole x y
  in-west x y h =
      let a = twice k in
      let b = four in
      record {
        near = record {
          west_of = h.west_of;
          east_of = omega (arith, ints, a, b, h.east_of);
          north_of = h.north_of;
          south_of = omega (arith, ints, a, b, h.south_of);
        };
        outside = λ i. let c = i.west_of in omega (arith, ints, c, h.east_of);
      }

  in-east : (x y : ℤ) → IsInEast x y → IsInWhole x y
  in-east x y h =
      let a = twice k in
      let b = four in
      record {
        near = record {
          west_of = omega (arith, ints, a, b, h.west_of);
          east_of = omega (arith, ints, a, b, h.east_of);
          north_of = h.north_of;
          south_of = omega (arith, ints, a, b, h.south_of);
        };
        outside = λ i. let c = i.east_of in omega (arith, ints, a, b, c, h.west_of);
      }

  cell-of : (P : ℤ → ℤ → Type 0) → ((x y : ℤ) → P x y → IsInWhole x y) → HasNonzeroCell cells P → HasNonzeroCell cells IsInWhole
  cell-of P within h = record { x = h.x; y = h.y; place = within h.x h.y h.place; nonzero = h.nonzero }

  some-side : (n s w e : Bool) → TestsBlank cells IsInNorth n → TestsBlank cells IsInSouth s → TestsBlank cells IsInWest w → TestsBlank cells IsInEast e
      → (n && (s && (w && e))) ≡ false → HasNonzeroCell cells IsInWhole
  some-side false s w e hn hs hw he f = cell-of IsInNorth in-north (hn.other refl)
  some-side true false w e hn hs hw he f = cell-of IsInSouth in-south (hs.other refl)
  some-side true true false e hn hs hw he f = cell-of IsInWest in-west (hw.other refl)
  some-side true true true e hn hs hw he f = cell-of IsInEast in-east (he.other f)

  no-side : ((x y : ℤ) → IsInNorth x y → cells x y ≡ 0) → ((x y : ℤ) → IsInSouth x y → cells x y ≡ 0) → ((x y : ℤ) → IsInWest x y → cells x y ≡ 0)
      → ((x y : ℤ) → IsInEast x y → cells x y ≡ 0) → (x y : ℤ) → IsInWhole x y → cells x y ≡ 0
  no-side north south west east x y h =
      let a = twice k in
      let b = four in
      let w = h.near.west_of in
      let e = h.near.east_of in
      let n = h.near.north_of in
      let s = h.near.south_of in
      let to-east : x <ℤ end = omega (arith, ints, a, b, e) in
      let to-south : y <ℤ end = omega (arith, ints, a, b, s) in
      by_lt_z x start
      (λ l. west x y (record { west_of = w; east_of = omega (arith, ints, l); north_of = n; south_of = to-south }))
      (λ in-w. by_lt_z y start
      (λ l. north x y (record { west_of = w; east_of = to-east; north_of = n; south_of = omega (arith, ints, l) }))
      (λ in-n. by_lt_z x (step_ahead start (2 ^ (k + 2)))
      (λ in-e. by_lt_z y (step_ahead start (2 ^ (k + 2)))
      (λ in-s. absurd (h.outside (record { west_of = in-w; east_of = in-e; north_of = in-n; south_of = in-s })))
      (λ l. south x y (record { west_of = w; east_of = to-east; north_of = omega (arith, ints, a, b, l); south_of = to-south })))
      (λ l. east x y (record { west_of = omega (arith, ints, a, b, l); east_of = to-east; north_of = n; south_of = to-south }))))

  pub ring-tests : (n s w e : Bool) → TestsBlank cells IsInNorth n → TestsBlank cells IsInSouth s → TestsBlank cells IsInWest w → TestsBlank cells IsInEast e
      → TestsBlank cells IsInWhole (n && (s && (w && e)))
  ring-tests n s w e hn hs hw he =
      record {
        blank = λ t.
            let r = right_of_and n (s && (w && e)) t in
            let q = right_of_and s (w && e) r in
            no-side (hn.blank (left_of_and n (s && (w && e)) t)) (hs.blank (left_of_and s (w && e) r)) (hw.blank (left_of_and w e q))
            (he.blank (right_of_and w e q));
        other = some-side n s w e hn hs hw he;
      }
