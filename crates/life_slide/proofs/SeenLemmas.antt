-- Four squares of which some are replaced by blank ones, because the square that begins in the first of them sees no cell of them.
use Rattle.std.proofs.Common.{◌≡◌, ℕ, zero, suc, ◌+◌, ◌^◌, ◌<◌, Bool, true, false, ℤ, ◌≤ℤ◌, ◌<ℤ◌, refl, sym, ◌∙◌, ap, subst, arith, if◌then◌else◌, int_lt}
use Rattle.std.proofs.lemmas.Int.{ints, by_lt_z}
use Rattle.life_base.specs.Tree.{Tree, point, depth, blank, IsFull}
use Rattle.life_base.proofs.Basics.{lt-int_lt}
use Rattle.life_base.proofs.Squares.{same_quads}
use Rattle.life_quad.specs.declared.id.Id.{Id}
use Rattle.life_quad.specs.declared.moves.Quarters.{Quarters}
use Rattle.life_pieces.specs.Pieces.{square_from}
use Rattle.life_pieces.specs.Pieces.{IsPiece, step_ahead}
use Rattle.life_pieces.proofs.NeedLemmas.{is-piece, piece-is}
use Rattle.life_pieces.proofs.PieceLemmas.{blank-of_zero}
use Rattle.life_slide.specs.declared.margins.Margins.{Margins}
use Rattle.life_slide.specs.Margins.{AreMarginsOf, IsOnSide, IsSeenOrOther}
use Rattle.life_slide.specs.Pieces.{InBlock, IsBlock}
use Rattle.life_slide.proofs.MarginLemmas.{missed}

-- two planes with the same cells in a square
pub square-agrees : (f g : ℤ → ℤ → ℕ) (k : ℕ) (x y : ℤ)
    → ((u v : ℤ) → x ≤ℤ u → u <ℤ step_ahead x (2 ^ k) → y ≤ℤ v → v <ℤ step_ahead y (2 ^ k) → f u v ≡ g u v) → square_from f k x y ≡ square_from g k x y
unfolding square_from
square-agrees f g zero x y h = ap point (h x y (omega (arith, ints)) (omega (arith, ints)) (omega (arith, ints)) (omega (arith, ints)))
square-agrees f g (suc k) x y h =
    let double : 2 ^ suc k ≡ 2 ^ k + 2 ^ k = grind arith in
    same_quads
    (square-agrees f g k x y (λ u v a b c d. h u v a (omega (arith, ints, b, double)) c (omega (arith, ints, d, double))))
    (square-agrees f g k _ y (λ u v a b c d. h u v (omega (arith, ints, a)) (omega (arith, ints, b, double)) c (omega (arith, ints, d, double))))
    (square-agrees f g k x _ (λ u v a b c d. h u v a (omega (arith, ints, b, double)) (omega (arith, ints, c)) (omega (arith, ints, d, double))))
    (square-agrees f g k _ _ (λ u v a b c d.
    h u v (omega (arith, ints, a)) (omega (arith, ints, b, double)) (omega (arith, ints, c)) (omega (arith, ints, d, double))))

behind-test : (u m : ℤ) → m ≤ℤ u → int_lt u m ≡ false
behind-test u m h = grind (arith, ints, h)

-- the plane without the cells in those quarters of it, about the middle of four squares, in which the square isn't kept
module _ (f : ℤ → ℤ → ℕ) (nw ne sw se : Bool) (x y : ℤ) (side : ℕ) where
  abbrev pub kept_cells : ℤ → ℤ → ℕ
  kept_cells u v =
      if (if int_lt v (step_ahead y side) then (if int_lt u (step_ahead x side) then nw else ne) else (if int_lt u (step_ahead x side) then sw else se)) then f
      u v else 0

  pub in-nw : (u v : ℤ) → u <ℤ step_ahead x side → v <ℤ step_ahead y side → kept_cells u v ≡ (if nw then f u v else 0)
  in-nw u v h k =
      let a = lt-int_lt u (step_ahead x side) h in
      let b = lt-int_lt v (step_ahead y side) k in
      (λ i. if (if b i then (if a i then nw else ne) else (if a i then sw else se)) then f u v else 0)

  pub in-ne : (u v : ℤ) → step_ahead x side ≤ℤ u → v <ℤ step_ahead y side → kept_cells u v ≡ (if ne then f u v else 0)
  in-ne u v h k =
      let a = behind-test u (step_ahead x side) h in
      let b = lt-int_lt v (step_ahead y side) k in
      (λ i. if (if b i then (if a i then nw else ne) else (if a i then sw else se)) then f u v else 0)

  pub in-sw : (u v : ℤ) → u <ℤ step_ahead x side → step_ahead y side ≤ℤ v → kept_cells u v ≡ (if sw then f u v else 0)
  in-sw u v h k =
      let a = lt-int_lt u (step_ahead x side) h in
      let b = behind-test v (step_ahead y side) k in
      (λ i. if (if b i then (if a i then nw else ne) else (if a i then sw else se)) then f u v else 0)

  pub in-se : (u v : ℤ) → step_ahead x side ≤ℤ u → step_ahead y side ≤ℤ v → kept_cells u v ≡ (if se then f u v else 0)
  in-se u v h k =
      let a = behind-test u (step_ahead x side) h in
      let b = behind-test v (step_ahead y side) k in
      (λ i. if (if b i then (if a i then nw else ne) else (if a i then sw else se)) then f u v else 0)

-- a square that is kept, or a blank one for it, on a plane that has its cells, or none there
kept-piece : (f g : ℤ → ℤ → ℕ) (content : Id → Tree) (k : ℕ) (keeps : Bool) (u v : ℤ) (id other result : Id) → content other ≡ blank k
    → IsFull (content id) → depth (content id) ≡ k → result ≡ (if keeps then id else other)
    → ((i j : ℤ) → u ≤ℤ i → i <ℤ step_ahead u (2 ^ k) → v ≤ℤ j → j <ℤ step_ahead v (2 ^ k) → g i j ≡ (if keeps then f i j else 0))
    → IsPiece f u v (content id) → IsPiece g u v (content result)
kept-piece f g content k true u v id other result is full level e same p =
    subst (λ q. IsPiece g u v (content q)) (sym e) (is-piece g k u v (content id)
    (piece-is f k u v (content id) full level p ∙ square-agrees f g k u v (λ i j a b c d. sym (same i j a b c d))))
kept-piece f g content k false u v id other result is full level e same p =
    subst (λ q. IsPiece g u v (content q)) (sym e) (subst (IsPiece g u v) (sym is) (blank-of_zero g k u v (record { zero_at = same })))

-- a cell that is kept, or is no cell
agrees : (keeps : Bool) (m n : ℕ) → n ≡ (if keeps then m else 0) → (keeps ≡ false → m ≡ 0) → n ≡ m
agrees true m n e h = e
agrees false m n e h = e ∙ sym (h refl)

pub kept-at : (P : Id → Type 0) (keeps : Bool) (id other result : Id) → result ≡ (if keeps then id else other) → P id → P other → P result
kept-at P true id other result e p o = subst P (sym e) p
kept-at P false id other result e p o = subst P (sym e) o

-- the four squares on that plane, and the square that sees no cell that is gone
module _ (content : Id → Tree) (f : ℤ → ℤ → ℕ) (k : ℕ) (x y : ℤ) (columns rows : ℕ) (q r : Quarters) (other : Id) (is : content other ≡ blank k)
    (nw ne sw se : Margins) (known : InBlock (λ id. IsFull (content id) × (depth (content id) ≡ k)) q) (h : IsBlock content f (2 ^ k) x y q)
    (a : IsSeenOrOther false false columns rows (2 ^ k) nw q.nw other r.nw) (b : IsSeenOrOther true false columns rows (2 ^ k) ne q.ne other r.ne)
    (c : IsSeenOrOther false true columns rows (2 ^ k) sw q.sw other r.sw) (d : IsSeenOrOther true true columns rows (2 ^ k) se q.se other r.se) where
  abbrev pub seen_cells : ℤ → ℤ → ℕ
  seen_cells = kept_cells f a.keeps b.keeps c.keeps d.keeps x y (2 ^ k)

  pub seen-block : IsBlock content seen_cells (2 ^ k) x y r
  seen-block = record {
    nw = kept-piece f seen_cells content k a.keeps x y q.nw other r.nw is known.nw.0 known.nw.1 a.is
        (λ i j w e n s. in-nw f a.keeps b.keeps c.keeps d.keeps x y (2 ^ k) i j e s) h.nw;
    ne = kept-piece f seen_cells content k b.keeps _ y q.ne other r.ne is known.ne.0 known.ne.1 b.is
        (λ i j w e n s. in-ne f a.keeps b.keeps c.keeps d.keeps x y (2 ^ k) i j w s) h.ne;
    sw = kept-piece f seen_cells content k c.keeps x _ q.sw other r.sw is known.sw.0 known.sw.1 c.is
        (λ i j w e n s. in-sw f a.keeps b.keeps c.keeps d.keeps x y (2 ^ k) i j e n) h.sw;
    se = kept-piece f seen_cells content k d.keeps _ _ q.se other r.se is known.se.0 known.se.1 d.is
        (λ i j w e n s. in-se f a.keeps b.keeps c.keeps d.keeps x y (2 ^ k) i j w n) h.se;
  }

  module _ (lc : columns < 2 ^ k) (lr : rows < 2 ^ k) (ma : AreMarginsOf (content q.nw) nw) (mb : AreMarginsOf (content q.ne) ne)
      (mc : AreMarginsOf (content q.sw) sw) (md : AreMarginsOf (content q.se) se) where
    same-cell : (u v : ℤ) → step_ahead x columns ≤ℤ u → u <ℤ step_ahead (step_ahead x columns) (2 ^ k) → step_ahead y rows ≤ℤ v
        → v <ℤ step_ahead (step_ahead y rows) (2 ^ k)
        → seen_cells u v ≡ f u v
    same-cell u v w e n s =
        by_lt_z u (step_ahead x (2 ^ k))
        (λ lu. by_lt_z v (step_ahead y (2 ^ k))
        (λ lv. agrees a.keeps _ _ (in-nw f a.keeps b.keeps c.keeps d.keeps x y (2 ^ k) u v lu lv)
        (λ gone. missed _ k nw false false columns rows known.nw.1 ma (a.missed gone) f x y h.nw u v (first x columns u w lu) (first y rows v n lv) w n))
        (λ lv. agrees c.keeps _ _ (in-sw f a.keeps b.keeps c.keeps d.keeps x y (2 ^ k) u v lu lv)
        (λ gone. missed _ k sw false true columns rows known.sw.1 mc (c.missed gone) f x _ h.sw u v (first x columns u w lu) (last y rows v s lr lv) w
        (turned y rows v s))))
        (λ lu. by_lt_z v (step_ahead y (2 ^ k))
        (λ lv. agrees b.keeps _ _ (in-ne f a.keeps b.keeps c.keeps d.keeps x y (2 ^ k) u v lu lv)
        (λ gone. missed _ k ne true false columns rows known.ne.1 mb (b.missed gone) f _ y h.ne u v (last x columns u e lc lu) (first y rows v n lv)
        (turned x columns u e) n))
        (λ lv. agrees d.keeps _ _ (in-se f a.keeps b.keeps c.keeps d.keeps x y (2 ^ k) u v lu lv)
        (λ gone. missed _ k se true true columns rows known.se.1 md (d.missed gone) f _ _ h.se u v (last x columns u e lc lu) (last y rows v s lr lv)
        (turned x columns u e) (turned y rows v s))))
      where
        first : (z : ℤ) (n : ℕ) (u : ℤ) → step_ahead z n ≤ℤ u → u <ℤ step_ahead z (2 ^ k) → IsOnSide z (2 ^ k) u
        first z n u w l = record { from = omega (arith, ints, w); to = l }

        last : (z : ℤ) (n : ℕ) (u : ℤ) → u <ℤ step_ahead (step_ahead z n) (2 ^ k) → n < 2 ^ k → step_ahead z (2 ^ k) ≤ℤ u
            → IsOnSide (step_ahead z (2 ^ k)) (2 ^ k) u
        last z n u e l w = record { from = w; to = omega (arith, ints, e, l) }

        turned : (z : ℤ) (n : ℕ) (u : ℤ) → u <ℤ step_ahead (step_ahead z n) (2 ^ k) → u <ℤ step_ahead (step_ahead z (2 ^ k)) n
        turned z n u e = omega (arith, ints, e)

    pub seen-same : square_from seen_cells k (step_ahead x columns) (step_ahead y rows) ≡ square_from f k (step_ahead x columns) (step_ahead y rows)
    seen-same = square-agrees seen_cells f k _ _ same-cell
