-- Squares of level 2 by their cells.
use Rattle.std.proofs.Common.{◌≡◌, ℕ, zero, suc, ◌+◌, ◌-◌, ◌/◌, ◌%◌, ◌<◌, ℤ, pos, ◌+ℤ◌, sym, ◌∙◌, ap, subst, arith}
use Rattle.std.specs.Int.{bit_at}
use Rattle.std.proofs.lemmas.Int.{ints}
use Rattle.life_base.specs.Tree.{Tree, point}
use Rattle.life_quad.specs.Store.{two, four}
use Rattle.life_lanes.specs.Places.{place_in}
use Rattle.life_pieces.specs.Bits.{HasSquareBits}
use Rattle.life_pieces.specs.Pieces.{square_from, IsPiece}
use Rattle.life_base.proofs.Squares.{same_quads}

pub place-small : (r i : ℕ) → r < 4 → i < 4 → place_in r i < 16
place-small r i lr li = omega (arith, lr, li)

module _ (f : ℤ → ℤ → ℕ) (x y : ℤ) (n : ℕ) (small : n < 65536) where
  -- a cell of the plane as a bit
  bit-of : {v : ℕ} {u w : ℤ} → v ≡ f u w → (p : ℕ) (s t : ℤ) → v ≡ bit_at n p → u ≡ s → w ≡ t → bit_at n p ≡ f s t
  bit-of e p s t is eu ew = sym is ∙ e ∙ (λ j. f (eu j) (ew j))

  pub square-of_piece : IsPiece f x y (four n) → HasSquareBits f x y n
  square-of_piece h zero zero lr li = bit-of h.0.0 15 _ _ (omega (arith, small)) (omega (arith, ints)) (omega (arith, ints))
  square-of_piece h zero (suc zero) lr li = bit-of h.0.1 14 _ _ (omega (arith, small)) (omega (arith, ints)) (omega (arith, ints))
  square-of_piece h zero (suc (suc zero)) lr li = bit-of h.1.0 11 _ _ (omega (arith, small)) (omega (arith, ints)) (omega (arith, ints))
  square-of_piece h zero (suc (suc (suc zero))) lr li = bit-of h.1.1 10 _ _ (omega (arith, small)) (omega (arith, ints)) (omega (arith, ints))
  square-of_piece h (suc zero) zero lr li = bit-of h.0.2 13 _ _ (omega (arith, small)) (omega (arith, ints)) (omega (arith, ints))
  square-of_piece h (suc zero) (suc zero) lr li = bit-of h.0.3 12 _ _ (omega (arith, small)) (omega (arith, ints)) (omega (arith, ints))
  square-of_piece h (suc zero) (suc (suc zero)) lr li = bit-of h.1.2 9 _ _ (omega (arith, small)) (omega (arith, ints)) (omega (arith, ints))
  square-of_piece h (suc zero) (suc (suc (suc zero))) lr li = bit-of h.1.3 8 _ _ (omega (arith, small)) (omega (arith, ints)) (omega (arith, ints))
  square-of_piece h (suc (suc zero)) zero lr li = bit-of h.2.0 7 _ _ (omega (arith, small)) (omega (arith, ints)) (omega (arith, ints))
  square-of_piece h (suc (suc zero)) (suc zero) lr li = bit-of h.2.1 6 _ _ (omega (arith, small)) (omega (arith, ints)) (omega (arith, ints))
  square-of_piece h (suc (suc zero)) (suc (suc zero)) lr li = bit-of h.3.0 3 _ _ (omega (arith, small)) (omega (arith, ints)) (omega (arith, ints))
  square-of_piece h (suc (suc zero)) (suc (suc (suc zero))) lr li = bit-of h.3.1 2 _ _ (omega (arith, small)) (omega (arith, ints)) (omega (arith, ints))
  square-of_piece h (suc (suc (suc zero))) zero lr li = bit-of h.2.2 5 _ _ (omega (arith, small)) (omega (arith, ints)) (omega (arith, ints))
  square-of_piece h (suc (suc (suc zero))) (suc zero) lr li = bit-of h.2.3 4 _ _ (omega (arith, small)) (omega (arith, ints)) (omega (arith, ints))
  square-of_piece h (suc (suc (suc zero))) (suc (suc zero)) lr li = bit-of h.3.2 1 _ _ (omega (arith, small)) (omega (arith, ints)) (omega (arith, ints))
  square-of_piece h (suc (suc (suc zero))) (suc (suc (suc zero))) lr li = bit-of h.3.3 0 _ _ (omega (arith, small)) (omega (arith, ints)) (omega (arith, ints))
  square-of_piece h (suc (suc (suc (suc r)))) i lr li = absurd (omega (arith, lr))
  square-of_piece h r (suc (suc (suc (suc i)))) lr li = absurd (omega (arith, li))

  -- a bit as a cell of the plane
  cell-of : {v : ℕ} {s t : ℤ} → HasSquareBits f x y n → (r i : ℕ) → r < 4 → i < 4 → v ≡ bit_at n (15 - place_in r i) → x +ℤ pos i ≡ s → y +ℤ pos r ≡ t
      → point v ≡ point (f s t)
  cell-of h r i lr li is es et = ap point (is ∙ h r i lr li ∙ (λ j. f (es j) (et j)))

  -- four of them as a square of level 1
  quarter : (m : ℕ) {s t : ℤ} → HasSquareBits f x y n → (r i : ℕ) → r < 3 → i < 3 → x +ℤ pos i ≡ s → y +ℤ pos r ≡ t → m / 8 ≡ bit_at n (15 - place_in r i)
      → m / 4 % 2 ≡ bit_at n (15 - place_in r (i + 1)) → m / 2 % 2 ≡ bit_at n (15 - place_in (r + 1) i)
      → m % 2 ≡ bit_at n (15 - place_in (r + 1) (i + 1)) → two m ≡ square_from f 1 s t
  unfolding square_from
  quarter m h r i lr li es et nw ne sw se =
      same_quads
      (cell-of h r i (omega (arith, lr)) (omega (arith, li)) nw es et)
      (cell-of h r (i + 1) (omega (arith, lr)) (omega (arith, li)) ne (omega (arith, ints, es)) et)
      (cell-of h (r + 1) i (omega (arith, lr)) (omega (arith, li)) sw es (omega (arith, ints, et)))
      (cell-of h (r + 1) (i + 1) (omega (arith, lr)) (omega (arith, li)) se (omega (arith, ints, es)) (omega (arith, ints, et)))

  pub square-is : HasSquareBits f x y n → four n ≡ square_from f 2 x y
  unfolding square_from
  square-is h =
      same_quads
      (quarter _ h 0 0 (omega arith) (omega arith) (omega (arith, ints)) (omega (arith, ints)) (omega (arith, small)) (omega arith) (omega arith) (omega arith))
      (quarter _ h 0 2 (omega arith) (omega arith) (omega (arith, ints)) (omega (arith, ints)) (omega arith) (omega arith) (omega arith) (omega arith))
      (quarter _ h 2 0 (omega arith) (omega arith) (omega (arith, ints)) (omega (arith, ints)) (omega arith) (omega arith) (omega arith) (omega arith))
      (quarter _ h 2 2 (omega arith) (omega arith) (omega (arith, ints)) (omega (arith, ints)) (omega arith) (omega arith) (omega arith) (omega arith))

-- of a piece whose cells are those of the number
pub square-of : (f : ℤ → ℤ → ℕ) (x z y : ℤ) (t : Tree) (n : ℕ) → n < 65536 → x ≡ z → t ≡ four n → IsPiece f x y t → HasSquareBits f z y n
square-of f x z y t n small e is h r i lr li =
    square-of_piece f x y n small (subst (IsPiece f x y) is h) r i lr li ∙ ap (λ u. f (u +ℤ pos i) (y +ℤ pos r)) e
