-- A square in one corner of four, of which the others are blank, and the side of a box in it.
use Rattle.std.proofs.Common.{◌≡◌, ◌≢◌, inl, inr, ℕ, suc, ◌^◌, Bool, true, false, not, ℤ, pos, neg_ℤ, ◌+ℤ◌, ◌≤ℤ◌, ◌<ℤ◌, refl, arith}
use Rattle.std.proofs.lemmas.Int.{ints}
use Rattle.life_base.specs.Tree.{Tree, quad, depth, blank, IsFull}
use Rattle.life_base.proofs.Basics.{zero_unless}
use Rattle.life_base.proofs.Squares.{depth-blank, full-blank}
use Rattle.life_quad.specs.Refused.{SomePart}
use Rattle.life_quad.specs.declared.id.Id.{Id}
use Rattle.life_pieces.specs.Pieces.{square_from}
use Rattle.life_pieces.specs.Pieces.{IsPiece, step_ahead}
use Rattle.life_pieces.proofs.NeedLemmas.{joined-is, piece-is, quarter-part}
use Rattle.life_pieces.proofs.PieceLemmas.{blank-of_zero}
use Rattle.life_slide.specs.Pieces.{in_corner, side_origin, side_start, start}

-- where the four squares of level j about the middle of the plane begin
abbrev pub middle_start : ℕ → ℤ
middle_start j = neg_ℤ (pos (2 ^ j))

-- where the second or the first two of them begin
abbrev pub quarter_start : Bool → ℕ → ℤ
quarter_start last j = start last (middle_start j) (2 ^ j)

-- a square in one corner of four, and another one everywhere else
abbrev pub corner_square : Bool → Bool → Tree → Tree → Tree
corner_square false false t other = quad t other other other
corner_square true false t other = quad other t other other
corner_square false true t other = quad other other t other
corner_square true true t other = quad other other other t

-- ---- sides of a box

-- the cells of the plane lie in this quarter
abbrev pub AreInQuarter : (ℤ → ℤ → ℕ) → Bool → Bool → ℕ → Type 0
AreInQuarter f e s j =
    (x y : ℤ) → f x y ≢ 0
    → (quarter_start e j ≤ℤ x) × (x <ℤ step_ahead (quarter_start e j) (2 ^ j)) × (quarter_start s j ≤ℤ y) × (y <ℤ step_ahead (quarter_start s j) (2 ^ j))

-- what is within the side of a box is in its quarter, counted from its origin
pub side-in-quarter : (last : Bool) (low high : ℤ) (j : ℕ) → high <ℤ (low +ℤ pos (2 ^ j)) → (x : ℤ) → low ≤ℤ (x +ℤ side_origin last low high)
    → (x +ℤ side_origin last low high) ≤ℤ high
    → (quarter_start (not last) j ≤ℤ x) × (x <ℤ step_ahead (quarter_start (not last) j) (2 ^ j))
side-in-quarter false low high j short x from to = (omega (arith, ints, from), omega (arith, ints, to, short))
side-in-quarter true low high j short x from to = (omega (arith, ints, from, short), omega (arith, ints, to))

-- the quarter begins where the side of its square does
pub side-begins : (last : Bool) (low high : ℤ) (j : ℕ) → side_start last low high j ≡ quarter_start (not last) j +ℤ side_origin last low high
side-begins false low high j = omega (arith, ints)
side-begins true low high j = omega (arith, ints)

pub quarter-inside : (last : Bool) (j : ℕ) (x : ℤ) → quarter_start last j ≤ℤ x → x <ℤ step_ahead (quarter_start last j) (2 ^ j)
    → (neg_ℤ (pos (2 ^ j)) ≤ℤ x) × (x <ℤ pos (2 ^ j))
quarter-inside false j x from to = (omega (arith, ints, from), omega (arith, ints, to))
quarter-inside true j x from to = (omega (arith, ints, from), omega (arith, ints, to))

-- the end of a side that is farther from its origin
abbrev pub far_end : Bool → ℤ → ℤ → ℤ
far_end false low high = high
far_end true low high = low

-- it isn't near the origin, if the side is long
pub far-from-origin : (last : Bool) (low high : ℤ) (n : ℕ) → (low +ℤ pos n) ≤ℤ high
    → neg_ℤ (pos n) ≤ℤ (far_end last low high +ℤ neg_ℤ (side_origin last low high))
    → (far_end last low high +ℤ neg_ℤ (side_origin last low high)) <ℤ pos n → ⊥
far-from-origin false low high n long from to = omega (arith, ints, long, to)
far-from-origin true low high n long from to = omega (arith, ints, long, from)

-- ---- the quarter and the whole

module _ (f : ℤ → ℤ → ℕ) (j : ℕ) (inner : Tree) (full : IsFull inner) (level : depth inner ≡ j) where
  abbrev c : ℤ
  c = middle_start j

  blank-at : (u v : ℤ) → ((x y : ℤ) → f x y ≢ 0 → u ≤ℤ x → x <ℤ step_ahead u (2 ^ j) → v ≤ℤ y → y <ℤ step_ahead v (2 ^ j) → ⊥) → blank j ≡ square_from f j u v
  blank-at u v none =
      piece-is f j u v (blank j) (full-blank j) (depth-blank j)
      (blank-of_zero f j u v (record { zero_at = λ x y w e n s. zero_unless _ (λ some. none x y some w e n s) }))

  -- a square that has all cells of the plane is a quarter of that about the middle
  pub corner-is : (e s : Bool) → AreInQuarter f e s j → IsPiece f (quarter_start e j) (quarter_start s j) inner
      → corner_square e s inner (blank j) ≡ square_from f (suc j) (middle_start j) (middle_start j)
  corner-is false false all piece =
      joined-is (record {
        nw = piece-is f j _ _ inner full level piece;
        ne = blank-at _ _ (λ x y some w e n s. let i = (all x y some).1 in omega (arith, ints, i, w));
        sw = blank-at _ _ (λ x y some w e n s. let i = (all x y some).3 in omega (arith, ints, i, n));
        se = blank-at _ _ (λ x y some w e n s. let i = (all x y some).1 in omega (arith, ints, i, w));
      })
  corner-is true false all piece =
      joined-is (record {
        nw = blank-at _ _ (λ x y some w e n s. let i = (all x y some).0 in omega (arith, ints, i, e));
        ne = piece-is f j _ _ inner full level piece;
        sw = blank-at _ _ (λ x y some w e n s. let i = (all x y some).0 in omega (arith, ints, i, e));
        se = blank-at _ _ (λ x y some w e n s. let i = (all x y some).3 in omega (arith, ints, i, n));
      })
  corner-is false true all piece =
      joined-is (record {
        nw = blank-at _ _ (λ x y some w e n s. let i = (all x y some).2 in omega (arith, ints, i, s));
        ne = blank-at _ _ (λ x y some w e n s. let i = (all x y some).1 in omega (arith, ints, i, w));
        sw = piece-is f j _ _ inner full level piece;
        se = blank-at _ _ (λ x y some w e n s. let i = (all x y some).1 in omega (arith, ints, i, w));
      })
  corner-is true true all piece =
      joined-is (record {
        nw = blank-at _ _ (λ x y some w e n s. let i = (all x y some).0 in omega (arith, ints, i, e));
        ne = blank-at _ _ (λ x y some w e n s. let i = (all x y some).2 in omega (arith, ints, i, s));
        sw = blank-at _ _ (λ x y some w e n s. let i = (all x y some).0 in omega (arith, ints, i, e));
        se = piece-is f j _ _ inner full level piece;
      })

-- a part of the quarter is one of the whole
pub corner-part : (P : Tree → Type 0) (f : ℤ → ℤ → ℕ) (j : ℕ) (e s : Bool) → SomePart P (square_from f j (quarter_start e j) (quarter_start s j))
    → SomePart P (square_from f (suc j) (middle_start j) (middle_start j))
corner-part P f j false false p = quarter-part P f j _ _ (inl p)
corner-part P f j true false p = quarter-part P f j _ _ (inr (inl p))
corner-part P f j false true p = quarter-part P f j _ _ (inr (inr (inl p)))
corner-part P f j true true p = quarter-part P f j _ _ (inr (inr (inr p)))

-- the square of four Ids
pub corner-joined : (content : Id → Tree) (e s : Bool) (id other : Id) → let four = in_corner e s id other in
    quad (content four.nw) (content four.ne) (content four.sw) (content four.se) ≡ corner_square e s (content id) (content other)
corner-joined content false false id other = refl
corner-joined content true false id other = refl
corner-joined content false true id other = refl
corner-joined content true true id other = refl
