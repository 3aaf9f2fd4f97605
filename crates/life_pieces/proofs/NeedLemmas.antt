-- The square with the states of the plane, and its parts: those that a call stores, and those that a refused call lacked.
use Rattle.std.proofs.Common.{◌≡◌, ◌⊎◌, ℕ, zero, suc, ◌^◌, inl, inr, ℤ, List, refl, sym, ◌∙◌, ap, subst, arith, ◌<◌}
use Rattle.life_base.specs.Tree.{Tree, point, quad, depth, IsFull}
use Rattle.life_quad.specs.Keeping.{KeepsSquares, AddsOnly}
use Rattle.life_quad.specs.Refused.{SomePart}
use Rattle.life_quad.specs.declared.id.Id.{Id}
use Rattle.life_quad.proofs.KeepingLemmas.{keeps-then, adds-then}
use Rattle.life_pieces.specs.Pieces.{square_from, IsPiece, IsOfLevel, step_ahead}
use Rattle.life_pieces.proofs.PieceLemmas.{IsPiece-moved, IsPiece-joined}
use Rattle.life_base.proofs.Squares.{same_quads}

-- a piece is the square of its level
pub piece-is : (f : ℤ → ℤ → ℕ) (k : ℕ) (x y : ℤ) (t : Tree) → IsFull t → depth t ≡ k → IsPiece f x y t → t ≡ square_from f k x y
unfolding square_from
piece-is f zero x y (point s) full level h = ap point h
piece-is f zero x y (quad a b c d) full level h = absurd (omega (arith, level))
piece-is f (suc k) x y (point s) full level h = absurd (omega (arith, level))
piece-is f (suc k) x y (quad a b c d) full level h =
    let one : depth a ≡ k = omega (arith, level) in
    let side : 2 ^ depth a ≡ 2 ^ k = ap (λ n. 2 ^ n) one in
    let ex : step_ahead x (2 ^ depth a) ≡ step_ahead x (2 ^ k) = ap (step_ahead x) side in
    let ey : step_ahead y (2 ^ depth a) ≡ step_ahead y (2 ^ k) = ap (step_ahead y) side in
    same_quads
    (piece-is f k x y a full.0 one h.0)
    (piece-is f k (step_ahead x (2 ^ k)) y b full.1 (full.4 ∙ one) (IsPiece-moved f _ _ y y b ex refl h.1))
    (piece-is f k x (step_ahead y (2 ^ k)) c full.2 (full.5 ∙ one) (IsPiece-moved f x x _ _ c refl ey h.2))
    (piece-is f k (step_ahead x (2 ^ k)) (step_ahead y (2 ^ k)) d full.3 (full.6 ∙ one) (IsPiece-moved f _ _ _ _ d ex ey h.3))

-- and that square is of its level, and a piece
pub depth-square : (f : ℤ → ℤ → ℕ) (k : ℕ) (x y : ℤ) → depth (square_from f k x y) ≡ k
unfolding square_from
depth-square f zero x y = refl
depth-square f (suc k) x y = ap suc (depth-square f k x y)

pub square-piece : (f : ℤ → ℤ → ℕ) (k : ℕ) (x y : ℤ) → IsPiece f x y (square_from f k x y)
unfolding square_from
square-piece f zero x y = refl
square-piece f (suc k) x y =
    IsPiece-joined f x y _ _ _ _ _ k (depth-square f k x y) refl (square-piece f k x y) (square-piece f k (step_ahead x (2 ^ k)) y)
    (square-piece f k x (step_ahead y (2 ^ k)))
    (square-piece f k (step_ahead x (2 ^ k)) (step_ahead y (2 ^ k)))

pub full-square : (f : ℤ → ℤ → ℕ) → ((x y : ℤ) → f x y < 256) → (k : ℕ) (x y : ℤ) → IsFull (square_from f k x y)
unfolding square_from
full-square f small zero x y = small x y
full-square f small (suc k) x y =
    let same : (u v : ℤ) → depth (square_from f k u v) ≡ depth (square_from f k x y) = (λ u v. depth-square f k u v ∙ sym (depth-square f k x y)) in
    (full-square f small k x y, full-square f small k _ y, full-square f small k x _, full-square f small k _ _, same _ y, same x _, same _ _)

pub is-piece : (f : ℤ → ℤ → ℕ) (k : ℕ) (x y : ℤ) (t : Tree) → t ≡ square_from f k x y → IsPiece f x y t
is-piece f k x y t e = subst (IsPiece f x y) (sym e) (square-piece f k x y)

-- ---- four squares of a level, side by side

pub record AreParts (f : ℤ → ℤ → ℕ) (k : ℕ) (x y : ℤ) (a b c d : Tree) : Type 0 where
  pub nw : a ≡ square_from f k x y
  pub ne : b ≡ square_from f k (step_ahead x (2 ^ k)) y
  pub sw : c ≡ square_from f k x (step_ahead y (2 ^ k))
  pub se : d ≡ square_from f k (step_ahead x (2 ^ k)) (step_ahead y (2 ^ k))

pub joined-is : {f : ℤ → ℤ → ℕ} {k : ℕ} {x y : ℤ} {a b c d : Tree} → AreParts f k x y a b c d → quad a b c d ≡ square_from f (suc k) x y
unfolding square_from
joined-is p = same_quads p.nw p.ne p.sw p.se

-- one of four squares of a level has such a part
abbrev pub SomeOfFour : (Tree → Type 0) → (ℤ → ℤ → ℕ) → ℕ → ℕ → ℤ → ℤ → Type 0
SomeOfFour P f k side x y =
    SomePart P (square_from f k x y) ⊎ SomePart P (square_from f k (step_ahead x side) y) ⊎ SomePart P (square_from f k x (step_ahead y side))
    ⊎ SomePart P (square_from f k (step_ahead x side) (step_ahead y side))

-- the square itself, and a part of a quarter
module _ (P : Tree → Type 0) (f : ℤ → ℤ → ℕ) (k : ℕ) (x y : ℤ) where
  pub own-part : (t : Tree) → t ≡ square_from f (suc k) x y → P t → SomePart P (square_from f (suc k) x y)
  unfolding square_from
  own-part t e p = inl (subst P e p)

  pub quarter-part : SomeOfFour P f k (2 ^ k) x y → SomePart P (square_from f (suc k) x y)
  unfolding square_from
  quarter-part s = inr s

-- ---- answers of calls on a store

module _ {S : Type 0} {knows : S → Id → Type 0} {content : S → Id → Tree} {stored : S → List Tree} {most : S → ℕ} {n : ℕ} (f : ℤ → ℤ → ℕ) (k : ℕ)
    (full : (s : S) (id : Id) → knows s id → IsFull (content s id)) (level : n ≡ k) where
  -- a square that was answered as a piece is the square of its level still, after further calls
  still-is : {s t : S} {id : Id} (x y : ℤ) → KeepsSquares knows content stored most s t → IsOfLevel (knows s) (content s) n id → IsPiece f x y (content s id)
      → content t id ≡ square_from f k x y
  still-is x y keeps at h = (keeps.contents _ at.known).1 ∙ piece-is f k x y _ (full _ _ at.known) (at.level ∙ level) h

  -- four answers of calls after one another
  pub parts-of_pieces : {s t u v : S} {a b c d : Id} (x y : ℤ)
      → KeepsSquares knows content stored most s t → KeepsSquares knows content stored most t u → KeepsSquares knows content stored most u v
      → IsOfLevel (knows s) (content s) n a → IsOfLevel (knows t) (content t) n b → IsOfLevel (knows u) (content u) n c → IsOfLevel (knows v) (content v) n d
      → IsPiece f x y (content s a) → IsPiece f (step_ahead x (2 ^ k)) y (content t b) → IsPiece f x (step_ahead y (2 ^ k)) (content u c)
      → IsPiece f (step_ahead x (2 ^ k)) (step_ahead y (2 ^ k)) (content v d)
      → AreParts f k x y (content v a) (content v b) (content v c) (content v d)
  parts-of_pieces x y st tu uv aa ab ac ad pa pb pc pd =
      record {
        nw = still-is x y (keeps-then st (keeps-then tu uv)) aa pa;
        ne = still-is _ y (keeps-then tu uv) ab pb;
        sw = still-is x _ uv ac pc;
        se = piece-is f k _ _ _ (full _ _ ad.known) (ad.level ∙ level) pd;
      }

-- in a store that stayed as it was
pub still-needs : {X : Type 0} (N : X → Tree → Type 0) (old new : X) (t : Tree) → new ≡ old → N old t → N new t
still-needs N old new t e = subst (λ s. N s t) (sym e)

-- a call after others
pub adds-more : {S : Type 0} {stored : S → List Tree} {M N : (Tree → Type 0) → Type 0} {old mid new : S} → AddsOnly stored M old mid
    → AddsOnly stored N mid new → ((P : Tree → Type 0) → N P → M P) → AddsOnly stored M old new
adds-more {M = M} first second more = adds-then M first second (λ P m. m) more
