-- What a leap returns: the square in the middle of a square, many generations later.
use Rattle.std.specs.Prelude.{◌≡◌, ◌≢◌, ℕ, ◌+◌, ◌-◌, ◌^◌, ℤ, pos, neg_ℤ, ◌≤ℤ◌, ◌<ℤ◌, ◌≤◌, Option, Some}
use Rattle.life_base.specs.Sets.{OuterTotalistic}
use Rattle.life_base.specs.Tree.{Tree, half_side, tree_cell}
use Rattle.life_quad.specs.declared.id.Id.{Id}
use Rattle.life_pieces.specs.Pieces.{IsPiece, IsBinary, IsOfLevel, step_ahead, step_back}
use Rattle.life_leap.specs.After.{after, leap_length, IsBlankBeyond}
use Rattle.life_leap.specs.Grid.{NineIds, SixteenIds, AreNineSquares, AreSixteenSquares, AreThreeSquares, AreFourSquares, IsBlockAt}
use Rattle.life_quad.specs.declared.moves.Quarters.{Quarters}
use Rattle.life_leap.specs.declared.grid.Triple.{Triple}
use Rattle.life_leap.specs.declared.grid.Row.{Row}

-- Wherever on a plane the first square is, the second square has the states n generations later of the places that begin `side` columns and rows after the
-- beginning of the first.
pub record IsMiddleAfter (rule : OuterTotalistic) (n side : ℕ) (t u : Tree) : Type 0 where
  pub later : (cells : ℤ → ℤ → ℕ) (x y : ℤ) → IsBinary cells → IsPiece cells x y t → IsPiece (after rule n cells) (step_ahead x side) (step_ahead y side) u

-- the same of three squares
pub record AreThreeMiddles (rule : OuterTotalistic) (n side : ℕ) (old next : Id → Tree) (ids answers : Triple Id) : Type 0 where
  pub first : IsMiddleAfter rule n side (old ids.first) (next answers.first)
  pub second : IsMiddleAfter rule n side (old ids.second) (next answers.second)
  pub third : IsMiddleAfter rule n side (old ids.third) (next answers.third)

-- the same of nine squares
pub record IsMiddleOfNine (rule : OuterTotalistic) (n side : ℕ) (content : Id → Tree) (k : ℕ) (nine : NineIds) (u : Tree) : Type 0 where
  pub later : (cells : ℤ → ℤ → ℕ) (x y : ℤ) → IsBinary cells → AreNineSquares content cells (2 ^ k) x y nine
      → IsPiece (after rule n cells) (step_ahead x side) (step_ahead y side) u

module _ (knows : Id → Type 0) (content : Id → Tree) (rule : OuterTotalistic) (pace : ℕ) where
  -- a known square, and the square in its middle after a leap
  pub record IsLeapAnswer (id answer : Id) : Type 0 where
    pub level : ℕ
    pub known : IsOfLevel knows content (level + 2) id
    pub at : IsOfLevel knows content (level + 1) answer
    pub right : IsMiddleAfter rule (leap_length pace (level + 2)) (2 ^ level) (content id) (content answer)

  -- what a memory may have for a square: the right answer, or none
  abbrev pub IsRememberedLeap : Id → Option Id → Type 0
  IsRememberedLeap id value = (answer : Id) → value ≡ Some answer → IsLeapAnswer id answer

  -- each answer that is remembered is right
  abbrev pub RemembersLeaps : (Id → Option Id) → Type 0
  RemembersLeaps memory = (id : Id) → IsRememberedLeap id (memory id)

-- the same of four squares of level k, two by two
pub record IsMiddleOfBlock (rule : OuterTotalistic) (n side : ℕ) (content : Id → Tree) (k : ℕ) (block : Quarters) (u : Tree) : Type 0 where
  pub later : (cells : ℤ → ℤ → ℕ) (x y : ℤ) → IsBinary cells → IsBlockAt content cells (2 ^ k) x y block
      → IsPiece (after rule n cells) (step_ahead x side) (step_ahead y side) u

-- three squares are those in the middle of each block of two by two among two rows of four squares of level k
pub record AreMiddlesOfRows (rule : OuterTotalistic) (n side : ℕ) (content next : Id → Tree) (k : ℕ) (north south : Row Id) (three : Triple Id) : Type 0 where
  pub later : (cells : ℤ → ℤ → ℕ) (x y : ℤ) → IsBinary cells → AreFourSquares content cells (2 ^ k) x y north
      → AreFourSquares content cells (2 ^ k) x (step_ahead y (2 ^ k)) south
      → AreThreeSquares next (after rule n cells) (2 ^ k) (step_ahead x side) (step_ahead y side) three

-- nine squares are those in the middle of each block of two by two among sixteen squares of level k
pub record AreMiddlesOfSixteen (rule : OuterTotalistic) (n side : ℕ) (content next : Id → Tree) (k : ℕ) (sixteen : SixteenIds) (nine : NineIds) : Type 0 where
  pub later : (cells : ℤ → ℤ → ℕ) (x y : ℤ) → IsBinary cells → AreSixteenSquares content cells (2 ^ k) x y sixteen
      → AreNineSquares next (after rule n cells) (2 ^ k) (step_ahead x side) (step_ahead y side) nine

-- the first part of a leap of a square of level k + 2: its generations, and those of a leap of a square of level k + 1, are those of the whole leap
pub record IsFirstPart (rule : OuterTotalistic) (pace : ℕ) (content next : Id → Tree) (k : ℕ) (sixteen : SixteenIds) (nine : NineIds) : Type 0 where
  pub generations : ℕ
  pub rest : leap_length pace (k + 1) + generations ≡ leap_length pace (k + 2)
  pub middles : AreMiddlesOfSixteen rule generations (2 ^ (k - 1)) content next k sixteen nine

-- four squares side by side, with a blank one at each end of the row
pub record HasEnds (content : Id → Tree) (cells : ℤ → ℤ → ℕ) (side : ℕ) (x y : ℤ) (blank : Id) (row : Row Id) : Type 0 where
  pub row_is : AreFourSquares content cells side x y row
  pub west : IsPiece cells (step_back x side) y (content blank)
  pub east : IsPiece cells (step_ahead (step_ahead (step_ahead (step_ahead x side) side) side) side) y (content blank)

-- every state outside the square that begins in this column and this row is 0
abbrev pub IsBlankSquareBeyond : (ℤ → ℤ → ℕ) → ℤ → ℕ → Type 0
IsBlankSquareBeyond cells start side = IsBlankBeyond cells start start (step_ahead start side) (step_ahead start side)

-- beyond each cell that isn't 0 the square has at least n columns and rows on each side, so that none can leave the square in n generations
abbrev pub HasMargin : ℕ → Tree → Type 0
HasMargin n t =
    (x y : ℤ) → tree_cell t x y ≢ 0
    → (neg_ℤ (pos (half_side t)) ≤ℤ step_back x n) × (step_ahead x n <ℤ pos (half_side t)) × (neg_ℤ (pos (half_side t)) ≤ℤ step_back y n)
    × (step_ahead y n <ℤ pos (half_side t))

-- The two parts of a leap: the first part leads from sixteen squares to the nine in the middle of their blocks, and the second from these to the four in the
-- middle of theirs. Together they lead from the square of the sixteen to the one in its middle, by all generations of the leap.
abbrev pub LeapsDouble : Type 0
LeapsDouble =
    (rule : OuterTotalistic) (pace k : ℕ) (old next : Id → Tree) (t u : Tree) (sixteen : SixteenIds) (nine : NineIds) → 1 ≤ k
    → ((cells : ℤ → ℤ → ℕ) (x y : ℤ) → IsPiece cells x y t → AreSixteenSquares old cells (2 ^ k) x y sixteen)
    → IsFirstPart rule pace old next k sixteen nine
    → IsMiddleOfNine rule (leap_length pace (k + 1)) (2 ^ (k - 1)) next k nine u
    → IsMiddleAfter rule (leap_length pace (k + 2)) (2 ^ k) t u

-- beyond each cell that isn't 0 the plane has at least n columns and rows on each side, so that none can leave the plane in n generations
abbrev pub HasPlaneMargin : ℕ → Tree → Type 0
HasPlaneMargin n t =
    (x y : ℤ) → tree_cell t x y ≢ 0
    → (neg_ℤ (pos (2 ^ 61)) ≤ℤ step_back x n) × (step_ahead x n <ℤ pos (2 ^ 61)) × (neg_ℤ (pos (2 ^ 61)) ≤ℤ step_back y n)
    × (step_ahead y n <ℤ pos (2 ^ 61))
