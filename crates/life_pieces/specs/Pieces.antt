-- Squares as pieces of a plane of cells, and squares side by side.
use Rattle.std.specs.Prelude.{◌≡◌, ℕ, ◌^◌, ◌<◌, ℤ, pos, neg_ℤ, ◌+ℤ◌, zero, suc, List, [], ◌∷◌}
use Rattle.life_base.specs.Tree.{Tree, point, quad, depth}
use Rattle.life_quad.specs.declared.id.Id.{Id}
use Rattle.life_pieces.specs.declared.grid.Three.{Three}
use Rattle.life_pieces.specs.declared.grid.Four.{Four}

-- a square amid its eight neighbours, and four rows of four squares
abbrev pub Nine : Type 0
Nine = Three (Three Id)

abbrev pub Sixteen : Type 0
Sixteen = Four (Four Id)

-- the square has the states of the plane from the column x and the row y on
abbrev pub IsPiece : (ℤ → ℤ → ℕ) → ℤ → ℤ → Tree → Type 0
IsPiece cells x y (point s) = s ≡ cells x y
IsPiece cells x y (quad nw ne sw se) =
    IsPiece cells x y nw × IsPiece cells (x +ℤ pos (2 ^ depth nw)) y ne × IsPiece cells x (y +ℤ pos (2 ^ depth nw)) sw
    × IsPiece cells (x +ℤ pos (2 ^ depth nw)) (y +ℤ pos (2 ^ depth nw)) se

-- every state is 0 or 1
abbrev pub IsBinary : (ℤ → ℤ → ℕ) → Type 0
IsBinary cells = (x y : ℤ) → cells x y < 2

-- the square is this one, where it has only such states
abbrev pub IsWhereBinary : Tree → Tree → Type 0
IsWhereBinary t u = (cells : ℤ → ℤ → ℕ) (x y : ℤ) → IsBinary cells → IsPiece cells x y t → t ≡ u

-- so far west or north
abbrev pub step_back : ℤ → ℕ → ℤ
step_back x side = x +ℤ neg_ℤ (pos side)

-- so far east or south
abbrev pub step_ahead : ℤ → ℕ → ℤ
step_ahead x side = x +ℤ pos side

-- the square of level k with the states of the plane from the column x and the row y on
unfoldable pub square_from : (ℤ → ℤ → ℕ) → ℕ → ℤ → ℤ → Tree
square_from cells zero x y = point (cells x y)
square_from cells (suc k) x y =
    quad
    (square_from cells k x y)
    (square_from cells k (step_ahead x (2 ^ k)) y)
    (square_from cells k x (step_ahead y (2 ^ k)))
    (square_from cells k (step_ahead x (2 ^ k)) (step_ahead y (2 ^ k)))

-- four values side by side
abbrev pub four_of : {T : Type 0} → T → T → T → T → Four T
four_of a b c d = record { first = a; second = b; third = c; fourth = d }

-- the first three and the last three of them
abbrev pub first_three : {T : Type 0} → Four T → Three T
first_three four = record { before = four.first; here = four.second; after = four.third }

abbrev pub last_three : {T : Type 0} → Four T → Three T
last_three four = record { before = four.second; here = four.third; after = four.fourth }

-- the three western and the three eastern values of each of three rows
abbrev pub western : {T : Type 0} → Three (Four T) → Three (Three T)
western rows = record { before = first_three rows.before; here = first_three rows.here; after = first_three rows.after }

abbrev pub eastern : {T : Type 0} → Three (Four T) → Three (Three T)
eastern rows = record { before = last_three rows.before; here = last_three rows.here; after = last_three rows.after }

-- the nine squares, row by row
abbrev pub ids_of_nine : Nine → List Id
ids_of_nine nine =
    nine.before.before ∷ nine.before.here ∷ nine.before.after
    ∷ nine.here.before ∷ nine.here.here ∷ nine.here.after
    ∷ nine.after.before ∷ nine.after.here ∷ nine.after.after ∷ []

-- a known square of this level
pub record IsOfLevel (knows : Id → Type 0) (content : Id → Tree) (k : ℕ) (id : Id) : Type 0 where
  pub known : knows id
  pub level : depth (content id) ≡ k

-- each of the values has a property
pub record InThree {T : Type 0} (P : T → Type 0) (three : Three T) : Type 0 where
  pub before : P three.before
  pub here : P three.here
  pub after : P three.after

pub record InFour {T : Type 0} (P : T → Type 0) (four : Four T) : Type 0 where
  pub first : P four.first
  pub second : P four.second
  pub third : P four.third
  pub fourth : P four.fourth

-- each square of each row has it
abbrev pub InNine : (Id → Type 0) → Nine → Type 0
InNine P = InThree (InThree P)

abbrev pub InSixteen : (Id → Type 0) → Sixteen → Type 0
InSixteen P = InFour (InFour P)

-- each of the values has a property of its place: the middle one, or the first of the two in the middle, is at this one, and each of the others a
-- side length further
module _ {T : Type 0} (P : ℤ → T → Type 0) (side : ℕ) (place : ℤ) where
  pub record AreThreeAt (three : Three T) : Type 0 where
    pub before : P (step_back place side) three.before
    pub here : P place three.here
    pub after : P (step_ahead place side) three.after

  pub record AreFourAt (four : Four T) : Type 0 where
    pub first : P (step_back place side) four.first
    pub second : P place four.second
    pub third : P (step_ahead place side) four.third
    pub fourth : P (step_ahead (step_ahead place side) side) four.fourth

-- squares of one side length as pieces of the plane, of which the middle one, or the western one of the two in the middle, begins in the column x
-- and the row y
module _ (content : Id → Tree) (cells : ℤ → ℤ → ℕ) (side : ℕ) (x : ℤ) where
  abbrev pub AreThree : ℤ → Three Id → Type 0
  AreThree y = AreThreeAt (λ column id. IsPiece cells column y (content id)) side x

  abbrev pub AreNine : ℤ → Nine → Type 0
  AreNine = AreThreeAt AreThree side

  abbrev pub AreFour : ℤ → Four Id → Type 0
  AreFour y = AreFourAt (λ column id. IsPiece cells column y (content id)) side x

  abbrev pub AreSixteen : ℤ → Sixteen → Type 0
  AreSixteen = AreFourAt AreFour side
