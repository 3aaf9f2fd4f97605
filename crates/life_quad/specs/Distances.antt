-- How far from the sides of a square its nonzero cells lie.
use Rattle.std.specs.Prelude.{◌≡◌, ◌≢◌, ◌⊎◌, ℕ, suc, ◌-◌, ◌^◌, ◌<◌, ◌≤◌, min, Option, Some, None, MatchOption}
use Rattle.life_base.specs.Tree.{Tree, quad, depth, state_at}
use Rattle.life_quad.specs.declared.id.Id.{Id}
use Rattle.life_quad.specs.declared.distances.TheConstants.{UNKNOWN}
use Rattle.life_quad.specs.declared.distances.Side.{Side}
use Rattle.life_quad.specs.declared.distances.Side.TheVariants.{North, South, West, East}

-- a column and a row of the square whose cell has a state other than 0
pub record IsNonzeroAt (t : Tree) (i j : ℕ) : Type 0 where
  pub column : i < 2 ^ depth t
  pub row : j < 2 ^ depth t
  pub state : state_at t i j ≢ 0

-- how many rows or columns lie between a cell of a square, whose side has so many, and the side
abbrev pub distance : Side → ℕ → ℕ → ℕ → ℕ
distance North length i j = j
distance South length i j = length - suc j
distance West length i j = i
distance East length i j = length - suc i

-- some nonzero cell of the square lies so far from the side
pub record HasCellAt (side : Side) (t : Tree) (n : ℕ) : Type 0 where
  pub column : ℕ
  pub row : ℕ
  pub cell : IsNonzeroAt t column row
  pub far : distance side (2 ^ depth t) column row ≡ n

-- some nonzero cell of two squares lies so far from the side of its square
abbrev pub HasCellInTwo : Side → Tree → Tree → ℕ → Type 0
HasCellInTwo side a b n = HasCellAt side a n ⊎ HasCellAt side b n

-- the least number with the property
pub record IsLeastNumber (P : ℕ → Type 0) (n : ℕ) : Type 0 where
  pub has : P n
  pub least : (m : ℕ) → P m → n ≤ m

-- the least number with the property, or none if no number has it
abbrev pub IsLeastOf : (ℕ → Type 0) → Option ℕ → Type 0
IsLeastOf P o = MatchOption o ((n : ℕ) → P n → ⊥) (IsLeastNumber P)

-- what is kept for a square, unless that is the number for none, is the least distance of its nonzero cells from the side
abbrev pub AreLeast : Side → (Id → Tree) → (Id → ℕ) → Type 0
AreLeast side content kept = (q : Id) → kept q ≢ UNKNOWN → IsLeastNumber (HasCellAt side (content q)) (kept q)

-- with the side in the north, the quarters of the square are a and b, and after them c and d
abbrev pub Faces : Side → Tree → Tree → Tree → Tree → Tree → Type 0
Faces North t a b c d = t ≡ quad a b c d
Faces South t a b c d = t ≡ quad c d a b
Faces West t a b c d = t ≡ quad a c b d
Faces East t a b c d = t ≡ quad c a d b

-- the lesser of two numbers, of which either may be none
abbrev pub lesser_of : Option ℕ → Option ℕ → Option ℕ
lesser_of None b = b
lesser_of (Some a) None = Some a
lesser_of (Some a) (Some b) = Some (min a b)
