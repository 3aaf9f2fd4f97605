-- Ids that are numbered in the order in which they come.
use Rattle.std.specs.Prelude.{◌≡◌, ◌≤◌, ◌<◌, ◌+◌, ◌-◌, ℕ, suc, nat_lt, if◌then◌else◌, List, [], ◌∷◌, Some, slice_get, slice_index_or}
use Rattle.life_quad.specs.declared.id.Id.{Id}

-- the least Id that has a number, and how many there are from it on
pub record NumberRange : Type 0 where
  pub first : ℕ
  pub size : ℕ

-- the Ids that have a number, in its order, and which Ids have a number
pub record NumberedIds : Type 0 where
  pub ids : List Id
  pub space : NumberRange

-- whether an Id has a number in the range
abbrev pub IsInNumberRange : NumberRange → Id → Type 0
IsInNumberRange space id = (space.first ≤ id.0) × (id.0 < space.first + space.size)

-- the least number of the Id of a square of this level or a higher one that isn't blank: a node's, or a small square's
abbrev pub first_of : ℕ → ℕ
first_of level = if nat_lt 2 level then 66064 else 0

-- the number of an Id in a list from this Id on, or 0
abbrev pub number_at : ℕ → List ℕ → Id → ℕ
number_at first numbers id = if nat_lt id.0 first then 0 else slice_index_or numbers (id.0 - first) 0

-- the same, where pages have the numbers if the list has none
abbrev pub number_by : ℕ → List ℕ → (Id → ℕ) → Id → ℕ
number_by first [] paged id = paged id
number_by first (n ∷ ns) paged id = number_at first (n ∷ ns) id

-- each Id of the list has its place, counted from 1, and what has a place is the Id at that place
pub record HasPlaces (ids : List Id) (place : Id → ℕ) : Type 0 where
  pub listed : (i : ℕ) (id : Id) → slice_get ids i ≡ Some id → place id ≡ suc i
  pub placed : (id : Id) (i : ℕ) → place id ≡ suc i → slice_get ids i ≡ Some id
