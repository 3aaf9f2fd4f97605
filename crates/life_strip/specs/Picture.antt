-- The cells of strips that lie one below the other.
use Rattle.std.specs.Prelude.{◌≡◌, ℕ, ◌+◌, ◌-◌, ◌/◌, ◌%◌, ◌^◌, ◌<◌, ◌≤◌, nat_lt, if◌then◌else◌, List, [], ◌∷◌, length, slice_get, Some, All, AllPairs}
use Rattle.life_quad.specs.declared.id.Id.{Id}
use Rattle.life_base.specs.Tree.{Tree, state_at}
use Rattle.life_strip.specs.declared.spans.Strip.{Strip}
use Rattle.life_strip.specs.Strip.{square_at, IsStrip, AreWithin, Rise}

-- the state in a column of the plane and a row of a strip
abbrev pub state_in_strip : (Id → Tree) → Strip → ℕ → ℕ → ℕ
state_in_strip content s column row =
    let side = 2 ^ s.level in
    state_at (square_at content s.level s.spans.items (column / side)) (column % side) row

-- the state in a column and a row of strips one below the other, 0 below the last
abbrev pub picture : (Id → Tree) → List Strip → ℕ → ℕ → ℕ
picture content [] column row = 0
picture content (s ∷ rest) column row = if nat_lt row (2 ^ s.level) then state_in_strip content s column row else picture content rest column
    (row - 2 ^ s.level)

-- how many rows strips have together
abbrev pub height : List Strip → ℕ
height [] = 0
height (s ∷ rest) = 2 ^ s.level + height rest

-- the store knows the squares of a strip
pub record IsSoundStrip (knows : Id → Type 0) (content : Id → Tree) (s : Strip) : Type 0 where
  pub squares : IsStrip knows content s.level s.spans.items
  pub within : AreWithin s.level s.spans.items
  pub rises : Rise s.spans.items

-- the upper strip's rows come first, and then the lower one's
abbrev pub IsStack : (Id → Tree) → (Id → Tree) → Strip → Strip → Strip → Type 0
IsStack old new upper lower both = (column row : ℕ)
    → state_in_strip new both column row ≡ (if nat_lt row (2 ^ upper.level) then state_in_strip old upper column row else state_in_strip old lower column
    (row - 2 ^ upper.level))

-- each strip has a lower level than the one above it
abbrev pub AreFalling : List Strip → Type 0
AreFalling strips = AllPairs (λ s t. t.level < s.level) strips

-- the level is at most those of the strips
abbrev pub IsLowest : ℕ → List Strip → Type 0
IsLowest level strips = All (λ s. level ≤ s.level) strips

-- the last of the strips, if there is one, has another level
abbrev pub IsNotLast : ℕ → List Strip → Type 0
IsNotLast level strips = (last : Strip) → slice_get strips (length strips - 1) ≡ Some last → ¬ (last.level ≡ level)

-- the store knows the squares of the strips, and each has a lower level than the one above it
pub record AreStacked (knows : Id → Type 0) (content : Id → Tree) (strips : List Strip) : Type 0 where
  pub sound : All (IsSoundStrip knows content) strips
  pub falling : AreFalling strips
