-- The rows of the plane that are over.
use Rattle.std.specs.Prelude.{◌≡◌, ◌+◌, ◌≤◌, ℕ, [], ◌∷◌, ◌++◌, length, All}
use Rattle.life_base.specs.Tree.{Tree}
use Rattle.life_quad.specs.declared.id.Id.{Id}
use Rattle.life_strip.specs.declared.pile.Pile.{Pile}
use Rattle.life_strip.specs.declared.row.Row.{Row}
use Rattle.life_strip.specs.Needed.{SomeSquare}
use Rattle.life_strip.specs.Picture.{AreStacked, IsLowest, height, picture}
use Rattle.life_strip.specs.Row.{IsRow, state_with_rows}

-- how many rows a pile has: those of its strips, and below them the rows of the next band
abbrev pub pile_height : Pile → ℕ
pile_height pile = height pile.strips.items + length pile.band.items

-- the state in a column and a row of a pile
abbrev pub pile_state : (Id → Tree) → Pile → ℕ → ℕ → ℕ
pile_state content pile = state_with_rows content pile.strips.items pile.band.items

-- the same with one row more below the others
abbrev pub pile_state_with : (Id → Tree) → Pile → Row → ℕ → ℕ → ℕ
pile_state_with content pile row = state_with_rows content pile.strips.items (pile.band.items ++ row ∷ [])

-- a square of the rows of a pile has a property
abbrev pub SomeOfPile : (Tree → Type 0) → (Id → Tree) → Pile → Type 0
SomeOfPile P content pile = SomeSquare P (pile_height pile) (pile_state content pile)

-- the strips of whole bands of four rows have falling levels, and below them are at most three rows
pub record IsPile (knows : Id → Type 0) (content : Id → Tree) (pile : Pile) : Type 0 where
  pub strips : AreStacked knows content pile.strips.items
  pub lowest : IsLowest 2 pile.strips.items
  pub rows : All (IsRow knows content) pile.band.items
  pub few : length pile.band.items ≤ 3

-- the rows of the band have gone into the strips, in their order: of a pile that was `old` and is `new`
pub record HasClosedRows (knows : Id → Type 0) (was is : Id → Tree) (old new : Pile) : Type 0 where
  pub empty : new.band.items ≡ []
  pub strips : AreStacked knows is new.strips.items
  pub height : height new.strips.items ≡ pile_height old
  pub picture : (column row : ℕ) → picture is new.strips.items column row ≡ pile_state was old column row
