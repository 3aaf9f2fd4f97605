-- What a builder stands for: the runs that it was given, in a store.
use Rattle.std.specs.Prelude.{◌≡◌, ◌≤ℤ◌, ℤ, pos, neg_ℤ, List, []}
use Rattle.life_base.specs.Tree.{Tree}
use Rattle.life_base.specs.declared.cell.Run.{Run}
use Rattle.life_quad.specs.declared.id.Id.{Id}
use Rattle.life_strip.specs.declared.plane.Plane.{Plane}
use Rattle.life_strip.specs.Given.{IsNextRunStart, AreInOrder, state_by, half_plane}
use Rattle.life_strip.specs.Plane.{IsFilled, IsUnfilled, IsFree, cell_so_far}

-- what contracts see of a builder: the runs that it was given, and what it keeps of them, of which no contract says more
pub record Building : Type 0 where
  pub runs : List Run
  pub kept : Plane

-- The store knows each Id that the builder keeps, and what is kept has the cells of the runs, which were given in their order. This holds
-- from the first on, in every store, until a call is refused.
pub record IsFilling (knows : Id → Type 0) (content : Id → Tree) (b : Building) : Type 0 where
  pub filled : IsFilled knows content b.kept
  pub cells : (x y : ℤ) → cell_so_far content b.kept x y ≡ state_by b.runs x y
  pub order : AreInOrder b.runs
  pub next : (x y : ℤ) → neg_ℤ (pos half_plane) ≤ℤ y → IsNextRunStart b.runs x y → IsFree b.kept x y

-- no run was given, and no Id is kept
pub record IsEmpty (b : Building) : Type 0 where
  pub runs : b.runs ≡ []
  pub kept : IsUnfilled b.kept

-- In the next two, each X says which Ids a store knows, and the square of each.

-- an empty builder fills any store
abbrev pub EmptyFills : (X : Type 0) → (X → Id → Type 0) → (X → Id → Tree) → Type 0
EmptyFills X knows content = (store : X) (b : Building) → IsEmpty b → IsFilling (knows store) (content store) b

-- while each Id that was known stays known, with the same square, a builder fills the store
abbrev pub FillingStays : (X : Type 0) → (X → Id → Type 0) → (X → Id → Tree) → Type 0
FillingStays X knows content =
    (before after : X) (b : Building) → ((id : Id) → knows before id → knows after id × (content after id ≡ content before id))
    → IsFilling (knows before) (content before) b → IsFilling (knows after) (content after) b
