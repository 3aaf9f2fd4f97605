-- The same words as in Keeping.antt over the ghost members of a store's type, which are one argument here, and records of what a call does.
use Rattle.std.specs.Prelude.{◌≡◌, Result, Err, IfErr, OnErr}
use Rattle.life_base.specs.declared.kind.Kind.{Kind}
use Rattle.life_base.specs.declared.kind.Kind.TheVariants.{Full}
use Rattle.life_base.specs.Tree.{Tree}
use Rattle.life_quad.specs.declared.squares.Squares.{Ghosts}
use Rattle.life_quad.specs.Keeping.{KeepsSquares, AddsOnly, IsShortageKind, MakesSquares, MakesOneSquare}
use Rattle.life_quad.specs.Refused.{SomePart}
use Rattle.life_quad.specs.declared.id.Id.{Id}

-- each Id keeps its square, nothing stored is taken away, and the limit stays: of a store that was `old` and is `new`
abbrev pub KeepsStore : {X : Type 0} → Ghosts X → X → X → Type 0
KeepsStore S old new = KeepsSquares S.knows S.content S.stored S.most old new

-- a growth of memory was refused, or the store holds its limit
abbrev pub IsShortageIn : {X : Type 0} → Ghosts X → X → Kind → Type 0
IsShortageIn S store kind = IsShortageKind (S.stored store) (S.most store) kind

-- The store is kept (`KeepsStore`), and gets no square but such as the call needs. `Needs` says of a property that a square which the call needs has it. The
-- call is refused only where a growth of memory was refused, or where the store holds its limit and lacks such a square.
pub record Grows {X A : Type 0} (S : Ghosts X) (old new : X) (r : Result A Kind) (Needs : (Tree → Type 0) → Type 0) : Type 0 where
  pub keeps : KeepsStore S old new
  pub refusals : IfErr r (IsShortageKind (S.stored new) (S.most new))
  pub needed : r ≡ Err Full → Needs (S.needs_node new)
  pub adds : AddsOnly S.stored Needs old new

-- the same of a call that is refused for lack of memory too only where the store lacks such a square
pub record GrowsOnly {X A : Type 0} (S : Ghosts X) (old new : X) (r : Result A Kind) (Needs : (Tree → Type 0) → Type 0) : Type 0 where
  pub keeps : KeepsStore S old new
  pub refusals : IfErr r (IsShortageKind (S.stored new) (S.most new))
  pub needed : OnErr r (Needs (S.needs_node new))
  pub adds : AddsOnly S.stored Needs old new

-- a call makes squares (`MakesSquares`)
abbrev pub Makes : {X T : Type 0} → Ghosts X → X → X → (T → Type 0) → (T → Type 0) → Type 0 → Result T Kind → Type 0
Makes S old new Known Square Needed r = MakesSquares S.knows S.content S.stored S.most old new Known Square Needed r

-- a call makes one square, of which something is said; a refused one had to store some part of such a square
abbrev pub MakesSomeSquare : {X : Type 0} → Ghosts X → X → X → (Tree → Type 0) → Result Id Kind → Type 0
MakesSomeSquare S old new Is r =
    Makes S old new (S.knows new) (λ id. Is (S.content new id)) ((t : Tree) × Is t × SomePart (S.needs_node new) t) r

-- a call makes the square t, and stores no square but such as it needs (`MakesOneSquare`)
abbrev pub MakesSquare : {X : Type 0} → Ghosts X → X → X → Tree → ((Tree → Type 0) → Type 0) → Result Id Kind → Type 0
MakesSquare S old new t Needs r = MakesOneSquare S.knows S.content S.stored S.most S.needs_node old new t Needs r
