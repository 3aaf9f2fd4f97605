-- Which squares a refused call had to store.
use Rattle.std.specs.Prelude.{ℕ, ◌<◌, ◌⊎◌, List, Contains}
use Rattle.life_base.specs.Tree.{Tree, point, quad, depth}
use Rattle.life_quad.specs.Moves.{trimmed_square}

-- the square, or one of its parts of level 1 and up, has a property
abbrev pub SomePart : (Tree → Type 0) → Tree → Type 0
SomePart P (point s) = ⊥
SomePart P (quad nw ne sw se) = P (quad nw ne sw se) ⊎ SomePart P nw ⊎ SomePart P ne ⊎ SomePart P sw ⊎ SomePart P se

-- one of several squares has a property
abbrev pub SomeOf : (Tree → Type 0) → List Tree → Type 0
SomeOf P squares = (t : Tree) × Contains squares t × P t

-- trimming makes the square smaller, and the smaller one has a property
pub record TrimmedTo (P : Tree → Type 0) (t : Tree) (least : ℕ) : Type 0 where
  pub smaller : depth (trimmed_square t least) < depth t
  pub has : P (trimmed_square t least)
