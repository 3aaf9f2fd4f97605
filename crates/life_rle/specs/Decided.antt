-- What lines are: a file, a prefix of one that lacks its header, or lines of which one breaks a rule.
use Rattle.std.specs.Prelude.{◌≡◌, ℕ, ◌⊎◌, List, ◌∷◌, ◌++◌}
use Rattle.life_base.specs.declared.kind.Kind.{Kind}
use Rattle.life_rle.specs.declared.position.Position.{Position}
use Rattle.life_rle.specs.Position.{default_position}
use Rattle.life_rle.specs.Grammar.{IsPreamble, IsSomeRle, BreaksRle}

-- comments and position lines alone
abbrev pub LacksHeader : ℕ → List (List ℕ) → Type 0
LacksHeader level lines = (position : Position) × IsPreamble level default_position lines position

-- a line breaks a rule after those before it
pub record HasBroken (level : ℕ) (lines : List (List ℕ)) : Type 0 where
  pub prefix : List (List ℕ)
  pub line : List ℕ
  pub rest : List (List ℕ)
  pub kind : Kind
  pub whole : lines ≡ prefix ++ line ∷ rest
  pub breaks : BreaksRle level prefix line kind

-- exactly one of the three holds
abbrev pub IsDecided : Type 0
IsDecided =
    (level : ℕ) (lines : List (List ℕ))
    → (IsSomeRle level lines ⊎ LacksHeader level lines ⊎ HasBroken level lines)
    × (IsSomeRle level lines → LacksHeader level lines → ⊥)
    × (IsSomeRle level lines → HasBroken level lines → ⊥)
    × (LacksHeader level lines → HasBroken level lines → ⊥)
