-- The number of a kind is no other status.
use Rattle.std.proofs.Common.{◌≡◌, ◌<◌, ◌⊎◌, inl, inr, ℕ, lit<, arith}
use Rattle.life_base.specs.Kinds.{kind_number}
use Rattle.life_base.specs.declared.kind.Kind.{Kind}
use Rattle.life_base.specs.declared.kind.Kind.TheVariants.{NoHeader}

pub numbered : (kind : Kind) → (0 < kind_number kind) × (kind_number kind < 64)
numbered NoHeader = (lit< tt, lit< tt)
numbered _ = (lit< tt, lit< tt)

-- a status of a text
abbrev pub IsOfText : ℕ → Type 0
IsOfText status = (status ≡ 0) ⊎ (status ≡ 64)

pub no_text : {P : Type 0} (status : ℕ) (kind : Kind) → status ≡ kind_number kind → IsOfText status → P
no_text status kind e (inl h) = let n = numbered kind in absurd (omega (arith, e, h, n.0))
no_text status kind e (inr h) = let n = numbered kind in absurd (omega (arith, e, h, n.1))
