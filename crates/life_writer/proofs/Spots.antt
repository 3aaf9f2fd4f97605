-- Patterns of few cells, for worked examples.
use Rattle.std.proofs.Common.{ℕ, ◌&&◌, List, [], ◌∷◌, ℤ, if◌then◌else◌}
use Rattle.std.specs.Ordering.{int_eq}
use Rattle.life_base.specs.declared.rule.Near.TheVariants.{Moore}
use Rattle.life_base.specs.declared.rule.Rule.{Rule}
use Rattle.life_base.specs.declared.rule.Rule.TheVariants.{Life}
use Rattle.life_mc.specs.declared.line.Line.{Line}
use Rattle.life_pattern.specs.Universe.{Universe}
use Rattle.life_writer.specs.Listing.{canonical_file}

-- a cell with a state
pub record Spot : Type 0 where
  pub x : ℤ
  pub y : ℤ
  pub state : ℕ

-- the plane with these cells
abbrev pub spots : List Spot → ℤ → ℤ → ℕ
spots [] x y = 0
spots (s ∷ ss) x y = if int_eq x s.x && int_eq y s.y then s.state else spots ss x y

abbrev pub spot : ℤ → ℤ → ℕ → Spot
spot x y state = record { x = x; y = y; state = state }

abbrev pub life : Rule
life = Life (record { sets = record { births = 8; survivals = 12 }; near = Moore })

abbrev pub pattern_of : Rule → List Spot → Universe
pattern_of rule cells = record { rule = rule; generation = 0; cell = spots cells }

abbrev pub canonical_lines : ℕ → Universe → List Line
canonical_lines top u = (canonical_file top u).lines
