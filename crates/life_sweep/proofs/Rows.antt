-- Worked examples of a generation, computed.
use Rattle.std.proofs.Common.{◌≡◌, ℕ, ◌^◌, ◌-◌, ℤ, pos, negsuc, List, [], ◌∷◌, refl, Bool, ◌&&◌, int_le, if◌then◌else◌}
use Rattle.life_base.specs.Sets.{OuterTotalistic}
use Rattle.life_base.specs.declared.cell.Cell.{Cell}
use Rattle.life_table.specs.declared.table.Neighborhood.TheVariants.{VonNeumann, Moore}
use Rattle.life_next.specs.Generation.{next_life}
use Rattle.life_sweep.specs.Generation.{neighbours_at}
use Rattle.life_base.specs.declared.rule.Near.TheVariants as near

-- B3/S23
abbrev life : OuterTotalistic
life = record { sets = record { births = 8; survivals = 12 }; near = near.Moore }

-- B1/S0V
abbrev four_sides : OuterTotalistic
four_sides = record { sets = record { births = 2; survivals = 1 }; near = near.VonNeumann }

abbrev same : ℤ → ℤ → Bool
same a b = int_le a b && int_le b a

-- the state that a list of cells gives to (x, y): 0 where it has no such cell
abbrev states : List Cell → ℤ → ℤ → ℕ
states [] x y = 0
states (cell ∷ cells) x y = if same cell.x x && same cell.y y then cell.state else states cells x y

abbrev cell : ℤ → ℤ → ℕ → Cell
cell x y s = record { x = x; y = y; state = s }

-- three live cells in a row turn
abbrev row : ℤ → ℤ → ℕ
row = states (cell (pos 0) (pos 0) 1 ∷ cell (pos 1) (pos 0) 1 ∷ cell (pos 2) (pos 0) 1 ∷ [])

born_above : next_life life row (pos 1) (negsuc 0) ≡ 1
born_above = refl

born_below : next_life life row (pos 1) (pos 1) ≡ 1
born_below = refl

stays : next_life life row (pos 1) (pos 0) ≡ 1
stays = refl

dies : next_life life row (pos 0) (pos 0) ≡ 0
dies = refl

stays_dead : next_life life row (pos 5) (pos 5) ≡ 0
stays_dead = refl

-- at the southern edge of the plane a cell is born outside it
abbrev edge : ℤ → ℤ → ℕ
edge = states (cell (pos 0) (pos (2 ^ 61 - 1)) 1 ∷ cell (pos 1) (pos (2 ^ 61 - 1)) 1 ∷ cell (pos 2) (pos (2 ^ 61 - 1)) 1 ∷ [])

leaves : next_life life edge (pos 1) (pos (2 ^ 61)) ≡ 1
leaves = refl

-- four neighbours: one cell becomes five
abbrev point : ℤ → ℤ → ℕ
point = states (cell (pos 0) (pos 0) 1 ∷ [])

east_of_it : next_life four_sides point (pos 1) (pos 0) ≡ 1
east_of_it = refl

corner_of_it : next_life four_sides point (pos 1) (pos 1) ≡ 0
corner_of_it = refl

-- from north clockwise
clockwise : neighbours_at Moore (states (cell (pos 1) (negsuc 0) 2 ∷ cell (negsuc 0) (pos 0) 7 ∷ [])) (pos 0) (pos 0) ≡ 0 ∷ 2 ∷ 0 ∷ 0 ∷ 0 ∷ 0 ∷ 7 ∷ 0 ∷ []
clockwise = refl

four : neighbours_at VonNeumann (states (cell (pos 0) (negsuc 0) 2 ∷ cell (negsuc 0) (pos 0) 7 ∷ [])) (pos 0) (pos 0) ≡ 2 ∷ 0 ∷ 0 ∷ 7 ∷ []
four = refl
