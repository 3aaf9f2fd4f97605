-- The next state of every pair of whole numbers under a B/S rule (Golly Help, QuickLife). North is y - 1, east is x + 1.
use Rattle.std.specs.Prelude.{◌≡◌, ℕ, ◌==◌, ◌&&◌, ◌||◌, if◌then◌else◌, ℤ, pos, negsuc, ◌+ℤ◌, List, [], ◌∷◌, count_by, nat_eq}
use Rattle.life_base.specs.Sets.{DigitSets, OuterTotalistic}
use Rattle.life_base.specs.Rules.{has_digit}
use Rattle.life_base.specs.Tree.{Tree, tree_cell}
use Rattle.life_base.specs.declared.rule.Near.{Near}
use Rattle.life_base.specs.declared.rule.Near.TheVariants.{VonNeumann, Moore}

-- one less, and one more
abbrev pub one_before : ℤ → ℤ
one_before x = x +ℤ negsuc 0

abbrev pub one_after : ℤ → ℤ
one_after x = x +ℤ pos 1

-- the states of the eight neighbours of a cell, from north clockwise
abbrev pub eight_around : (ℤ → ℤ → ℕ) → ℤ → ℤ → List ℕ
eight_around cells x y =
    cells x (one_before y) ∷ cells (one_after x) (one_before y) ∷ cells (one_after x) y ∷ cells (one_after x) (one_after y)
    ∷ cells x (one_after y) ∷ cells (one_before x) (one_after y) ∷ cells (one_before x) y ∷ cells (one_before x) (one_before y) ∷ []

-- of the four that share a side with it, from north clockwise
abbrev pub four_around : (ℤ → ℤ → ℕ) → ℤ → ℤ → List ℕ
four_around cells x y = cells x (one_before y) ∷ cells (one_after x) y ∷ cells x (one_after y) ∷ cells (one_before x) y ∷ []

-- of those in which a B/S rule counts
abbrev pub counted_around : Near → (ℤ → ℤ → ℕ) → ℤ → ℤ → List ℕ
counted_around VonNeumann = four_around
counted_around Moore = eight_around

-- how many of these states are 1
abbrev pub live_in : List ℕ → ℕ
live_in states = count_by (nat_eq 1) states

-- a cell of state 0 is born, and one of state 1 survives, by the number of its neighbours in state 1
abbrev pub next_by_count : DigitSets → ℕ → ℕ → ℕ
next_by_count sets state count =
    if (state == 0 && has_digit sets.births count) || (state == 1 && has_digit sets.survivals count) then 1 else 0

-- the next state of the cell (x, y) under a B/S rule, by the neighbours that it counts
abbrev pub next_life : OuterTotalistic → (ℤ → ℤ → ℕ) → ℤ → ℤ → ℕ
next_life rule cells x y = next_by_count rule.sets (cells x y) (live_in (counted_around rule.near cells x y))

-- the second square has the cells of the first one's next generation under a B/S rule
abbrev pub IsNextLife : OuterTotalistic → Tree → Tree → Type 0
IsNextLife rule t next = (x y : ℤ) → tree_cell next x y ≡ next_life rule (tree_cell t) x y
