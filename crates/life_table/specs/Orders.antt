-- The orders in which the neighbours of a cell are read.
use Rattle.std.specs.Prelude.{ℕ, Bool, ◌+◌, ◌-◌, ◌*◌, ◌/◌, ◌%◌, List, [], ◌∷◌, ◌++◌, map, flat_map, length, slice_index, if◌then◌else◌}
use Rattle.std.specs.List.{range_with_len}
use Rattle.life_table.specs.declared.table.Symmetry.{Symmetry}
use Rattle.life_table.specs.declared.table.Symmetry.TheVariants.{Identity, Rotate4, Rotate4Reflect, ReflectHorizontal, Permute, Rotate8, Rotate8Reflect}

-- the neighbours turned by r: at place i stands the one of place i + r, going round
abbrev pub turn : List ℕ → ℕ → List ℕ
turn v r = map (λ i. slice_index v ((i + r) % length v)) (range_with_len 0 (length v))

-- the reflected turn by r: at place i stands the one of place n - i + r, going round
abbrev pub reflected_turn : List ℕ → ℕ → List ℕ
reflected_turn v r = map (λ i. slice_index v ((length v - i + r) % length v)) (range_with_len 0 (length v))

-- the turns by the multiples of a step, once round
abbrev pub turns : List ℕ → ℕ → List (List ℕ)
turns v step = map (λ k. turn v (k * step)) (range_with_len 0 (length v / step))

abbrev pub reflected_turns : List ℕ → ℕ → List (List ℕ)
reflected_turns v step = map (λ k. reflected_turn v (k * step)) (range_with_len 0 (length v / step))

-- the turns, and the reflected ones where these count too
abbrev pub family : Bool → ℕ → List ℕ → List (List ℕ)
family reflect step v = if reflect then turns v step ++ reflected_turns v step else turns v step

-- the lists that have x at one more place
abbrev pub insertions : ℕ → List ℕ → List (List ℕ)
insertions x [] = (x ∷ []) ∷ []
insertions x (y ∷ ys) = (x ∷ y ∷ ys) ∷ map (λ zs. y ∷ zs) (insertions x ys)

-- every order of a list
unfoldable pub orders : List ℕ → List (List ℕ)
orders [] = [] ∷ []
orders (x ∷ xs) = flat_map (insertions x) (orders xs)

-- the orders in which a symmetry lets the neighbours be read
abbrev pub images : Symmetry → List ℕ → List (List ℕ)
images Identity v = turn v 0 ∷ []
images Rotate4 v = turns v (length v / 4)
images Rotate4Reflect v = turns v (length v / 4) ++ reflected_turns v (length v / 4)
images ReflectHorizontal v = turn v 0 ∷ reflected_turn v 0 ∷ []
images Permute v = orders v
images Rotate8 v = turns v 1
images Rotate8Reflect v = turns v 1 ++ reflected_turns v 1
