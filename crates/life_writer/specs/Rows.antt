-- The rows of small squares of states 0 and 1 as numbers, the western cell the highest bit.
use Rattle.std.specs.Prelude.{ℕ, ◌+◌, ◌*◌, List, [], ◌∷◌}
use Rattle.life_base.specs.Tree.{Tree, state_at}

-- a row of a square of level 1
abbrev pub row_of_two : Tree → ℕ → ℕ
row_of_two t y = 2 * state_at t 0 y + state_at t 1 y

-- a row of a square of level 2
abbrev pub row_of_four : Tree → ℕ → ℕ
row_of_four t y = 8 * state_at t 0 y + 4 * state_at t 1 y + 2 * state_at t 2 y + state_at t 3 y

-- the rows of two squares of level 2 side by side
abbrev pub rows_side_by_side : Tree → Tree → List ℕ
rows_side_by_side west east =
    (16 * row_of_four west 0 + row_of_four east 0) ∷ (16 * row_of_four west 1 + row_of_four east 1)
    ∷ (16 * row_of_four west 2 + row_of_four east 2) ∷ (16 * row_of_four west 3 + row_of_four east 3) ∷ []
