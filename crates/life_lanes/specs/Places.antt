-- The places of cells in a word.
use Rattle.std.specs.Prelude.{ℕ, ◌+◌, ◌*◌, ◌-◌, ◌/◌, ◌%◌, ◌^◌, ◌==◌, if◌then◌else◌}
use Rattle.std.specs.Int.{bit_at}

-- the place of a cell among the sixteen of a square of level 2, by its row and its column, where the cells of each quarter stand together
abbrev pub place_in : ℕ → ℕ → ℕ
place_in r i = 8 * (r / 2) + 4 * (i / 2) + 2 * (r % 2) + i % 2

-- and among the 64 of a square of level 3, where the cells of each quarter stand together in this order
abbrev pub place_in_leaf : ℕ → ℕ → ℕ
place_in_leaf r i = 16 * (2 * (r / 4) + i / 4) + place_in (r % 4) (i % 4)

-- the place from which bit i comes where each bit of a mask is exchanged with the one so far above it
abbrev pub exchanged : ℕ → ℕ → ℕ → ℕ
exchanged mask distance i =
    if bit_at mask i == 1 then i + distance else if bit_at (mask * 2 ^ distance) i == 1 then i - distance else i
