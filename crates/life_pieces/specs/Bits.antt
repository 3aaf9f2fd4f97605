-- Cells as the bits of a number or of a word.
use Rattle.std.specs.Prelude.{◌≡◌, ℕ, ◌+◌, ◌-◌, ◌*◌, ◌<◌, ℤ, pos, ◌+ℤ◌}
use Rattle.std.specs.Int.{bit_at}
use Rattle.life_lanes.specs.Places.{place_in}

-- the number has the states of a square of level 2 from the column x and the row y on, the north-western one in the highest of 16 bits
abbrev pub HasSquareBits : (ℤ → ℤ → ℕ) → ℤ → ℤ → ℕ → Type 0
HasSquareBits cells x y square = (r i : ℕ) → r < 4 → i < 4 → bit_at square (15 - place_in r i) ≡ cells (x +ℤ pos i) (y +ℤ pos r)

-- the word has the states of four rows of sixteen cells from the column x and the row y on, the north-western one in the highest bit
abbrev pub HasBand : (ℤ → ℤ → ℕ) → ℤ → ℤ → ℕ → Type 0
HasBand cells x y word = (r i : ℕ) → r < 4 → i < 16 → bit_at word (63 - (16 * r + i)) ≡ cells (x +ℤ pos i) (y +ℤ pos r)

-- the word has the states of eight rows of eight cells from the column x and the row y on, the north-western one in the highest bit
abbrev pub HasRows : (ℤ → ℤ → ℕ) → ℤ → ℤ → ℕ → Type 0
HasRows cells x y word = (r i : ℕ) → r < 8 → i < 8 → bit_at word (63 - (8 * r + i)) ≡ cells (x +ℤ pos i) (y +ℤ pos r)
