-- Sixteen rows of sixteen cells in four words, known but for some columns and rows at the sides.
use Rattle.std.specs.Prelude.{◌≡◌, ℕ, ◌+◌, ◌-◌, ◌*◌, ◌<◌, ◌≤◌, ℤ, pos, ◌+ℤ◌}
use Rattle.std.specs.Int.{bit_at}
use Rattle.life_leap.specs.declared.bands.Bands.{Bands}

-- The word has four of the sixteen rows, of which the first one has number t. Row t of the sixteen is row y + t of the plane, for t from 4 to 19, and
-- column i is column x + i, for i from 0 to 15. The word has the states of all cells that are at least m columns and rows from the sides. The
-- north-western cell is in the highest bit.
abbrev pub HasBandWithin : ℕ → (ℤ → ℤ → ℕ) → ℤ → ℤ → ℕ → ℕ → Type 0
HasBandWithin m cells x y t word =
    (r i : ℕ) → r < 4 → i < 16 → m + 4 ≤ t + r → t + r + m < 20 → m ≤ i → i + m < 16
    → bit_at word (63 - (16 * r + i)) ≡ cells (x +ℤ pos i) (y +ℤ pos (t + r))

-- the same of four words with all sixteen rows
pub record AreBandsWithin (m : ℕ) (cells : ℤ → ℤ → ℕ) (x y : ℤ) (bands : Bands) : Type 0 where
  pub first : HasBandWithin m cells x y 4 bands.first
  pub second : HasBandWithin m cells x y 8 bands.second
  pub third : HasBandWithin m cells x y 12 bands.third
  pub fourth : HasBandWithin m cells x y 16 bands.fourth
