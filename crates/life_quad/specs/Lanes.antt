-- What the hasher of a store computes. No other definition cites it: it decides time alone.
use Rattle.std.specs.Prelude.{ℕ, ◌+◌, ◌*◌, ◌/◌, ◌%◌, ◌^◌, List, length, slice_index, nat_eq, if◌then◌else◌}
use Rattle.life_quad.specs.declared.seed.Lanes.{Lanes}

-- the number of four bytes, the lowest first, and 0 for any other text
unfoldable pub number_of_bytes : List ℕ → ℕ
number_of_bytes bs = if nat_eq (length bs) 4 then slice_index bs 0 + slice_index bs 1 * 256 + slice_index bs 2 * 65536 + slice_index bs 3 * 16777216 else 0

-- the state after such a text: its number times the next key is added, and the keys go round
unfoldable pub write : Lanes → List ℕ → Lanes
write h bs = record { sum = (h.sum + (h.next * number_of_bytes bs) % 2 ^ 64) % 2 ^ 64; next = h.second; second = h.third; third = h.fourth; fourth = h.next }

-- what a key is found by: the upper half of the sum
unfoldable pub finish : Lanes → ℕ
finish h = h.sum / 2 ^ 32
