-- Sixteen bits of a word.
use Rattle.std.proofs.Common.{◌≡◌, ◌+◌, ◌-◌, ◌/◌, ◌%◌, ◌^◌, ◌<◌, ℕ, ◌∙◌, arith}
use Rattle.std.specs.Int.{bit_at}
use Rattle.life_lanes.proofs.WordLemmas.{bit-mod, bit-shr}

-- a bit of sixteen in a word
pub sixteenth : (w k p : ℕ) → bit_at (w / 2 ^ k % 2 ^ 16) (15 - p) ≡ bit_at w (15 - p + k)
sixteenth w k p = bit-mod (w / 2 ^ k) 16 (15 - p) (omega arith) ∙ bit-shr w k (15 - p)

pub small : (v : ℕ) → v % 2 ^ 16 < 65536
small v = omega arith
