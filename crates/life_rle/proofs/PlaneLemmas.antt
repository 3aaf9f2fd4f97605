-- The plane of any level.
use Rattle.std.proofs.Common.{◌≡◌, ℕ, ◌-◌, ◌^◌, ◌≤◌, true, arith, pos, neg_ℤ, ◌&&◌, int_lt, int_le, pow_pos}
use Rattle.std.proofs.lemmas.Int.{ints}
use Rattle.life_rle.specs.Plane.{is_coordinate}

pub power-positive : (n : ℕ) → 1 ≤ 2 ^ n
power-positive n = pow_pos n

zero-within : (side : ℕ) → 1 ≤ side → (int_le (neg_ℤ (pos side)) (pos 0) && int_lt (pos 0) (pos side)) ≡ true
zero-within side h = grind (arith, ints)

-- 0 is a coordinate of each plane
pub zero-coordinate : (level : ℕ) → is_coordinate level (pos 0) ≡ true
zero-coordinate level = zero-within (2 ^ (level - 1)) (power-positive (level - 1))
