-- The plane of a greatest level of 1 or more. The project's own.
use Rattle.std.specs.Prelude.{ℕ, ◌-◌, ◌^◌, Bool, ◌&&◌, ℤ, pos, neg_ℤ, int_lt, int_le}

-- The coordinates of the plane go from -2 ^ (level - 1) to 2 ^ (level - 1) - 1; this is the first number after them.
abbrev pub rle_plane_end : ℕ → ℤ
rle_plane_end level = pos (2 ^ (level - 1))

-- a coordinate of the plane
abbrev pub is_coordinate : ℕ → ℤ → Bool
is_coordinate level z = int_le (neg_ℤ (rle_plane_end level)) z && int_lt z (rle_plane_end level)

-- the greatest count of an item, which is the width of the plane
abbrev pub most_count : ℕ → ℕ
most_count level = 2 ^ level
