-- What a file says, and what plane it is said of. The plane's width is this project's own; Golly's has no edge.
use Rattle.std.specs.Prelude.{ℕ, ◌^◌, ℤ, pos, neg_ℤ, Bool, ◌&&◌, int_le, int_lt}
use Rattle.claims.specs.Rules.{Rule}

-- a rule, a generation, and a state for each pair of whole numbers (x, y), y downwards
pub record Pattern : Type 0 where
  pub rule : Rule
  pub generation : ℕ
  pub cell : ℤ → ℤ → ℕ

-- the first coordinate after those of the plane, which has -2 ^ 61 to 2 ^ 61 - 1
abbrev pub coordinate_bound : ℤ
coordinate_bound = pos (2 ^ 61)

abbrev pub is_claimed_coordinate : ℤ → Bool
is_claimed_coordinate z = int_le (neg_ℤ coordinate_bound) z && int_lt z coordinate_bound
