-- Many generations of the whole plane under a B/S rule (Golly Help, QuickLife), and what they depend on.
use Rattle.std.specs.Prelude.{◌≡◌, ℕ, zero, suc, ◌+◌, ◌^◌, min, ◌-◌, ℤ, ◌≤ℤ◌, ◌<ℤ◌}
use Rattle.life_base.specs.Sets.{OuterTotalistic}
use Rattle.life_next.specs.Generation.{next_life}
use Rattle.life_pieces.specs.Pieces.{step_back, step_ahead}

-- the states of the plane n generations later
unfoldable pub after : OuterTotalistic → ℕ → (ℤ → ℤ → ℕ) → ℤ → ℤ → ℕ
after rule zero cells = cells
after rule (suc n) cells = next_life rule (after rule n cells)

-- two planes have the same states in the columns from `west` to the one before `east`, and in the rows from `north` to the one before `south`
pub record AgreeWithin (f g : ℤ → ℤ → ℕ) (west north east south : ℤ) : Type 0 where
  pub same : (x y : ℤ) → west ≤ℤ x → x <ℤ east → north ≤ℤ y → y <ℤ south → f x y ≡ g x y

-- the states of a box n generations later depend only on the states in the box that is n columns and rows wider on each side
abbrev pub DependsOnNear : Type 0
DependsOnNear =
    (rule : OuterTotalistic) (n : ℕ) (f g : ℤ → ℤ → ℕ) (west north east south : ℤ)
    → AgreeWithin f g (step_back west n) (step_back north n) (step_ahead east n) (step_ahead south n)
    → AgreeWithin (after rule n f) (after rule n g) west north east south

-- m + n generations are n generations and then m
abbrev pub AfterAdds : Type 0
AfterAdds = (rule : OuterTotalistic) (m n : ℕ) (cells : ℤ → ℤ → ℕ) → after rule (m + n) cells ≡ after rule m (after rule n cells)

-- every state outside these columns and rows is 0
pub record IsBlankBeyond (cells : ℤ → ℤ → ℕ) (west north east south : ℤ) : Type 0 where
  pub west_of : (x y : ℤ) → x <ℤ west → cells x y ≡ 0
  pub north_of : (x y : ℤ) → y <ℤ north → cells x y ≡ 0
  pub east_of : (x y : ℤ) → east ≤ℤ x → cells x y ≡ 0
  pub south_of : (x y : ℤ) → south ≤ℤ y → cells x y ≡ 0

-- the number of generations of a leap of a square of level k: 2 ^ pace, but at most a quarter of its side, because a state spreads by one cell in a generation
abbrev pub leap_length : ℕ → ℕ → ℕ
leap_length pace k = 2 ^ min pace (k - 2)
