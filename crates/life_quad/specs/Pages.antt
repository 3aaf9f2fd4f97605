-- Values by numbers, in pages of 256 numbers that follow.
use Rattle.std.specs.Prelude.{◌≡◌, ℕ, ◌+◌, ◌<◌, ◌≤◌, ◌/◌, ◌%◌, ◌==◌, nat_lt, if◌then◌else◌, List, slice_index_or}

-- by the place of a page the index of its first value, or 2^32 - 1; the values of the pages that were made; the value of all other numbers
pub record Pages (X : Type 0) : Type 0 where
  pub starts : List ℕ
  pub values : List X
  pub absent : X

-- The place of the page of a number: that of the first nodes stands before all others, and each other in its order. So a few squares take no
-- place for all the small ones before them.
unfoldable pub place_of : ℕ → ℕ
place_of n = if n / 256 == 258 then 0 else (if nat_lt (n / 256) 258 then n / 256 + 1 else n / 256)

-- the index of the first value of the page at a place
abbrev pub start_in : List ℕ → ℕ → ℕ
start_in starts place = slice_index_or starts place 4294967295

-- the index of the value of a number
abbrev pub index_in : List ℕ → ℕ → ℕ
index_in starts n = start_in starts (place_of n) + n % 256

-- each page that was made stands whole among so many values, and no two numbers have one value
pub record ArePages (starts : List ℕ) (size : ℕ) : Type 0 where
  pub few : size ≤ 4294967295
  pub whole : (place : ℕ) → start_in starts place < 4294967295 → start_in starts place + 256 ≤ size
  pub apart : (m n : ℕ) → index_in starts m ≡ index_in starts n → index_in starts n < size → m ≡ n
