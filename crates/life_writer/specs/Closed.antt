-- Lists in which each square comes after its quarters.
use Rattle.std.specs.Prelude.{◌≡◌, ℕ, ◌<◌, true, false, List, length, slice_index_or}
use Rattle.life_base.specs.Tree.{Tree, point}
use Rattle.life_writer.specs.Listing.{is_in, is_small, place}
use Rattle.life_pattern.specs.Quarters.{Quarters}

-- unless it is small, the tree is in the list, before place i
abbrev pub IsListedBefore : ℕ → List Tree → ℕ → Tree → Type 0
IsListedBefore m all i q = is_small m q ≡ false → (is_in all q ≡ true) × (place all q < i)

-- each tree of the list has its quarters before it
pub record IsClosed (m : ℕ) (all : List Tree) : Type 0 where
  pub each : (i : ℕ) → i < length all → Quarters (IsListedBefore m all i) (slice_index_or all i (point 0))
