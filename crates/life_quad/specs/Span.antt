-- Runs of cells within a square, by columns and rows counted from its north west corner.
use Rattle.std.specs.Prelude.{◌≡◌, ◌==◌, ℕ, ◌+◌, ◌^◌, ◌<◌, Bool, ◌&&◌, nat_lt, nat_le, if◌then◌else◌}
use Rattle.life_base.specs.Tree.{Tree, depth, state_at, IsFull}
use Rattle.life_quad.specs.declared.runs.RowSpan.{RowSpan}

-- whether a column and a row are in the span
abbrev pub is_in_span : ℕ → ℕ → ℕ → ℕ → ℕ → Bool
is_in_span column row len i j = j == row && nat_le column i && nat_lt i (column + len)

-- a full square of the same level has the state in the span, and every other cell as before
pub record SetsSpan (old new : Tree) (span : RowSpan) : Type 0 where
  pub full : IsFull new
  pub level : depth new ≡ depth old
  pub cells : (i j : ℕ) → i < 2 ^ depth old → j < 2 ^ depth old
      → state_at new i j ≡ (if is_in_span span.column span.row span.len i j then span.state else state_at old i j)

-- two squares side by side have the state in the span, whose columns go on from the left one to the right one
pub record SetsHalves (left right new_left new_right : Tree) (span : RowSpan) : Type 0 where
  pub left_full : IsFull new_left
  pub left_level : depth new_left ≡ depth left
  pub right_full : IsFull new_right
  pub right_level : depth new_right ≡ depth right
  pub left_cells : (i j : ℕ) → i < 2 ^ depth left → j < 2 ^ depth left
      → state_at new_left i j ≡ (if is_in_span span.column span.row span.len i j then span.state else state_at left i j)
  pub right_cells : (i j : ℕ) → i < 2 ^ depth left → j < 2 ^ depth left
      → state_at new_right i j ≡ (if is_in_span span.column span.row span.len (2 ^ depth left + i) j then span.state else state_at right i j)
