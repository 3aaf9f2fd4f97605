-- Cells that can be written. The project's own.
use Rattle.std.specs.Prelude.{ℕ, Bool, true, ◌&&◌, ◌||◌, List, [], ◌∷◌, ℤ, int_lt, nat_lt, if◌then◌else◌}
use Rattle.std.specs.Ordering.{int_eq}
use Rattle.life_base.specs.declared.cell.Cell.{Cell}
use Rattle.life_base.specs.declared.rule.Rule.{Rule}
use Rattle.life_rle.specs.Plane.{is_coordinate}
use Rattle.life_rle.specs.States.{is_state_of}

-- a cell in the plane, of a nonzero state under the rule
abbrev pub is_live_cell : ℕ → Rule → Cell → Bool
is_live_cell level rule c = (is_coordinate level c.x && is_coordinate level c.y) && (nat_lt 0 c.state && is_state_of rule c.state)

-- the second cell stands in a later row, or after the first in one row
abbrev pub rises : Cell → Cell → Bool
rises a b = int_lt a.y b.y || (int_eq a.y b.y && int_lt a.x b.x)

-- live cells under the rule that rise strictly by row and column
abbrev pub are_sorted_cells : ℕ → Rule → List Cell → Bool
are_sorted_cells level rule [] = true
are_sorted_cells level rule (c ∷ []) = is_live_cell level rule c
are_sorted_cells level rule (c ∷ d ∷ cells) = (is_live_cell level rule c && rises c d) && are_sorted_cells level rule (d ∷ cells)

-- the state that the cells give a pair, 0 where none does
abbrev pub state_in_cells : List Cell → ℤ → ℤ → ℕ
state_in_cells [] x y = 0
state_in_cells (c ∷ cells) x y = if int_eq y c.y && int_eq x c.x then c.state else state_in_cells cells x y
