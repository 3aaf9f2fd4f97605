-- The state of each cell of the plane in a macrocell file. The south-east quarter begins at (0, 0), which is the project's own (Golly Help: at (0, 1)).
use Rattle.std.specs.Prelude.{ℕ, zero, suc, ◌-◌, ◌/◌, ◌%◌, ◌^◌, ◌&&◌, List, [], ◌∷◌, length, nat_lt, if◌then◌else◌, slice_index, Some, None, ℤ, pos, negsuc, ◌+ℤ◌}
use Rattle.life_mc.specs.Macrocell.{Macrocell, level_of, item_of_number}
use Rattle.life_mc.specs.declared.line.Line.{Line}
use Rattle.life_mc.specs.declared.line.Line.TheVariants.{Leaf, Quad}

-- the quarter in which column x and row y lie, where a quarter is half wide
abbrev pub quarter_at : ℕ → ℕ → ℕ → ℕ → ℕ → ℕ → ℕ → ℕ
quarter_at half x y nw ne sw se = if nat_lt y half then (if nat_lt x half then nw else ne) else (if nat_lt x half then sw else se)

-- the cell of a leaf: bit 7 - x of row y
abbrev pub leaf_cell : List ℕ → ℕ → ℕ → ℕ
leaf_cell rows x y = slice_index rows y / 2 ^ (7 - x) % 2

-- The state in column x and row y of a square, counted from its north-west corner. At level 0 the number is the
-- state itself; above, 0 is the empty square, and every other number names a line.
abbrev pub cell_in_node : List Line → ℕ → ℕ → ℕ → ℕ → ℕ
cell_in_node lines zero number x y = number
cell_in_node lines (suc k) number x y = elim (item_of_number lines number) [
  | None ↦ 0
  | Some line ↦ elim line [
    | Leaf rows ↦ leaf_cell rows x y
    | Quad level nw ne sw se ↦ cell_in_node lines k (quarter_at (2 ^ k) x y nw ne sw se) (x % 2 ^ k) (y % 2 ^ k)
  ]
]

-- the level of the root, the last line
abbrev pub root_level : List Line → ℕ
root_level [] = 0
root_level (line ∷ []) = level_of line
root_level (line ∷ next ∷ lines) = root_level (next ∷ lines)

-- the state of a place counted from the root's corner, and 0 outside the root
abbrev pub cell_from : List Line → ℕ → ℤ → ℤ → ℕ
cell_from lines level (pos x) (pos y) = if nat_lt x (2 ^ level) && nat_lt y (2 ^ level) then cell_in_node lines level (length lines) x y else 0
cell_from lines level (pos x) (negsuc y) = 0
cell_from lines level (negsuc x) y = 0

-- The state of the cell (x, y). A root of level k covers x and y from -2 ^ (k - 1) to 2 ^ (k - 1) - 1; all cells outside
-- are 0, and so is every cell where there are no squares.
abbrev pub cell_of : List Line → ℤ → ℤ → ℕ
cell_of [] x y = 0
cell_of (line ∷ lines) x y =
    let level = root_level (line ∷ lines) in
    let half = pos (2 ^ (level - 1)) in
    cell_from (line ∷ lines) level (x +ℤ half) (y +ℤ half)

abbrev pub macrocell_cell : Macrocell → ℤ → ℤ → ℕ
macrocell_cell file x y = cell_of file.lines x y

-- the number of node lines
abbrev pub node_lines : Macrocell → ℕ
node_lines file = length file.lines
