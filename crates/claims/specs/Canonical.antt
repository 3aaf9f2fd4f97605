-- The canonical text of a pattern: which squares have a line, in which order, and what each line is. The lines are macrocell lines (Golly Help, File
-- Formats, "Macrocell format"); all the rest is this project's own.
use Rattle.std.specs.Prelude.{◌≡◌, ◌≤◌, ℕ, zero, suc, ◌+◌, ◌-◌, ◌^◌, Bool, false, ◌&&◌, List, [], ◌∷◌, ◌++◌, map, zip, flat_map, nat_lt, ◌||◌, ◌==◌, if◌then◌else◌, codes, decimal, ℤ, pos, neg_ℤ, ◌+ℤ◌, int_le, int_lt}
use Rattle.std.specs.List.{list_any, position_or_len}
use Rattle.std.specs.Str.{byte}
use Rattle.life_base.specs.Text.{without_last}
use Rattle.claims.specs.Rules.{Rule, counting, named, is_counting, claimed_rule_text}
use Rattle.claims.specs.Pattern.{Pattern}

-- a square by its cells: one cell with a state, or four squares of one size, north-west, north-east, south-west and south-east
pub data Square : Type 0 where
  point : (state : ℕ) → Square
  quarters : (nw ne sw se : Square) → Square

-- the square of a level, 2 ^ level cells wide, whose north-west cell is (x, y)
abbrev pub claimed_square_at : (ℤ → ℤ → ℕ) → (level : ℕ) → ℤ → ℤ → Square
claimed_square_at cell zero x y = point (cell x y)
claimed_square_at cell (suc level) x y =
    let side = pos (2 ^ level) in
    quarters (claimed_square_at cell level x y) (claimed_square_at cell level (x +ℤ side) y) (claimed_square_at cell level x (y +ℤ side))
    (claimed_square_at cell level (x +ℤ side) (y +ℤ side))

-- the square of a level about the middle of the plane: its columns and rows are those from -2 ^ (level - 1) to 2 ^ (level - 1) - 1
abbrev pub middle_square : (ℤ → ℤ → ℕ) → ℕ → Square
middle_square cell level = let west = neg_ℤ (pos (2 ^ (level - 1))) in claimed_square_at cell level west west

abbrev pub is_in_middle : ℕ → ℤ → Bool
is_in_middle level z = let half = pos (2 ^ (level - 1)) in int_le (neg_ℤ half) z && int_lt z half

-- the square of a level about the middle of the plane, `middle_square`, holds every cell with a state other than 0
abbrev pub HoldsAllCells : (ℤ → ℤ → ℕ) → ℕ → Type 0
HoldsAllCells cell level = (x y : ℤ) → (is_in_middle level x && is_in_middle level y) ≡ false → cell x y ≡ 0

-- the level of the least squares that have lines: 3 under a B/S rule, where they are leaves, and 1 under a name
abbrev pub claimed_least_level : Rule → ℕ
claimed_least_level (counting neighbours births survivals) = 3
claimed_least_level (named name) = 1

abbrev pub square_level : Square → ℕ
square_level (point state) = 0
square_level (quarters nw ne sw se) = square_level nw + 1

-- each cell has state 0
abbrev pub is_blank_square : Square → Bool
is_blank_square (point state) = state == 0
is_blank_square (quarters nw ne sw se) = is_blank_square nw && is_blank_square ne && is_blank_square sw && is_blank_square se

-- the two squares have the same cells
abbrev pub same_square : Square → Square → Bool
same_square (point a) (point b) = a == b
same_square (quarters a b c d) (quarters e f g h) = same_square a e && same_square b f && same_square c g && same_square d h
same_square _ _ = false

-- the squares that a walk visits: the quarters of a square, and then the square itself, but for blank squares and those below the least level
abbrev pub claimed_walk : (least : ℕ) → Square → List Square
claimed_walk least (point state) = []
claimed_walk least (quarters nw ne sw se) =
    if is_blank_square (quarters nw ne sw se) || nat_lt (square_level nw + 1) least then []
    else claimed_walk least nw ++ claimed_walk least ne ++ claimed_walk least sw ++ claimed_walk least se ++ quarters nw ne sw se ∷ []

-- The squares that were visited, and after them the others of a list, each at its first place alone. (All that a walk visits in a square comes before the
-- square, so whoever meets it again needn't walk through it.)
abbrev pub first_visits : (visited squares : List Square) → List Square
first_visits visited [] = visited
first_visits visited (square ∷ squares) = first_visits (if list_any (same_square square) visited then visited else visited ++ square ∷ []) squares

-- what stands for a quarter in a line: the state of a cell, 0 for a blank square, and for any other its place in the list, counted from 1
abbrev pub child_number : List Square → Square → ℕ
child_number squares (point state) = state
child_number squares square = if is_blank_square square then 0 else position_or_len (same_square square) squares + 1

-- the states of the cells of a square, row by row
abbrev pub state_rows : Square → List (List ℕ)
state_rows (point state) = (state ∷ []) ∷ []
state_rows (quarters nw ne sw se) = map (λ row. row.0 ++ row.1) (zip (state_rows nw) (state_rows ne) ++ zip (state_rows sw) (state_rows se))

-- a row of a leaf: `*` for state 1 and `.` for state 0, up to the last `*`, and then `$`
abbrev pub leaf_row : List ℕ → List ℕ
leaf_row row = without_last (λ b. b == byte ".") (map (λ state. if state == 1 then byte "*" else byte ".") row) ++ codes "$"

-- the line of a square: at level 3 under a B/S rule a leaf line, and else its level and what stands for its quarters
abbrev pub square_line : Rule → List Square → Square → List ℕ
square_line rule squares (point state) = []
square_line rule squares (quarters nw ne sw se) =
    (if is_counting rule && square_level nw + 1 == 3 then flat_map leaf_row (state_rows (quarters nw ne sw se))
    else decimal (square_level nw + 1) ++ flat_map (λ quarter. codes " " ++ decimal (child_number squares quarter)) (nw ∷ ne ∷ sw ∷ se ∷ [])) ++ codes "\n"

-- the text of a rule, a generation and a square; a generation of 0 has no line
abbrev pub claimed_square_text : Rule → ℕ → Square → List ℕ
claimed_square_text rule generation square =
    let squares = first_visits [] (claimed_walk (claimed_least_level rule) square) in
    codes "[M2] (canonical 1)\n#R " ++ claimed_rule_text rule ++ codes "\n" ++ (if generation == 0 then [] else codes "#G " ++ decimal generation ++ codes "\n")
    ++ flat_map (square_line rule squares) squares

-- the canonical text of a pattern: that of the least square about the middle of the plane which holds every cell with a state other than 0
pub record IsTextOfPattern (pattern : Pattern) (text : List ℕ) : Type 0 where
  pub level : ℕ
  pub high : claimed_least_level pattern.rule ≤ level
  pub holds : HoldsAllCells pattern.cell level
  pub least : (lower : ℕ) → claimed_least_level pattern.rule ≤ lower → HoldsAllCells pattern.cell lower → level ≤ lower
  pub is : text ≡ claimed_square_text pattern.rule pattern.generation (middle_square pattern.cell level)
