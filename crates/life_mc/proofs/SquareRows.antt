-- The squares of small files, and files read back from their text, by computation.
use Rattle.std.proofs.Common.{◌≡◌, ℕ, List, [], ◌∷◌, refl, codes, pos, negsuc}
use Rattle.std.specs.Fmt.{digits}
use Rattle.life_base.specs.Text.{lines_of}
use Rattle.life_base.specs.Rules.{rule_of, life_sets, four_sets}
use Rattle.life_base.specs.Tree.{point, quad, blank, depth, state_at, tree_cell}
use Rattle.life_mc.specs.Macrocell.{Macrocell}
use Rattle.life_mc.specs.Cells.{node_lines}
use Rattle.life_mc.specs.Reading.{squares_of, rule_in_force, generation_in_force}
use Rattle.life_mc.specs.Squares.{tree_of, root_tree}
use Rattle.life_mc.specs.Writing.{mc_text, leaf_row_text}
use Rattle.life_mc.specs.declared.line.Line.{Line}
use Rattle.life_mc.specs.declared.line.Line.TheVariants.{Leaf, Quad}

abbrev glider : List Line
glider = Leaf (0 ∷ 0 ∷ 32 ∷ 16 ∷ 112 ∷ 0 ∷ 0 ∷ 0 ∷ []) ∷ Quad 4 1 0 0 0 ∷ []

abbrev states : List Line
states = Quad 1 0 0 0 255 ∷ Quad 2 0 0 1 0 ∷ Quad 1 7 0 0 0 ∷ Quad 2 3 0 0 1 ∷ []

-- ---- squares

point_row : tree_of states 0 7 ≡ point 7
point_row = refl

first_row : tree_of states 1 1 ≡ quad (point 0) (point 0) (point 0) (point 255)
first_row = refl

second_row : tree_of states 2 2 ≡ quad (blank 1) (blank 1) (quad (point 0) (point 0) (point 0) (point 255)) (blank 1)
second_row = refl

blank_row : tree_of states 2 0 ≡ blank 2
blank_row = refl

-- a number without a line
past_row : tree_of states 2 5 ≡ blank 2
past_row = refl

root_row : root_tree states ≡ quad (quad (point 7) (point 0) (point 0) (point 0)) (blank 1) (blank 1) (quad (point 0) (point 0) (point 0) (point 255))
root_row = refl

no_lines : root_tree [] ≡ point 0
no_lines = refl

leaf_row : depth (tree_of glider 3 1) ≡ 3
leaf_row = refl

leaf_live : state_at (tree_of glider 3 1) 2 2 ≡ 1
leaf_live = refl

leaf_corner : state_at (tree_of glider 3 1) 0 0 ≡ 0
leaf_corner = refl

leaf_last : state_at (tree_of glider 3 1) 3 4 ≡ 1
leaf_last = refl

-- ---- cells of the plane

above_left : tree_cell (root_tree glider) (negsuc 5) (negsuc 5) ≡ 1
above_left = refl

at_middle : tree_cell (root_tree glider) (pos 0) (pos 0) ≡ 0
at_middle = refl

outside : tree_cell (root_tree glider) (pos 8) (negsuc 5) ≡ 0
outside = refl

last_state : tree_cell (root_tree states) (pos 1) (pos 1) ≡ 255
last_state = refl

first_state : tree_cell (root_tree states) (negsuc 1) (negsuc 1) ≡ 7
first_state = refl

-- ---- texts read back

abbrev file_of : List ℕ → Macrocell
file_of bytes = record { rule = rule_in_force (lines_of bytes); generation = generation_in_force (lines_of bytes); lines = squares_of (lines_of bytes) }

glider_back : squares_of (lines_of (mc_text (record { rule = rule_in_force []; generation = 0; lines = glider }))) ≡ glider
unfolding rule_of life_sets four_sets digits leaf_row_text
glider_back = refl

states_back : file_of (mc_text (file_of (codes "[M2]\n#R Foo\n#G 007\n1 0 0 0 255\n2 0 0 1 0"))) ≡ file_of (codes "[M2]\n#R Foo\n#G 7\n1 0 0 0 255\n2 0 0 1 0")
unfolding rule_of life_sets four_sets digits leaf_row_text
states_back = refl

-- ---- node lines

unreached : node_lines (file_of (codes "[M2]\n#R Foo\n\n1 0 0 0 255\n#C unreached\n1 0 0 0 1\n2 0 0 1 0")) ≡ 3
unfolding rule_of life_sets four_sets
unreached = refl
