-- The squares of a square, each once, in the order of a walk, and the node lines of a canonical file. The canonical form is the
-- project's own; node lines are of Golly Help (File Formats, macrocell).
use Rattle.std.specs.Prelude.{ℕ, suc, ◌+◌, ◌*◌, Bool, false, ◌&&◌, ◌||◌, if◌then◌else◌, ◌==◌, nat_lt, List, [], ◌∷◌, ◌++◌, map}
use Rattle.life_base.specs.Tree.{Tree, point, quad, depth, state_at, is_blank_tree}
use Rattle.life_base.specs.declared.rule.Rule.{Rule}
use Rattle.life_mc.specs.Macrocell.{Macrocell}
use Rattle.life_mc.specs.Writing.{mc_text}
use Rattle.life_mc.specs.declared.line.Line.{Line}
use Rattle.life_mc.specs.declared.line.Line.TheVariants.{Leaf, Quad}
use Rattle.life_pattern.specs.Universe.{Universe, is_life, least_level, whole}

-- a blank square, or one below the level m
abbrev pub is_small : ℕ → Tree → Bool
is_small m t = is_blank_tree t || nat_lt (depth t) m

-- The walk over a square: nothing if it is blank or below the level m (1 or more); else the walks of its quarters, north-west,
-- north-east, south-west, south-east, and then the square itself.
abbrev pub walk : Tree → ℕ → List Tree
walk (point state) m = []
walk (quad nw ne sw se) m =
    if is_small m (quad nw ne sw se)
    then []
    else walk nw m ++ (walk ne m ++ (walk sw m ++ (walk se m ++ quad nw ne sw se ∷ [])))

-- whether the two squares are equal
abbrev pub same_tree : Tree → Tree → Bool
same_tree (point a) (point b) = a == b
same_tree (point a) (quad nw ne sw se) = false
same_tree (quad nw ne sw se) (point b) = false
same_tree (quad a b c d) (quad e f g h) = same_tree a e && same_tree b f && same_tree c g && same_tree d h

-- whether the square is one of the list
abbrev pub is_in : List Tree → Tree → Bool
is_in [] t = false
is_in (s ∷ ss) t = same_tree s t || is_in ss t

-- the list, and after it the square if it isn't there yet
abbrev pub with_new : List Tree → Tree → List Tree
with_new known t = if is_in known t then known else known ++ t ∷ []

-- the list, and after it each square that isn't there yet, at its first place alone
abbrev pub with_all : List Tree → List Tree → List Tree
with_all known [] = known
with_all known (t ∷ ts) = with_all (with_new known t) ts

-- the squares of the walk, each at its first place alone
unfoldable pub listed_squares : Tree → ℕ → List Tree
listed_squares t m = with_all [] (walk t m)

-- how many squares of the list stand before the first place of t
abbrev pub place : List Tree → Tree → ℕ
place [] t = 0
place (s ∷ ss) t = if same_tree s t then 0 else suc (place ss t)

-- the number that stands for a quarter in a node line: a cell's state, 0 for a blank square, else its place counted from 1
abbrev pub number_of_quarter : List Tree → Tree → ℕ
number_of_quarter all (point state) = state
number_of_quarter all (quad nw ne sw se) = if is_blank_tree (quad nw ne sw se) then 0 else suc (place all (quad nw ne sw se))

-- a row of a square of level 3 as a byte, its western cell the highest bit
abbrev pub row_byte : Tree → ℕ → ℕ
row_byte t y =
    128 * state_at t 0 y + 64 * state_at t 1 y + 32 * state_at t 2 y + 16 * state_at t 3 y
    + 8 * state_at t 4 y + 4 * state_at t 5 y + 2 * state_at t 6 y + state_at t 7 y

-- the eight rows of a square of level 3
unfoldable pub rows_of : Tree → List ℕ
rows_of t =
    row_byte t 0 ∷ row_byte t 1 ∷ row_byte t 2 ∷ row_byte t 3 ∷ row_byte t 4 ∷ row_byte t 5 ∷ row_byte t 6 ∷ row_byte t 7 ∷ []

-- the node line of four quarters, by their numbers
abbrev pub quad_line : List Tree → Tree → Line
quad_line all (point state) = Quad 0 0 0 0 0
quad_line all (quad nw ne sw se) =
    Quad (depth (quad nw ne sw se)) (number_of_quarter all nw) (number_of_quarter all ne) (number_of_quarter all sw) (number_of_quarter all se)

-- the node line of a square of the list: a leaf at level 3 under a B/S rule
abbrev pub line_of : Rule → List Tree → Tree → Line
line_of rule all t = if is_life rule && depth t == 3 then Leaf (rows_of t) else quad_line all t

-- one node line for each square of the list
abbrev pub lines_for : Rule → List Tree → List Line
lines_for rule all = map (line_of rule all) all

-- the macrocell file of a square
abbrev pub square_file : Rule → ℕ → Tree → Macrocell
square_file rule generation t =
    record { rule = rule; generation = generation; lines = lines_for rule (listed_squares t (least_level rule)) }

-- its text
abbrev pub square_text : Rule → ℕ → Tree → List ℕ
square_text rule generation t = mc_text (square_file rule generation t)

-- the canonical file
unfoldable pub canonical_file : ℕ → Universe → Macrocell
canonical_file top u = square_file u.rule u.generation (whole top u)

-- the canonical text
unfoldable pub canon_text : ℕ → Universe → List ℕ
canon_text top u = mc_text (canonical_file top u)
