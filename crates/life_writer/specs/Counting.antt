-- How many cells of a state other than 0 the squares of node lines have.
use Rattle.std.specs.Prelude.{◌≡◌, ℕ, ◌+◌, ◌-◌, ◌^◌, ◌<◌, ◌==◌, if◌then◌else◌, List, [], ◌∷◌, ◌++◌, All, slice_index_or}
use Rattle.life_mc.specs.Squares.{leaf_tree}
use Rattle.life_mc.specs.declared.line.Line.{Line}
use Rattle.life_mc.specs.declared.line.Line.TheVariants.{Leaf, Quad}
use Rattle.life_quad.specs.Cells.{population}

-- those of what a number stands for in a line of this level, where the squares of the lines before have so many
abbrev pub number_count : List ℕ → ℕ → ℕ → ℕ
number_count counts level number = if number == 0 then 0 else if level == 1 then 1 else slice_index_or counts (number - 1) 0

-- those of the square of a line
abbrev pub line_count : List ℕ → Line → ℕ
line_count counts (Leaf rows) = population (leaf_tree rows)
line_count counts (Quad level nw ne sw se) =
    number_count counts level nw + number_count counts level ne + number_count counts level sw + number_count counts level se

-- those of the squares of some lines, after those of the lines before
abbrev pub line_counts : List ℕ → List Line → List ℕ
line_counts counts [] = counts
line_counts counts (line ∷ lines) = line_counts (counts ++ line_count counts line ∷ []) lines

-- these lines were counted too, unless a square of them has 2^128 cells or more
abbrev pub CountsLines : List ℕ → List ℕ → List Line → Type 0
CountsLines old new lines = All (λ n. n < 2 ^ 128) (line_counts old lines) → new ≡ line_counts old lines
