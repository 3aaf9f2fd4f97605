-- Worked examples of the definitions.
use Rattle.std.proofs.Common.{◌≡◌, ◌+◌, ◌*◌, None, Some, pos, negsuc, refl}
use Rattle.life_base.specs.Tree.{Tree, point, quad, depth, blank, tree_cell as cell}
use Rattle.life_quad.specs.Moves.{trimmed_square, grown_square}
use Rattle.life_quad.specs.Store.{small_square, small_of}
use Rattle.life_quad.specs.Cells.{population}

-- a square of level 2 with the one cell (0, 0) of state 7
abbrev one : Tree
one = quad (blank 1) (blank 1) (blank 1) (quad (point 7) (point 0) (point 0) (point 0))

one-depth : depth one ≡ 2
one-depth = refl

one-corner : cell one (pos 0) (pos 0) ≡ 7
one-corner = refl

one-west : cell one (negsuc 0) (pos 0) ≡ 0
one-west = refl

one-last : cell one (negsuc 1) (negsuc 1) ≡ 0
one-last = refl

-- outside the square
one-outside : cell one (pos 2) (pos 0) ≡ 0
one-outside = refl

one-population : population (grown_square one) ≡ 1
one-population = refl

-- growing keeps the cell, and trimming takes every growth away
grown-corner : cell (grown_square one) (pos 0) (pos 0) ≡ 7
grown-corner = refl

grown-trimmed : trimmed_square (grown_square (grown_square one)) 1 ≡ quad (point 0) (point 0) (point 0) (point 7)
grown-trimmed = refl

-- a least level stops the trimming
grown-least : depth (trimmed_square (grown_square (grown_square (grown_square one))) 3) ≡ 3
grown-least = refl

blank-trimmed : trimmed_square (blank 3) 1 ≡ blank 1
blank-trimmed = refl

-- a cell of column 2 is in the way of the last step
far : Tree
far = quad (blank 2) (blank 2) (blank 2) (quad (blank 1) (quad (point 1) (point 0) (point 0) (point 0)) (blank 1) (blank 1))

far-cell : cell far (pos 2) (pos 0) ≡ 1
unfolding far
far-cell = refl

far-trimmed : depth (trimmed_square (grown_square (grown_square far)) 1) ≡ 3
unfolding far
far-trimmed = refl

-- a small square of level 1 has its cells in its number, and one of level 2 the digits of its quarters
two_cells : small_square (512 + 9) ≡ quad (point 1) (point 0) (point 0) (point 1)
unfolding small_square
two_cells = refl

four_cells : small_square (528 + 4096 * 9 + 1) ≡ quad (quad (point 1) (point 0) (point 0) (point 1)) (blank 1) (blank 1)
    (quad (point 0) (point 0) (point 0) (point 1))
unfolding small_square
four_cells = refl

-- the numbers of four cells, and of four squares of level 1, the blank one among them
number_of_cells : small_of 1 0 0 1 ≡ Some 521
unfolding small_of
number_of_cells = refl

number_of_squares : small_of 521 256 256 513 ≡ Some 37393
unfolding small_of
number_of_squares = refl

-- a state above 1 and a square of level 2 make no small square
number_of_others : small_of 1 0 0 2 ≡ None
unfolding small_of
number_of_others = refl

number_of_four : small_of 37393 257 257 257 ≡ None
unfolding small_of
number_of_four = refl
