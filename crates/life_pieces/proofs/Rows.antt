-- Worked examples, computed.
use Rattle.std.proofs.Common.{◌≡◌, ℕ, ℤ, pos, negsuc, refl, ◌&&◌, int_le, if◌then◌else◌}
use Rattle.life_base.specs.Tree.{point, quad}
use Rattle.life_pieces.specs.Pieces.{IsPiece, step_back, step_ahead}

-- the cells of a diagonal
abbrev diagonal : ℤ → ℤ → ℕ
diagonal x y = if int_le x y && int_le y x then 1 else 0

cell : IsPiece diagonal (negsuc 0) (negsuc 0) (point 1)
cell = refl

square : IsPiece diagonal (pos 3) (pos 3) (quad (point 1) (point 0) (point 0) (point 1))
square = (refl, refl, refl, refl)

further_east : IsPiece diagonal (pos 3) (pos 2) (quad (point 0) (point 0) (point 1) (point 0))
further_east = (refl, refl, refl, refl)

larger : IsPiece diagonal (negsuc 1) (pos 0)
    (quad (quad (point 0) (point 0) (point 0) (point 0)) (quad (point 1) (point 0) (point 0) (point 1)) (quad (point 0) (point 0) (point 0) (point 0))
    (quad (point 0) (point 0) (point 0) (point 0)))
larger = ((refl, refl, refl, refl), (refl, refl, refl, refl), (refl, refl, refl, refl), (refl, refl, refl, refl))

two_west : step_back (pos 1) 2 ≡ negsuc 0
two_west = refl

two_east : step_ahead (negsuc 0) 2 ≡ pos 1
two_east = refl
