use Rattle.std.proofs.Common.{◌≡◌, ℤ, w64, to_z, of_z, to_z-of_z, FitsSigned, rules}
use Rattle.std.specs.Int.{int_min, int_max}
use Rattle.life_rle.proofs.bounds.bounds_with.Goals as goal

-- the least or the greatest of two numbers of the type
side : (least : ℤ → ℤ → ℤ) (n a b : ℤ) → FitsSigned w64 n → FitsSigned w64 a → FitsSigned w64 b
    → n ≡ least (to_z w64 (of_z w64 a)) (to_z w64 (of_z w64 b)) → to_z w64 (of_z w64 n) ≡ least a b
side least n a b f g h e = simp to_z-of_z (simp to_z-of_z at e)

pub returns-clause-left : goal.returns-clause-left
returns-clause-left c = side int_min c.min.result c.args.bounds.left c.args.cell.now.x (search rules) (search rules) (search rules) c.min.ensures.value

pub returns-clause-top : goal.returns-clause-top
returns-clause-top c = side int_min c.min-2.result c.args.bounds.top c.args.cell.now.y (search rules) (search rules) (search rules) c.min-2.ensures.value

pub returns-clause-right : goal.returns-clause-right
returns-clause-right c = side int_max c.max.result c.args.bounds.right c.args.cell.now.x (search rules) (search rules) (search rules) c.max.ensures.value

pub returns-clause-bottom : goal.returns-clause-bottom
returns-clause-bottom c = side int_max c.max-2.result c.args.bounds.bottom c.args.cell.now.y (search rules) (search rules) (search rules) c.max-2.ensures.value
