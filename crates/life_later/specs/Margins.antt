-- Boxes on the plane, and their distance to its edge.
use Rattle.std.specs.Prelude.{ℕ, ◌^◌, pos, neg_ℤ, ◌≤ℤ◌, ◌<ℤ◌}
use Rattle.life_base.specs.declared.bounds.Bounds.{Bounds}
use Rattle.life_pieces.specs.Pieces.{step_ahead, step_back}
use Rattle.life_leap.specs.Edge.{IsPlaneCoordinate}

-- the box is on the plane
pub record IsBoxOnPlane (box : Bounds) : Type 0 where
  pub left : IsPlaneCoordinate box.left
  pub top : IsPlaneCoordinate box.top
  pub right : IsPlaneCoordinate box.right
  pub bottom : IsPlaneCoordinate box.bottom

-- the box with n more columns and rows on each side is on the plane
pub record IsPlaneMargin (box : Bounds) (n : ℕ) : Type 0 where
  pub left : neg_ℤ (pos (2 ^ 61)) ≤ℤ step_back box.left n
  pub top : neg_ℤ (pos (2 ^ 61)) ≤ℤ step_back box.top n
  pub right : step_ahead box.right n <ℤ pos (2 ^ 61)
  pub bottom : step_ahead box.bottom n <ℤ pos (2 ^ 61)
