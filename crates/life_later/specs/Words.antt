-- The words of the contracts of this crate.
pub use Rattle.life_base.specs.Tree.{depth, tree_cell}
pub use Rattle.life_later.specs.Margins.{IsBoxOnPlane, IsPlaneMargin}
pub use Rattle.life_leap.specs.After.{after}
pub use Rattle.life_quad.specs.Cells.{IsBoundingBoxOfTree}
pub use Rattle.life_quad.specs.Grows.{KeepsStore}
pub use Rattle.life_later.specs.Course.{IsCourse, IsCourseFault, IsFaultApart, LeavesWithin}
pub use Rattle.life_later.specs.Stores.{IsKnownInShared, KeepsShared}
pub use Rattle.life_leap.specs.Leaps.{RemembersLeaps}
pub use Rattle.life_quad.specs.IdMap.{value_of_id}
pub use Rattle.life_quad.specs.Store.{content, stored_squares}
pub use Rattle.life_quad.specs.Keeping.{IsShortageFault}
