-- The words of the contracts of this crate.
pub use Rattle.life_base.specs.Tree.{depth, tree_cell}
pub use Rattle.life_later.specs.Course.{IsCourseFault, LeavesWithin}
pub use Rattle.life_later.specs.Margins.{IsBoxOnPlane}
pub use Rattle.life_later.specs.Stores.{IsKnownInShared, KeepsShared}
pub use Rattle.life_leap.specs.After.{after}
pub use Rattle.life_phases.specs.Laws.{GenerationsKeepShifts, PeriodsAreUnique, ShiftsKeepPeriods}
pub use Rattle.life_phases.specs.Middle.{AreAsLarge, IsAsLargeAs, IsMiddleSide, IsSquareInMiddle, IsMiddleWay, IsMovedBy, NoShift}
pub use Rattle.life_phases.specs.Periods.{IsFirstFault, IsPeriodFault, IsPeriodUpTo, LeavesFirst, LeavesFromMiddle, still_life}
pub use Rattle.life_quad.specs.Cells.{IsBoundingBoxOfTree}
pub use Rattle.life_quad.specs.Grows.{IsShortageIn, KeepsStore}
pub use Rattle.life_quad.specs.Keeping.{IsShortageKind}
pub use Rattle.life_quad.specs.Moves.{trimmed_square}
pub use Rattle.life_quad.specs.Store.{content, stored_squares}
