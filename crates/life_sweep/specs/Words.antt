-- The words of the contracts of this crate.
pub use Rattle.life_base.specs.Refusal.{fault_of, IsMemory}
pub use Rattle.life_base.specs.Rules.{has_digit, most_neighbours}
pub use Rattle.life_base.specs.Tree.{depth, tree_cell}
pub use Rattle.life_quad.specs.Grows.{IsShortageIn, KeepsStore}
pub use Rattle.life_quad.specs.Keeping.{AddsOnly, IsShortageFault}
pub use Rattle.life_strip.specs.Filling.{IsEmpty, IsFilling}
pub use Rattle.life_strip.specs.Given.{IsAfterRun, IsNextRunStart, IsRunOnPlane, state_by}
pub use Rattle.life_next.specs.Generation.{one_after}
pub use Rattle.life_sweep.specs.Generation.{LifeAnswers, LifeAnswersAt, neighbours_among, neighborhood_of_rule, states_at, TableAnswers, TableAnswersAt}
pub use Rattle.life_sweep.specs.LawFacts.{life_quiet, SameImages, table_positive, table_quiet, two_positive}
pub use Rattle.life_sweep.specs.RunBuilder.{drawn_runs, IsHolding, one_cell}
pub use Rattle.life_sweep.specs.Refused.{GenerationRefusal, SomeAbove, SomeNext, SomeOfAll}
pub use Rattle.life_sweep.specs.Rows.{AreBelow, AreInside, AreRows, AreSorted, BeginsAt, column_at, far, first_coordinate, GoesOn, GoesSouth, InRows}
pub use Rattle.life_sweep.specs.Rows.{is_blank_column, IsBandOfRows, IsBandBelow, IsBlankBefore, IsColumn, IsFar, IsFarRow, IsInside, IsNextPlace, IsNextRow}
pub use Rattle.life_sweep.specs.Rows.{IsOfSweep, IsRest, IsRestOf, IsSortedList, IsSoundBand, IsSoundWindow, IsWindow, IsWindowBelow, left_in, no_column}
pub use Rattle.life_sweep.specs.Rows.{rows_left, SomeStartsAt, start_of_sweep, StartsAt, StartsFrom, states_of_window, steps_left}
pub use Rattle.life_sweep.specs.Sweep.{IsFirstAmbiguous, IsPut, IsReadyFrom, IsReadyRow, IsScene, IsSorted, IsSweptRows, RefusesStep}
pub use Rattle.life_table.specs.Meaning.{Ambiguous, Answer, Becomes, count_of}
pub use Rattle.life_table.specs.declared.table.Neighborhood.TheVariants.{VonNeumann}
pub use Rattle.life_table.specs.declared.table.Symmetry.TheVariants.{Rotate4}
pub use Rattle.std.specs.List.Sorted.{IsPermutation}
