-- The words of the contracts of this crate.
pub use Rattle.life_base.specs.Refusal.{IsMemory}
pub use Rattle.life_base.specs.Rules.{has_digit}
pub use Rattle.life_base.specs.Tree.{depth, tree_cell}
pub use Rattle.life_quad.specs.Grows.{KeepsStore}
pub use Rattle.life_quad.specs.Keeping.{AddsOnly}
pub use Rattle.life_rows.specs.Needed.{SomeNextAbove, SomeNextOfRuns}
pub use Rattle.life_rows.specs.RowCells.{AddsWord, AreAt, AreWestOf, AreColumns, AreInner, AreWordsBefore, HasNoCells, IsRowAt, IsBlankFrom, IsNextWord, IsVisited, next_in_row}
pub use Rattle.life_rows.specs.RowCells.{place_ahead, PutsCells}
pub use Rattle.life_rows.specs.Stepping.{IsBetweenRows, IsStepping, IsThreeRows, run_cells}
pub use Rattle.life_strip.specs.Given.{AreNext, half_plane, IsNextRunStart, IsRunOnPlane, state_by}
pub use Rattle.life_strip.specs.Needed.{SomeSquare}
pub use Rattle.life_strip.specs.Plane.{state_so_far}
pub use Rattle.life_strip.specs.RowWords.{AreRowWords, cell_in_words, IsFilledAbove}
pub use Rattle.life_strip.specs.declared.row_builder.RowWord.{RowWord as RowWordValue}
pub use Rattle.life_next.specs.Generation.{next_life}
