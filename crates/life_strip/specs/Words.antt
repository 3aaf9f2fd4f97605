-- The words of the contracts of this crate.
pub use Rattle.life_base.specs.Refusal.{IsMemory}
pub use Rattle.life_base.specs.Tree.{blank, depth, point, state_at, Tree, tree_cell}
pub use Rattle.life_base.specs.declared.cell.Run.{Run as RunValue}
pub use Rattle.life_lanes.specs.Places.{place_in}
pub use Rattle.life_quad.specs.Grows.{Grows, GrowsOnly}
pub use Rattle.life_quad.specs.Moves.{CanJoin, quad_of}
pub use Rattle.life_quad.specs.Refused.{SomePart}
pub use Rattle.life_quad.specs.Store.{four}
pub use Rattle.life_quad.specs.declared.id.Id.{Id as IdValue}
pub use Rattle.life_strip.specs.Band.{block_goes_to, cells_among_four, IsAtBlock, IsLeastOfFour, IsPastBlocks, square_of_words, word_in}
pub use Rattle.life_strip.specs.Blocks.{AddsCells, AreRowBlocks, AreBlocksBefore, IsRowBlock, IsBlockBefore, cell_in_blocks, cell_in_word, four_in, two_in}
pub use Rattle.life_strip.specs.Filling.{EmptyFills, FillingStays, IsEmpty, IsFilling}
pub use Rattle.life_strip.specs.Given.{AreInOrder, AreNext, by_columns, half_plane, IsAfterRun, IsNextRunStart, IsRunOnPlane, RunsAreApart, RunsGrow, state_by}
pub use Rattle.life_strip.specs.Middle.{AreAdjacent, AreSouth, EndsInCell, EndsWithCell, HasConsumedNorth, IsAboutMiddle, IsBlankNorth, IsBlankTo, IsMiddleSquare}
pub use Rattle.life_strip.specs.Middle.{IsSouthLevel, SomeAboutMiddle, SomeOfMiddle, SomeWider}
pub use Rattle.life_strip.specs.Needed.{SomeColumn, SomeOfRuns, SomeSquare}
pub use Rattle.life_strip.specs.Open.{AreOpen, blocks_of}
pub use Rattle.life_strip.specs.Picture.{AreFalling, AreStacked, height, IsLowest, IsNotLast, IsSoundStrip, IsStack, picture, state_in_strip}
pub use Rattle.life_strip.specs.Pile.{HasClosedRows, IsPile, pile_height, pile_state, pile_state_with, SomeOfPile}
pub use Rattle.life_strip.specs.Plane.{AddsRun, BeginsRow, cell_so_far, IsFilled, IsFree, IsUnfilled, state_so_far}
pub use Rattle.life_strip.specs.Row.{FillsRow, IsRow, IsRowBefore, row_state, rows_state, WidensRow}
pub use Rattle.life_strip.specs.RowWords.{AreRowWords, cell_in_words, IsFilledAbove}
pub use Rattle.life_strip.specs.Strip.{AreBefore, AreWithin, EndsAfter, FilledTo, goes_to, HaveColumns, id_at, id_or, IsAt, IsExtended}
pub use Rattle.life_strip.specs.Strip.{AreOnlyColumns, ArePieces, HasSpan, IsOnly, IsPaired, IsPast, IsStrip, IsWalk, quad_at, Rise, square_at, square_in, with_squares}
pub use Rattle.life_strip.specs.declared.spans.Span.{Span as SpanValue}
pub use Rattle.life_strip.specs.declared.spans.Strip.{Strip as StripValue}
pub use Rattle.std.specs.Borrow.{ftrue}
pub use Rattle.std.specs.Int.{bit_at}
pub use Rattle.std.specs.Vec.{vec_capacity, vec_len}
