-- The words of the contracts of this crate.
pub use Rattle.life_base.specs.Refusal.{fault_of, IsMemory}
pub use Rattle.life_base.specs.Rules.{rule_text}
pub use Rattle.life_base.specs.Tree.{depth, is_blank_tree, state_at}
pub use Rattle.life_base.specs.Writing.{LeavesSink, WritesPrefix, WritesText}
pub use Rattle.life_base.specs.declared.bounds.Bounds.{Bounds as BoundsValue}
pub use Rattle.life_base.specs.declared.cell.TheConstants.{MAX_LEVEL}
pub use Rattle.life_base.specs.declared.kind.Kind.{Kind as KindValue}
pub use Rattle.life_base.specs.declared.kind.Kind.TheVariants.{Memory, TooManyCells, WriteFault}
pub use Rattle.life_mc.specs.Cells.{node_lines}
pub use Rattle.life_mc.specs.Macrocell.{largest_state}
pub use Rattle.life_mc.specs.Squares.{HasStatesUpTo, leaf_tree}
pub use Rattle.life_mc.specs.Writing.{header_lines_text, node_text}
pub use Rattle.life_mc.specs.declared.line.Line.{Line as LineValue}
pub use Rattle.life_mc.specs.declared.line.Line.TheVariants.{Leaf}
pub use Rattle.life_pattern.specs.Bits.{square_of_bits}
pub use Rattle.life_pattern.specs.Files.{Same}
pub use Rattle.life_pattern.specs.Store.{content, ForEachFile, IsKnown, IsOfFile, IsTrimmed, RefusesIn, universe_in}
pub use Rattle.life_pattern.specs.Universe.{is_life, least_level}
pub use Rattle.life_quad.specs.Cells.{IsBoundingBoxOfTree, population}
pub use Rattle.life_quad.specs.Store.{four, Knows}
pub use Rattle.life_quad.specs.Turning.{turned_tree}
pub use Rattle.life_rle.specs.Written.{box_side}
pub use Rattle.life_writer.specs.Counting.{CountsLines, line_count, number_count}
pub use Rattle.life_writer.specs.Laws.{CanonicalIsLeast}
pub use Rattle.life_writer.specs.Laws.{RleTextsAreFiles, RleTextsKeepPatterns, SquaresHavePlaces, TextsAreFiles}
pub use Rattle.life_writer.specs.Laws.{TextsAreFixed, TextsKeepPatterns, TextsTellPatterns, TextsTellUniverses, WiderPlaneKeepsTexts, WiderPlanesKeepFiles}
pub use Rattle.life_writer.specs.Least.{IsLeastLineCount}
pub use Rattle.life_writer.specs.Lesser.{LesserHolds, IsLesser, IsLesserText, IsOldHeld, IsOldLesser, IsUpTo, IsWithinTexts, LinesCome}
pub use Rattle.life_writer.specs.LesserLaws.{no-lines-come, old-is-lesser}
pub use Rattle.life_writer.specs.Listing.{canon_text, canonical_file, is_in, is_small, lines_for, listed_squares, number_of_quarter, rows_of, square_file, square_text}
pub use Rattle.life_writer.specs.PieceLaws.{piece-begins, piece-stops, no_failure}
pub use Rattle.life_writer.specs.Pieces.{PieceBreaks, PieceTakes, WritesPart}
pub use Rattle.life_writer.specs.Rows.{row_of_four, row_of_two, rows_side_by_side}
pub use Rattle.life_writer.specs.Texts.{AreOrdered, box_text, FileHasMoreCells, IsOrdered, IsRleOf, IsShownText, show_text}
pub use Rattle.life_writer.specs.Walking.{BreaksOff, HasNumbersFrom, MayWalk, MayWalkPattern, RefusesWalk, seen_in, Walked}
pub use Rattle.std.specs.Fmt.{signed_decimal}
