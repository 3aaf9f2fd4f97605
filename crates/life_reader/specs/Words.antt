-- The words of the contracts of this crate.
pub use Rattle.life_base.specs.DeviceRuns.{source_run}
pub use Rattle.life_base.specs.Lines.{has_no_feed, whole_lines}
pub use Rattle.life_base.specs.Refusal.{fault_at, fault_of, Prefix}
pub use Rattle.life_base.specs.Tree.{depth, Tree, tree_cell}
pub use Rattle.life_base.specs.declared.cell.TheConstants.{MAX_LEVEL}
pub use Rattle.life_base.specs.declared.fault.Fault.{Fault as FaultValue}
pub use Rattle.life_base.specs.declared.kind.Kind.TheVariants.{Full, Memory, NoHeader, Spent}
pub use Rattle.life_base.specs.declared.rule.Rule.{Rule as RuleValue}
pub use Rattle.life_mc.specs.Cells.{macrocell_cell, leaf_cell, root_level}
pub use Rattle.life_mc.specs.Macrocell.{is_quarter, IsSquare, IsValidMacrocell, level_of, Macrocell}
pub use Rattle.life_mc.specs.Reading.{AcceptsMacrocell, broken_rule, squares_of}
pub use Rattle.life_mc.specs.Squares.{leaf_tree, line_tree, tree_at, tree_of}
pub use Rattle.life_mc.specs.declared.line.Line.{Line as LineValue}
pub use Rattle.life_pattern.specs.Files.{Breaks, is_macrocell, Says}
pub use Rattle.life_pattern.specs.Store.{content, IsKnown, IsPatternOf, IsRead, IsShortageOf, Keeps, RefusesIn}
pub use Rattle.life_pattern.specs.Universe.{least_level, Universe}
pub use Rattle.life_quad.specs.Grows.{Grows, GrowsOnly}
pub use Rattle.life_quad.specs.Keeping.{IsShortageKind}
pub use Rattle.life_quad.specs.Moves.{CanJoin, quad_of, quads_of}
pub use Rattle.life_quad.specs.Refused.{SomeOf, SomePart}
pub use Rattle.life_quad.specs.Store.{four, stored_squares, Nodes}
pub use Rattle.life_reader.specs.Building.{IsBuilt}
pub use Rattle.life_reader.specs.Calls.{EndsInto, FeedsInto, ReadsInto, Stores, StoresFile, StoresIn, StoresLines}
pub use Rattle.life_reader.specs.Feeding.{IsOverAt, RefusesPrefix, Stands}
pub use Rattle.life_reader.specs.Filling.{AreSquaresIn, ForLines, ForMacrocell, HasGrown}
pub use Rattle.life_reader.specs.Laws.{FaultsStay}
pub use Rattle.life_reader.specs.Laws.{LengthHidesNoFault, LengthsStay, ReadersStand}
pub use Rattle.life_reader.specs.Needs.{LacksForPrefix, SomeAtEnd, SomeGrown, SomeOfLine, SomeOfLines, SomeOfMacrocell, SomeRoot}
pub use Rattle.life_reader.specs.Prefixes.{HasBytes, IsFilePrefixIn, IsOpenIn, TakesLine}
pub use Rattle.life_reader.specs.Reading.{ReadsPattern}
pub use Rattle.life_reader.specs.Space.{AddsLines, FewSquares, PrefixesHold, HoldsFile, HoldsPrefix, sufficient_for, LimitSuffices}
pub use Rattle.life_reader.specs.Taking.{bytes_of, IsEnd, IsFilePrefixOf, IsOpen, IsOver, IsReadyToTake, StandsFor, consumed_lines}
pub use Rattle.life_reader.specs.Waiting.{HasJoined, IsReadyFor, KeepsLines, NamesFirst}
pub use Rattle.life_reader.specs.declared.progress.TheConstants.{MOST_WAITING}
pub use Rattle.life_rle.specs.Decided.{LacksHeader}
pub use Rattle.life_rle.specs.File.{HasRuns}
pub use Rattle.life_rle.specs.Grammar.{BreaksRle, IsSomeRle}
pub use Rattle.life_strip.specs.Filling.{IsFilling}
pub use Rattle.std.specs.Str.{byte}
