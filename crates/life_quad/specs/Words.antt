-- The words of the contracts of this crate.
pub use Rattle.life_base.specs.Refusal.{IsMemory}
pub use Rattle.life_base.specs.Tree.{blank, depth, IsFull, is_blank_tree, point, quad, quarters, state_at, Tree}
pub use Rattle.life_base.specs.declared.kind.Kind.TheVariants.{Full, Memory, TooManyCells}
pub use Rattle.life_quad.specs.Bands.{band_cells, InBand, IsPlaced, piece_unless_blank, live_cells, lower, northern, pair_of, part_cells, pieces, row_cells, row_states}
pub use Rattle.life_quad.specs.Bands.{southern, upper}
pub use Rattle.life_quad.specs.Cells.{IsCellList, IsBoundingBoxOfTree, IsRunInside, population, SetsRun}
pub use Rattle.life_quad.specs.Distances.{AreLeast, Faces, HasCellAt, HasCellInTwo, IsLeastOf, lesser_of}
pub use Rattle.life_quad.specs.Grows.{Makes, MakesSquare, MakesSomeSquare}
pub use Rattle.life_quad.specs.IdMap.{HasPage, SetsValue, value_of_id}
pub use Rattle.life_quad.specs.IdNumbers.{first_of, IsInNumberRange, number_by}
pub use Rattle.life_quad.specs.Laws.{BlankByCells, CellsAreListed, CellsLieInside, EqualByCells, EqualByPlane, EqualSquaresHaveOneId, GrowingKeepsCells}
pub use Rattle.life_quad.specs.Laws.{KnownSquaresAreFull, ListIsPopulation, TrimmedByCells, TrimmedIsFixed, TrimmedIsLowest, TrimmingIgnoresGrowth}
pub use Rattle.life_quad.specs.Laws.{TrimmingKeepsCells, TrimmingStops}
pub use Rattle.life_quad.specs.Memory.{SlotHolds, number_of_id, Recalls}
pub use Rattle.life_quad.specs.Moves.{AreQuarters, can_trim, CanJoin, grown_square, inner, quad_of, quads_of, trimmed_square}
pub use Rattle.life_quad.specs.Pages.{index_in, place_of}
pub use Rattle.life_quad.specs.Refused.{SomeOf, SomePart, TrimmedTo}
pub use Rattle.life_quad.specs.Span.{SetsHalves, SetsSpan}
pub use Rattle.life_quad.specs.Store.{AnswersJoin, AreFound, content, digit_id, eight, four, HasQuarters, stored_squares, id_of, is_bit_id, is_blank_id, is_digit_id, IsFoundId}
pub use Rattle.life_quad.specs.Store.{IsIdWithin, IsNode, IsShared, IsSmall, IsSoundStore, Knows, levels_of, node_square, Nodes, small_number_of, small_of, small_square, square_of}
pub use Rattle.life_quad.specs.Store.{squares, two}
pub use Rattle.life_quad.specs.StoreLaws.{full_content, low_content, same_id}
pub use Rattle.life_quad.specs.declared.id.Id.{Id as IdValue}
pub use Rattle.life_quad.specs.declared.id.Node.{Node as NodeValue}
pub use Rattle.life_quad.specs.declared.id.TheConstants.{FIRST_NODE}
pub use Rattle.life_quad.specs.declared.memory.Slot.{Slot as SlotValue}
pub use Rattle.std.specs.Borrow.{ftrue}
pub use Rattle.std.specs.Coded.{coded_list, coded_ℕ}
