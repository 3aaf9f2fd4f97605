-- The words of the contracts of this crate.
pub use Rattle.life_base.specs.Refusal.{fault_of, IsMemory}
pub use Rattle.life_base.specs.Rules.{has_digit}
pub use Rattle.life_base.specs.Tree.{depth, point, tree_cell}
pub use Rattle.life_block.specs.Bits.{AreFourRows, AreNineRows, AreSixteenRows, AreThreeRows, leaf_of_cells, square_of_leaves}
pub use Rattle.life_block.specs.Corners.{at_corner, in_middle}
pub use Rattle.life_block.specs.Laws.{IsNextAt, IsNextOfNine, IsPieceBy, RemembersBy}
pub use Rattle.life_block.specs.Needed.{HasClearEdge, level_after, next_plane, next_square, SomeOfNext, SomeOfNine, SomeOfSixteen}
pub use Rattle.life_block.specs.Remembered.{RemembersBlocks}
pub use Rattle.life_next.specs.Generation.{one_after, one_before, IsNextLife, next_life}
pub use Rattle.life_pieces.specs.Bits.{HasRows}
pub use Rattle.life_pieces.specs.Pieces.{AreFour, AreNine, AreSixteen, ids_of_nine, InFour, InNine, InSixteen, IsBinary, IsOfLevel, IsPiece, IsWhereBinary}
pub use Rattle.life_pieces.specs.Pieces.{Nine as NineValue, square_from, step_ahead, step_back}
pub use Rattle.life_quad.specs.Grows.{IsShortageIn, KeepsStore}
pub use Rattle.life_quad.specs.Keeping.{AddsOnly, IsShortageFault}
pub use Rattle.life_quad.specs.Memory.{Recalls}
pub use Rattle.life_quad.specs.Refused.{SomePart}
pub use Rattle.life_quad.specs.Store.{eight, four, two}
pub use Rattle.life_quad.specs.declared.id.Id.{Id as IdValue}
pub use Rattle.life_sweep.specs.Generation.{LifeAnswers, states_at}
pub use Rattle.life_sweep.specs.Refused.{GenerationRefusal, SomeNext}
pub use Rattle.life_table.specs.Meaning.{Becomes}
pub use Rattle.std.specs.Int.{bit_at}
