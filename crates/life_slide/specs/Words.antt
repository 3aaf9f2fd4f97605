-- The words of the contracts of this crate.
pub use Rattle.life_base.specs.declared.cell.TheConstants.{MAX_LEVEL}
pub use Rattle.life_base.specs.Tree.{depth, quad, Tree, tree_cell}
pub use Rattle.life_pieces.specs.Bits.{HasRows, HasSquareBits}
pub use Rattle.life_pieces.specs.Pieces.{square_from}
pub use Rattle.life_pieces.specs.Pieces.{InFour, InNine, IsOfLevel, IsPiece, step_ahead}
pub use Rattle.life_lanes.specs.Places.{place_in}
pub use Rattle.life_quad.specs.Cells.{IsBoundingBoxOfTree}
pub use Rattle.life_quad.specs.Grows.{IsShortageIn, KeepsStore}
pub use Rattle.life_quad.specs.Keeping.{AddsOnly}
pub use Rattle.life_quad.specs.Refused.{SomePart}
pub use Rattle.life_quad.specs.Store.{eight, four}
pub use Rattle.life_quad.specs.declared.id.Id.{Id as IdValue}
pub use Rattle.life_quad.specs.declared.moves.Quarters.{Quarters as QuartersValue}
pub use Rattle.life_slide.specs.Margins.{AreMarginsOfFour, AreMargins, AreMarginsOf, IsAlong, IsSeenOrOther, IsSeenAs, Misses}
pub use Rattle.life_slide.specs.Needed.{own_square_at, SomeOfBlock, SomeOfNineSquares}
pub use Rattle.life_slide.specs.Parts.{AreAlike, AreFirstsByFour, ArePartsOf, AreViews, first_side, IsLike, key_of_quarters, second_side, TableGives}
pub use Rattle.life_slide.specs.Pieces.{AreFourPieces, AreNinePieces, AreTwo, eastern_quarters, HasBlockAt, in_corner, InBlock, IsBlock, IsNearMiddle, plane_from, root_from, side_origin, side_start, start, three_from, western_quarters}
pub use Rattle.life_slide.specs.Remembered.{key_of_block, IsSlideAnswer, RemembersSlides}
pub use Rattle.life_slide.specs.declared.sides.Side.{Side as SideValue}
pub use Rattle.life_slide.specs.declared.sides.Side.TheVariants.{All, From, Nothing, Until}
pub use Rattle.life_slide.specs.declared.table.Key.{Key as KeyValue}
pub use Rattle.life_slide.specs.declared.table.Table.{Table as TableValue}
pub use Rattle.std.specs.Int.{bit_at}
