-- The words of the contracts of this crate.
pub use Rattle.life_base.specs.Rules.{has_digit}
pub use Rattle.life_base.specs.Tree.{depth, is_blank_tree, tree_cell, quad}
pub use Rattle.life_pieces.specs.Pieces.{IsBinary, IsOfLevel, IsPiece, step_ahead, step_back}
pub use Rattle.life_leap.specs.After.{after, AfterAdds, DependsOnNear, leap_length, IsBlankBeyond}
pub use Rattle.life_leap.specs.Edge.{HasCellOutside, IsInBox, IsInRing, TestsBlank, three_ahead}
pub use Rattle.life_leap.specs.Grid.{AreCorners, AreKnownCorners, AreFourJoined, AreFourSquares, AreNineJoined, AreThreeInner, AreThreeJoined, IsInnerBlock, NineBlocks, nine_blocks_of, AreNineSquares, AreSixteenSquares, AreThreeBlocks, AreThreeSquares, blocks_of_rows, eastern_block, InFourIds, InRow, InTriple, IsBlockAt, AreTripleFrom, IsTwoAt, western_block}
pub use Rattle.life_leap.specs.Leaps.{AreMiddlesOfRows, AreMiddlesOfSixteen, AreThreeMiddles, IsFirstPart, HasEnds, HasPlaneMargin, HasMargin, IsBlankSquareBeyond, IsMiddleAfter, IsMiddleOfBlock, IsMiddleOfNine, LeapsDouble, RemembersLeaps}
pub use Rattle.life_quad.specs.IdMap.{value_of_id}
pub use Rattle.life_quad.specs.Moves.{CanJoin, quad_of, quads_of}
pub use Rattle.life_quad.specs.Grows.{IsShortageIn, KeepsStore}
pub use Rattle.life_quad.specs.declared.id.Id.{Id as IdValue}
pub use Rattle.life_quad.specs.declared.moves.Quarters.{Quarters as QuartersValue}
pub use Rattle.life_base.specs.Sets.{OuterTotalistic}
pub use Rattle.life_leap.specs.Bands.{AreBandsWithin, HasBandWithin}
pub use Rattle.life_base.specs.Tree.{point}
pub use Rattle.life_base.specs.declared.kind.Kind.TheVariants.{OutOfPlane}
pub use Rattle.life_pieces.specs.Bits.{HasSquareBits}
pub use Rattle.life_pieces.specs.Pieces.{IsWhereBinary}
pub use Rattle.life_lanes.specs.Places.{place_in}
pub use Rattle.life_quad.specs.Store.{eight, four, two}
pub use Rattle.life_next.specs.Generation.{next_life}
pub use Rattle.std.specs.Int.{bit_at}
