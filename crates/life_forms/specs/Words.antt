-- The words of the contracts of this crate.
pub use Rattle.life_base.specs.Refusal.{IsMemory, OrMemory, fault_of}
pub use Rattle.life_base.specs.Rules.{IsRule}
pub use Rattle.life_base.specs.Tree.{depth, quad, Tree, tree_cell}
pub use Rattle.life_base.specs.declared.cell.TheConstants.{MAX_LEVEL}
pub use Rattle.life_base.specs.declared.kind.Kind.TheVariants.{Full, Memory}
pub use Rattle.life_base.specs.declared.rule.Rule.{Rule}
pub use Rattle.life_pattern.specs.Store.{IsNew}
pub use Rattle.life_pattern.specs.Store.{IsTrimmed, universe_in, IsKnown, content}
pub use Rattle.life_writer.specs.Lesser.{IsLesserText, IsUpTo}
pub use Rattle.life_writer.specs.Texts.{IsOrdered}
pub use Rattle.life_pattern.specs.Universe.{Universe, is_life, square_universe, least_level}
pub use Rattle.life_forms.specs.Corners.{HasSidesUpTo, IsCorner, IsLesserOfThree, IsNearPlane, IsSquareAt, block_tree, corner_root, corner_tree, leaf_line, seated, square_start, with_leaf}
pub use Rattle.life_forms.specs.Forms.{IsShift, IsTurnedShift, IsMoved, IsInPlace}
pub use Rattle.life_forms.specs.Images.{AreSmall, IsCornerLeaf, IsImageText, IsLeastOfTwo, IsLesserOfTwo, IsLowerBound, IsMiddling, IsTurnedText, leaf_start}
pub use Rattle.life_forms.specs.Laws.{TurnsAreEight, TurnsAreClosed, TurnsHaveInverses, ImagesStayOnPlane, ImagesKeepShifts, ShiftsHaveOneSize, TurnsHaveOneSize, MovedFormsExist, MovedFormsAreOnPlane, MovedFormsTellShifts, MovedFormsAreFixed, MovedTextsTellShifts, MovedTextsTellFiles, TurnedTextsTellFiles, MovedTextsAreFiles, TurnedTextsAreFiles, FilesHaveForms, ForFaithfulTexts, TurnedFormsExist, TurnedFormsAreOnPlane, TurnedTextsTellTurns, TurnedFormsAreFixed}
pub use Rattle.life_forms.specs.Needed.{HasLargeForm, HasLargeImage, HasLargerForm, IsMovedRoot, RefusesTurning, SomeOfMovedForm, SomeOfMovedRoot}
pub use Rattle.life_forms.specs.Turns.{image, opposite_coordinate, turn_of}
pub use Rattle.life_mc.specs.Macrocell.{largest_state}
pub use Rattle.life_mc.specs.Writing.{header_lines_text, node_text}
pub use Rattle.life_mc.specs.declared.line.Line.TheVariants.{Leaf}
pub use Rattle.life_quad.specs.Cells.{IsBoundingBoxOfTree as IsSquareBox}
pub use Rattle.life_quad.specs.Keeping.{AddsOnly, IsShortageKind}
pub use Rattle.life_quad.specs.Store.{eight, stored_squares}
pub use Rattle.life_slide.specs.Pieces.{IsNearMiddle}
pub use Rattle.life_base.specs.Tree.{is_blank_tree}
pub use Rattle.life_writer.specs.Listing.{number_of_quarter, place, rows_of, square_text}
pub use Rattle.life_pattern.specs.Universe.{square}
pub use Rattle.life_quad.specs.Turning.{one_of_four, side_of, turned_half}
pub use Rattle.life_quad.specs.Turning.{turned_tree}
